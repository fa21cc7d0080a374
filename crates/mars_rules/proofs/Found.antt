-- From places of keys to places of rules.
use Rattle.std.proofs.Common.{◌≡◌, ◌⊎◌, ℕ, zero, suc, ◌<◌, ◌≤◌, List, [], ◌∷◌, length, min, get_or, slice_get, Option, Some, None, refl, sym, ap, ◌∙◌, subst, arith, inl, inr}
use Rattle.std.proofs.lemmas.Bool.{cases_lt}
use Rattle.std.proofs.lemmas.Option.{same_Some, none-some, slice_get_within, slice_get_cases, get_or_from_slice_get}
use Rattle.mars_tree.specs.declared.label.Label.{Label}
use Rattle.mars_term.specs.declared.clause.Rule.{Rule}
use Rattle.mars_rules.specs.declared.flat.FlatRule.{FlatRule}
use Rattle.mars_rules.specs.FlatRules.{IsFlatRule}
use Rattle.mars_rules.specs.declared.keys.HeadKey.{HeadKey}
use Rattle.mars_rules.specs.PairedLists.{AllPaired}
use Rattle.mars_rules.specs.TermTrees.{label_of_term, arguments_of}
use Rattle.mars_rules.specs.Candidates.{FitsGoal, FitsFirst, AllowsLabel, label_of_first, IsLeastRule, IsFirstRule}
use Rattle.mars_rules.specs.PlacesInside.{IsFirstOfKey, IsAllowedAt, IsFirstAllowed, IsRising, places_of_key}
use Rattle.mars_rules.proofs.Filing.{at_place, place_of, places_rise}
use Rattle.mars_rules.specs.BaseInside.{IsHeadKey, IsFirstKey, earlier_of}

-- the item of the other list at a place
pub item-at : {X Y : Type 0} (R : X → Y → Type 0) (xs : List X) (ys : List Y) → AllPaired R xs ys → (k : ℕ) (x : X) → slice_get xs k ≡ Some x → (y : Y) × (slice_get ys k ≡ Some y) × R x y
item-at R [] ys h k x e = absurd (none-some x e)
item-at R (a ∷ xs) [] h k x e = absurd h
item-at R (a ∷ xs) (b ∷ ys) h zero x e = (b, refl, subst (λ z. R z b) (same_Some a x e) h.0)
item-at R (a ∷ xs) (b ∷ ys) h (suc k) x e = item-at R xs ys h.1 k x e

pub item-back : {X Y : Type 0} (R : X → Y → Type 0) (xs : List X) (ys : List Y) → AllPaired R xs ys → (k : ℕ) (y : Y) → slice_get ys k ≡ Some y → (x : X) × (slice_get xs k ≡ Some x) × R x y
item-back R [] [] h k y e = absurd (none-some y e)
item-back R [] (b ∷ ys) h k y e = absurd h
item-back R (a ∷ xs) [] h k y e = absurd h
item-back R (a ∷ xs) (b ∷ ys) h zero y e = (a, refl, subst (R a) (same_Some b y e) h.0)
item-back R (a ∷ xs) (b ∷ ys) h (suc k) y e = item-back R xs ys h.1 k y e

-- the first place of a key is that of the rules that have it
pub first-of : (IsKey : Rule → HeadKey → Type 0) (Fits : Rule → Type 0) (key : HeadKey) → ((rule : Rule) (k : HeadKey) → IsKey rule k → Fits rule → k ≡ key)
    → ((rule : Rule) (k : HeadKey) → IsKey rule k → k ≡ key → Fits rule) → (rules : List Rule) (keys : List HeadKey) → AllPaired IsKey rules keys → (from : ℕ) (found : Option ℕ)
    → IsFirstOfKey keys key from found → IsFirstRule Fits rules from found
first-of IsKey Fits key has fits rules keys each from None none = λ place rule h e f.
    let k = item-at IsKey rules keys each place rule e in none place h (k.1 ∙ ap (λ (x : HeadKey). Some x) (has rule k.0 k.2 f))
first-of IsKey Fits key has fits rules keys each from (Some found) (late, at, least) =
    let r = item-back IsKey rules keys each found key at in
    record {
      rule = r.0;
      at = r.1;
      fits = fits r.0 key r.2 refl;
      late = late;
      least = λ place other h l e f. let k = item-at IsKey rules keys each place other e in least place h l (k.1 ∙ ap (λ (x : HeadKey). Some x) (has other k.0 k.2 f));
    }

same-key : (a b : HeadKey) → a.label ≡ b.label → a.first ≡ b.first → a ≡ b
same-key a b e f i = record { label = e i; first = f i }

-- by the label of the head
pub head-first : (label : Label) (rules : List Rule) (keys : List HeadKey) → AllPaired IsHeadKey rules keys → (from : ℕ) (found : Option ℕ)
    → IsFirstOfKey keys (record { label = label; first = None }) from found → IsFirstRule (FitsGoal (Some label)) rules from found
head-first label =
    first-of IsHeadKey (FitsGoal (Some label)) (record { label = label; first = None })
    (λ rule k is fits. same-key k (record { label = label; first = None }) (same_Some k.label label (sym is.label ∙ fits)) is.first)
    (λ rule k is same. is.label ∙ ap (λ (x : HeadKey). Some x.label) same)

-- the head's label, and that of its first argument
abbrev pub HasFirst : Label → Option Label → Rule → Type 0
HasFirst label first rule = (label_of_term rule.head ≡ Some label) × (label_of_first (arguments_of rule.head) ≡ first)

pub argument-first : (label : Label) (first : Option Label) (rules : List Rule) (keys : List HeadKey) → AllPaired IsFirstKey rules keys → (from : ℕ) (found : Option ℕ)
    → IsFirstOfKey keys (record { label = label; first = first }) from found → IsFirstRule (HasFirst label first) rules from found
argument-first label first =
    first-of IsFirstKey (HasFirst label first) (record { label = label; first = first })
    (λ rule k is fits. same-key k (record { label = label; first = first }) (same_Some k.label label (sym is.label ∙ fits.0)) (is.first ∙ fits.1))
    (λ rule k is same. (is.label ∙ ap (λ (x : HeadKey). Some x.label) same, sym is.first ∙ ap (λ (x : HeadKey). x.first) same))

-- of two kinds of rules the earlier first one
pub earlier-first : (P Q Fits : Rule → Type 0) → ((rule : Rule) → Fits rule → P rule ⊎ Q rule) → ((rule : Rule) → P rule → Fits rule) → ((rule : Rule) → Q rule → Fits rule) → (rules : List Rule) (from : ℕ)
    (a b : Option ℕ) → IsFirstRule P rules from a → IsFirstRule Q rules from b → IsFirstRule Fits rules from (earlier_of a b)
earlier-first P Q Fits split left right rules from None None f g = λ place rule h e fits. elim (split rule fits) [ inl p ↦ f place rule h e p | inr q ↦ g place rule h e q ]
earlier-first P Q Fits split left right rules from None (Some b) f g = record {
  rule = g.rule;
  at = g.at;
  fits = right g.rule g.fits;
  late = g.late;
  least = λ place other h l e fits. elim (split other fits) [ inl p ↦ f place other h e p | inr q ↦ g.least place other h l e q ];
}
earlier-first P Q Fits split left right rules from (Some a) None f g = record {
  rule = f.rule;
  at = f.at;
  fits = left f.rule f.fits;
  late = f.late;
  least = λ place other h l e fits. elim (split other fits) [ inl p ↦ f.least place other h l e p | inr q ↦ g place other h e q ];
}
earlier-first P Q Fits split left right rules from (Some a) (Some b) f g = go (cases_lt a b)
  where
    go : (a < b) ⊎ (b ≤ a) → IsLeastRule Fits rules from (min a b)
    go (inl l) =
        let e : a ≡ min a b = omega arith in
        subst (IsLeastRule Fits rules from) e (record {
          rule = f.rule;
          at = f.at;
          fits = left f.rule f.fits;
          late = f.late;
          least = λ place other h w e fits. elim (split other fits) [ inl p ↦ f.least place other h w e p | inr q ↦ g.least place other h (omega arith) e q ];
        })
    go (inr l) =
        let e : b ≡ min a b = omega arith in
        subst (IsLeastRule Fits rules from) e (record {
          rule = g.rule;
          at = g.at;
          fits = right g.rule g.fits;
          late = g.late;
          least = λ place other h w e fits. elim (split other fits) [ inl p ↦ f.least place other h (omega arith) e p | inr q ↦ g.least place other h w e q ];
        })

-- by the labels of the head and of its first argument
pub by-first : (label first : Label) (rules : List Rule) (keys : List HeadKey) → AllPaired IsFirstKey rules keys → (from : ℕ) (a b : Option ℕ)
    → IsFirstOfKey keys (record { label = label; first = None }) from a → IsFirstOfKey keys (record { label = label; first = Some first }) from b
    → IsFirstRule (FitsFirst (Some label) (Some first)) rules from (earlier_of a b)
by-first label first rules keys each from a b f g =
    earlier-first (HasFirst label None) (HasFirst label (Some first)) (FitsFirst (Some label) (Some first)) (λ rule fits. split rule fits.0 (label_of_first (arguments_of rule.head)) refl fits.1)
    (λ rule p. (p.0, subst (AllowsLabel first) (sym p.1) tt)) (λ rule q. (q.0, subst (AllowsLabel first) (sym q.1) refl)) rules from a b
    (argument-first label None rules keys each from a f) (argument-first label (Some first) rules keys each from b g)
  where
    split : (rule : Rule) → label_of_term rule.head ≡ Some label → (o : Option Label) → label_of_first (arguments_of rule.head) ≡ o → AllowsLabel first (label_of_first (arguments_of rule.head))
        → HasFirst label None rule ⊎ HasFirst label (Some first) rule
    split rule is None e allows = inl (is, e)
    split rule is (Some own) e allows = let same : own ≡ first = subst (AllowsLabel first) e allows in inr (is, e ∙ ap (λ (x : Label). Some x) same)

-- a rule with a head's label is among the places of that label
place-in : (label : Label) (rules : List Rule) (heads : List HeadKey) → AllPaired IsHeadKey rules heads → (place : ℕ) (rule : Rule) → slice_get rules place ≡ Some rule
    → label_of_term rule.head ≡ Some label → (k : ℕ) × (slice_get (places_of_key 0 heads (record { label = label; first = None })) k ≡ Some place)
place-in label rules heads each place rule at is =
    let h = item-at IsHeadKey rules heads each place rule at in
    let same : h.0 ≡ record { label = label; first = None } = same-key h.0 (record { label = label; first = None }) (same_Some h.0.label label (sym h.2.label ∙ is)) h.2.first in
    at_place heads (record { label = label; first = None }) place (h.1 ∙ ap (λ (x : HeadKey). Some x) same)

-- the key of a rule allows what its head's first argument allows
allowed-at : (first : Label) (rules : List Rule) (keys : List HeadKey) → AllPaired IsFirstKey rules keys → (place : ℕ) (rule : Rule) → slice_get rules place ≡ Some rule
    → AllowsLabel first (label_of_first (arguments_of rule.head)) → IsAllowedAt keys first place
allowed-at first rules keys each place rule at allows =
    let h = item-at IsFirstKey rules keys each place rule at in (h.0, h.1, subst (AllowsLabel first) (sym h.2.first) allows)

-- and no more
head-allows : (first : Label) (rules : List Rule) (keys : List HeadKey) → AllPaired IsFirstKey rules keys → (place : ℕ) (rule : Rule) → slice_get rules place ≡ Some rule
    → IsAllowedAt keys first place → AllowsLabel first (label_of_first (arguments_of rule.head))
head-allows first rules keys each place rule at (key, there, allows) =
    let h = item-at IsFirstKey rules keys each place rule at in
    let same : key ≡ h.0 = same_Some key h.0 (sym there ∙ h.1) in
    subst (AllowsLabel first) h.2.first (subst (λ (k : HeadKey). AllowsLabel first k.first) same allows)

-- the lesser of rising numbers is the earlier one
index-before : (places : List ℕ) → IsRising places → (i j n m : ℕ) → slice_get places i ≡ Some n → slice_get places j ≡ Some m → n < m → i < j
index-before places rise i j n m e f l = go (cases_lt i j)
  where
    later : (j < i) ⊎ (i ≤ j) → j ≤ i → i < j
    later (inl h) w = let r = rise j i m n h f e in absurd (omega arith)
    later (inr h) w = let same : i ≡ j = omega arith in let v = same_Some n m (sym e ∙ ap (slice_get places) same ∙ f) in absurd (omega arith)

    go : (i < j) ⊎ (j ≤ i) → i < j
    go (inl h) = h
    go (inr h) = later (cases_lt j i) h

-- by the label of the head, and then by each rule's first argument
pub among-first : (label first : Label) (rules : List Rule) (heads keys : List HeadKey) → AllPaired IsHeadKey rules heads → AllPaired IsFirstKey rules keys → (from : ℕ) (found : Option ℕ)
    → IsFirstAllowed keys (places_of_key 0 heads (record { label = label; first = None })) first from found → IsFirstRule (FitsFirst (Some label) (Some first)) rules from found
among-first label first rules heads keys have each from None none = λ place rule late at fits.
    let k = place-in label rules heads have place rule at fits.0 in
    none k.0 place k.1 late (allowed-at first rules keys each place rule at fits.1)
among-first label first rules heads keys have each from (Some found) (at, there, late, allowed, least) =
    let key : HeadKey = record { label = label; first = None } in
    let p = place_of 0 heads key at found there in
    let same : found ≡ p.distance = let q = p.place_is in omega arith in
    let r = item-back IsHeadKey rules heads have found key (ap (slice_get heads) same ∙ p.has) in
    record {
      rule = r.0;
      at = r.1;
      fits = (r.2.label, head-allows first rules keys each found r.0 r.1 allowed);
      late = late;
      least = λ place other l before e fits.
          let k = place-in label rules heads have place other e fits.0 in
          let earlier = index-before (places_of_key 0 heads key) (places_rise 0 heads key) k.0 at place found k.1 there before in
          least k.0 place earlier k.1 l (allowed-at first rules keys each place other e fits.1);
    }

-- any rule from a place on
pub any-rule : (rules : List Rule) (from : ℕ) → from < length rules → IsFirstRule (FitsGoal None) rules from (Some from)
any-rule rules from h = elim (slice_get_cases rules from).1 [
  | inl (r, w, e, g) ↦ record { rule = r; at = e; fits = tt; late = omega arith; least = λ place other l w e fits. absurd (omega arith) }
  | inr (w, e) ↦ absurd (omega arith)
]

pub no-rule : (rules : List Rule) (from : ℕ) → length rules ≤ from → IsFirstRule (FitsGoal None) rules from None
no-rule rules from h = λ place rule l e fits. let w = slice_get_within rules place rule e in omega arith

-- the rule at a place, laid out
pub flat-at : (rules : List Rule) (flats : List FlatRule) → AllPaired IsFlatRule rules flats → (k : ℕ) (rule : Rule) (d : FlatRule) → slice_get rules k ≡ Some rule → IsFlatRule rule (get_or flats k d)
flat-at rules flats each k rule d e =
    let f = item-at IsFlatRule rules flats each k rule e in
    subst (IsFlatRule rule) (sym (get_or_from_slice_get flats k f.0 d f.1)) f.2

pub some-flat : (rules : List Rule) (flats : List FlatRule) → AllPaired IsFlatRule rules flats → (k : ℕ) (d : FlatRule) → k < length rules → (rule : Rule) × IsFlatRule rule (get_or flats k d)
some-flat rules flats each k d h = elim (slice_get_cases rules k).1 [
  | inl (rule, w, e, g) ↦ (rule, flat-at rules flats each k rule d e)
  | inr (w, e) ↦ absurd (omega arith)
]

-- a goal that leaves its first argument's label open
pub open-first : (goal first : Option Label) (rules : List Rule) (from : ℕ) (found : Option ℕ) → ((label argument : Label) → goal ≡ Some label → first ≡ Some argument → ⊥)
    → IsFirstRule (FitsGoal goal) rules from found → IsFirstRule (FitsFirst goal first) rules from found
open-first None first rules from found none f = f
open-first (Some label) None rules from found none f = f
open-first (Some label) (Some argument) rules from found none f = absurd (none label argument refl refl)
