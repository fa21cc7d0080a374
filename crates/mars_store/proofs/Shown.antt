-- What is known of a system is read off one graph.
use Rattle.std.proofs.Common.{◌≡◌, ◌⊎◌, ℕ, ◌+◌, ◌<◌, List, [], ◌∷◌, length, map, get_or, slice_get, Option, Some, None, option_map, option_and_then, refl, sym, ap, ◌∙◌, subst, arith, inl, inr}
use Rattle.std.proofs.lemmas.List.{nil_from_length}
use Rattle.std.proofs.lemmas.List.Elements.{All-get_or}
use Rattle.std.proofs.lemmas.List.FromFn.{get_or-map-range_with_len}
use Rattle.std.proofs.lemmas.Option.{slice_get-get_or, slice_get_within, get_or_from_slice_get, slice_get-map, none-some}
use Rattle.mars_tree.specs.declared.label.Label.{Label}
use Rattle.mars_tree.specs.Graph.{Node, Shown, label as at_label, free as at_free, label_of, kids_of, free_leaf, arity_at, at, shown_at}
use Rattle.mars_store.specs.Valuation.{Valuation, value, IsValuation}
use Rattle.mars_store.specs.System.{System, IsSystem, resolve}
use Rattle.mars_store.specs.Solutions.{InSol, over, plain, plain_label, constant, AreNew}
use Rattle.mars_store.specs.Laws.{IsForced, IsUnforced, IsImplied, new_names}
use Rattle.mars_store.specs.Shown.{resolved_node, resolved, shown, IsPlace, LabelsShown, LeavesShown, SameShown}
use Rattle.mars_store.proofs.Solving.{cases-label, solution-last, solution-over, last-inside, at-labelled, plain-solves, plain-over, kids-inside, number-of, same-label}
use Rattle.mars_store.proofs.Plain.{plain_decides, new_names-new}

-- a label, a free leaf, or nothing
shown-cases : (x : Option Shown) → ((label : Label) × (x ≡ Some (at_label label))) ⊎ (((leaf : ℕ) × (x ≡ Some (at_free leaf))) ⊎ (x ≡ None))
shown-cases (Some (at_label label)) = inl (label, refl)
shown-cases (Some (at_free leaf)) = inr (inl (leaf, refl))
shown-cases None = inr (inr refl)

free-label : (label : Label) (leaf : ℕ) → Some (at_free leaf) ≡ Some (at_label label) → ⊥
free-label label leaf e = cc

-- the name of a free leaf in place of the leaf
abbrev named : (ℕ → ℕ) → Option Shown → Option Shown
named names (Some (at_label label)) = Some (at_label label)
named names (Some (at_free n)) = Some (at_label (constant (names n)))
named names None = None

-- a free leaf's own number, and nothing below it
abbrev leaf_end : ℕ → List ℕ → Option Shown
leaf_end n [] = Some (at_free n)
leaf_end n (place ∷ path) = None

module _ (system : System) (sound : IsSystem system) where
  abbrev count : ℕ
  count = length system.nodes

  abbrev end : ℕ → ℕ
  end n = resolve system.bound n

  resolved-at : (n : ℕ) → n < count → get_or (resolved system) n free_leaf ≡ resolved_node system n
  resolved-at n h = get_or-map-range_with_len (resolved_node system) 0 count n n free_leaf h (omega arith)

  pub end-inside : (n : ℕ) → n < count → end n < count
  end-inside n h = last-inside system sound (λ k. k) n h

  no-kids : (n : ℕ) → label_of system.nodes n ≡ None → kids_of system.nodes n ≡ []
  no-kids n e = nil_from_length (kids_of system.nodes n) ((sound.older n).kids ∙ ap arity_at e)

  pub shown-over : (n : ℕ) → n < count → (label : Label) → label_of system.nodes (end n) ≡ Some label
      → (path : List ℕ) → shown system n path ≡ over label (kids_of system.nodes (end n)) (shown system) path
  shown-over n h label e path =
      let here = resolved-at (end n) (end-inside n h) in
      at-labelled (resolved system) (end n) label (ap (λ (m : Node). m.label) here ∙ e) path
      ∙ ap (λ ks. over label ks (at (resolved system)) path) (ap (λ (m : Node). m.kids) here)
      ∙ go path
    where
      at_kid : (o : Option ℕ) (path : List ℕ) → option_and_then (λ kid. at (resolved system) kid path) (option_map (resolve system.bound) o) ≡ option_and_then (λ kid. shown system kid path) o
      at_kid None path = refl
      at_kid (Some kid) path = refl

      go : (path : List ℕ) → over label (map (resolve system.bound) (kids_of system.nodes (end n))) (at (resolved system)) path ≡ over label (kids_of system.nodes (end n)) (shown system) path
      go [] = refl
      go (place ∷ path) = rw (slice_get-map (resolve system.bound) (kids_of system.nodes (end n)) place) (at_kid (slice_get (kids_of system.nodes (end n)) place) path)

  shown-leaf : (n : ℕ) → n < count → label_of system.nodes (end n) ≡ None
      → (path : List ℕ) → shown system n path ≡ leaf_end (end n) path
  shown-leaf n h e [] =
      let here = resolved-at (end n) (end-inside n h) in
      rw (ap (λ (m : Node). m.label) here ∙ e) refl
  shown-leaf n h e (place ∷ path) =
      let here = resolved-at (end n) (end-inside n h) in
      rw (ap (λ (m : Node). m.kids) here ∙ ap (map (resolve system.bound)) (no-kids (end n) e)) refl

  kid-inside : (n : ℕ) → n < count → (place kid : ℕ) → slice_get (kids_of system.nodes (end n)) place ≡ Some kid → kid < count
  kid-inside n h place kid k =
      subst (λ m. m < count) (get_or_from_slice_get (kids_of system.nodes (end n)) place kid 0 k)
      (All-get_or (λ m. m < count) (kids_of system.nodes (end n)) place 0 (slice_get_within (kids_of system.nodes (end n)) place kid k)
      (kids-inside system sound (λ k. k) (end n) (end-inside n h)))

  plain-leaf : (names : ℕ → ℕ) (n : ℕ) → n < count → label_of system.nodes (end n) ≡ None
      → (path : List ℕ) → value (plain system names) n path ≡ named names (leaf_end (end n) path)
  plain-leaf names n h e [] = plain-over system sound names n h [] ∙ rw e refl
  plain-leaf names n h e (place ∷ path) = plain-over system sound names n h (place ∷ path) ∙ rw (no-kids (end n) e) refl

  plain-label : (names : ℕ → ℕ) (n : ℕ) → n < count → (label : Label) → label_of system.nodes (end n) ≡ Some label
      → (path : List ℕ) → value (plain system names) n path ≡ over label (kids_of system.nodes (end n)) (value (plain system names)) path
  plain-label names n h label e path =
      plain-over system sound names n h path
      ∙ ap (λ o. over (plain_label (names (end n)) o) (kids_of system.nodes (end n)) (value (plain system names)) path) e

  plain-step : (names : ℕ → ℕ) (path : List ℕ) (n : ℕ) → n < count
      → ((label : Label) → over label (kids_of system.nodes (end n)) (value (plain system names)) path ≡ named names (over label (kids_of system.nodes (end n)) (shown system) path))
      → value (plain system names) n path ≡ named names (shown system n path)
  plain-step names path n h step =
      elim (cases-label (label_of system.nodes (end n))) [
        | inl e ↦ plain-leaf names n h e path ∙ ap (named names) (sym (shown-leaf n h e path))
        | inr (label, e) ↦ plain-label names n h label e path ∙ step label ∙ ap (named names) (sym (shown-over n h label e path))
      ]

  named-kid : (names : ℕ → ℕ) (path : List ℕ) (o : Option ℕ)
      → ((kid : ℕ) → o ≡ Some kid → value (plain system names) kid path ≡ named names (shown system kid path))
      → option_and_then (λ kid. value (plain system names) kid path) o ≡ named names (option_and_then (λ kid. shown system kid path) o)
  named-kid names path None same = refl
  named-kid names path (Some kid) same = same kid refl

  -- the plain valuation is the graph with names for its leaves
  pub plain-shown : (names : ℕ → ℕ) (path : List ℕ) (n : ℕ) → n < count → value (plain system names) n path ≡ named names (shown system n path)
  plain-shown names [] n h = plain-step names [] n h (λ label. refl)
  plain-shown names (place ∷ path) n h =
      plain-step names (place ∷ path) n h (λ label.
      named-kid names path (slice_get (kids_of system.nodes (end n)) place) (λ kid k. plain-shown names path kid (kid-inside n h place kid k)))

  -- what the graph shows of the tree in a solution
  abbrev KnownAs : Valuation → Option Shown → Option Shown → Type 0
  KnownAs v (Some (at_label label)) there = there ≡ Some (at_label label)
  KnownAs v (Some (at_free n)) there = (n < count) × (there ≡ value v n [])
  KnownAs v None there = Unit {0}

  known-leaf : (v : Valuation) → InSol system v → (n : ℕ) → n < count → (path : List ℕ) → KnownAs v (leaf_end (end n) path) (value v n path)
  known-leaf v sol n h [] = (end-inside n h, solution-last v system.bound sol.bound n [])
  known-leaf v sol n h (place ∷ path) = tt

  known-step : (v : Valuation) → InSol system v → (path : List ℕ) (n : ℕ) → n < count
      → ((label : Label) → KnownAs v (over label (kids_of system.nodes (end n)) (shown system) path) (over label (kids_of system.nodes (end n)) (value v) path))
      → KnownAs v (shown system n path) (value v n path)
  known-step v sol path n h step =
      elim (cases-label (label_of system.nodes (end n))) [
        | inl e ↦ subst (λ s. KnownAs v s (value v n path)) (sym (shown-leaf n h e path)) (known-leaf v sol n h path)
        | inr (label, e) ↦
            subst (λ s. KnownAs v s (value v n path)) (sym (shown-over n h label e path))
            (subst (KnownAs v (over label (kids_of system.nodes (end n)) (shown system) path)) (sym (solution-over system v sol n label e path)) (step label))
      ]

  known-kid : (v : Valuation) (path : List ℕ) (o : Option ℕ)
      → ((kid : ℕ) → o ≡ Some kid → KnownAs v (shown system kid path) (value v kid path))
      → KnownAs v (option_and_then (λ kid. shown system kid path) o) (option_and_then (λ kid. value v kid path) o)
  known-kid v path None same = tt
  known-kid v path (Some kid) same = same kid refl

  pub known : (v : Valuation) → InSol system v → (path : List ℕ) (n : ℕ) → n < count → KnownAs v (shown system n path) (value v n path)
  known v sol [] n h = known-step v sol [] n h (λ label. refl)
  known v sol (place ∷ path) n h =
      known-step v sol (place ∷ path) n h (λ label.
      known-kid v path (slice_get (kids_of system.nodes (end n)) place) (λ kid k. known v sol path kid (kid-inside n h place kid k)))

  shown-forced : (n : ℕ) → n < count → (path : List ℕ) (label : Label) → shown system n path ≡ Some (at_label label) → IsForced system n path label
  shown-forced n h path label e v sol = subst (λ s. KnownAs v s (value v n path)) e (known v sol path n h)

  forced-shown : (n : ℕ) → n < count → (path : List ℕ) (label : Label) → IsForced system n path label → shown system n path ≡ Some (at_label label)
  forced-shown n h path label forced =
      let names : ℕ → ℕ = λ k. number-of label + 1 in
      let there : named names (shown system n path) ≡ Some (at_label label) = sym (plain-shown names path n h) ∙ forced (plain system names) (plain-solves system sound names) in
      elim (shown-cases (shown system n path)) [
        | inl (other, e) ↦ e ∙ (rw e at there)
        | inr (inl (leaf, e)) ↦
            let same : constant (number-of label + 1) ≡ label = same-label _ _ (rw e at there) in
            let number : number-of label + 1 ≡ number-of label = ap number-of same in
            absurd (omega arith)
        | inr (inr e) ↦ absurd (none-some (at_label label) (rw e at there))
      ]

  -- a label that the graph shows is one of the system
  abbrev StandsIn : Label → Type 0
  StandsIn label = (m : ℕ) × (label_of system.nodes m ≡ Some label)

  leaf-label : (n : ℕ) (path : List ℕ) (label : Label) → leaf_end n path ≡ Some (at_label label) → ⊥
  leaf-label n [] label e = free-label label n e
  leaf-label n (place ∷ path) label e = none-some (at_label label) e

  stands-step : (path : List ℕ) (n : ℕ) → n < count → (label : Label)
      → ((l : Label) → label_of system.nodes (end n) ≡ Some l → over l (kids_of system.nodes (end n)) (shown system) path ≡ Some (at_label label) → StandsIn label)
      → shown system n path ≡ Some (at_label label) → StandsIn label
  stands-step path n h label step e =
      elim (cases-label (label_of system.nodes (end n))) [
        | inl none ↦ absurd (leaf-label (end n) path label (sym (shown-leaf n h none path) ∙ e))
        | inr (l, is) ↦ step l is (sym (shown-over n h l is path) ∙ e)
      ]

  stands-kid : (path : List ℕ) (label : Label) (o : Option ℕ)
      → ((kid : ℕ) → o ≡ Some kid → shown system kid path ≡ Some (at_label label) → StandsIn label)
      → option_and_then (λ kid. shown system kid path) o ≡ Some (at_label label) → StandsIn label
  stands-kid path label None step e = absurd (none-some (at_label label) e)
  stands-kid path label (Some kid) step e = step kid refl e

  stands : (path : List ℕ) (n : ℕ) → n < count → (label : Label) → shown system n path ≡ Some (at_label label) → StandsIn label
  stands [] n h label e = stands-step [] n h label (λ l is q. (end n, is ∙ ap Some (same-label l label q))) e
  stands (place ∷ path) n h label e =
      stands-step (place ∷ path) n h label (λ l is q.
      stands-kid path label (slice_get (kids_of system.nodes (end n)) place) (λ kid k w. stands path kid (kid-inside n h place kid k) label w) q) e

  -- names of their own tell what the graph shows
  named-same : (names : ℕ → ℕ) → AreNew system names → (x y : Option Shown)
      → ((label : Label) → x ≡ Some (at_label label) → StandsIn label) → ((label : Label) → y ≡ Some (at_label label) → StandsIn label)
      → named names x ≡ named names y → x ≡ y
  named-same names new (Some (at_label a)) (Some (at_label b)) hx hy e = e
  named-same names new (Some (at_label a)) (Some (at_free k)) hx hy e =
      let s = hx a refl in absurd (new.new k s.0 (s.1 ∙ ap Some (same-label a (constant (names k)) e)))
  named-same names new (Some (at_label a)) None hx hy e = absurd (none-some (at_label a) (sym e))
  named-same names new (Some (at_free j)) (Some (at_label b)) hx hy e =
      let s = hy b refl in absurd (new.new j s.0 (s.1 ∙ ap Some (same-label b (constant (names j)) (sym e))))
  named-same names new (Some (at_free j)) (Some (at_free k)) hx hy e =
      ap (λ n. Some (at_free n)) (new.different j k (ap number-of (same-label (constant (names j)) (constant (names k)) e)))
  named-same names new (Some (at_free j)) None hx hy e = absurd (none-some (at_label (constant (names j))) (sym e))
  named-same names new None (Some (at_label b)) hx hy e = absurd (none-some (at_label b) e)
  named-same names new None (Some (at_free k)) hx hy e = absurd (none-some (at_label (constant (names k))) e)
  named-same names new None None hx hy e = refl

pub labels_shown : LabelsShown
labels_shown system sound n h path label = (shown-forced system sound n h path label, forced-shown system sound n h path label)

root-there : (size : ℕ) (v : Valuation) → IsValuation size v → (x : ℕ) → x < size → value v x [] ≡ None → ⊥
root-there size v valid x h e =
    let w : x < length v.nodes = rw valid.each h in
    none-some (shown_at v.graph (get_or v.nodes x 0)) (sym (rw (slice_get-get_or v.nodes x 0 w) at e))

pub leaves_shown : LeavesShown
leaves_shown system sound n h path = (to, from)
  where
    to : ((leaf : ℕ) × (shown system n path ≡ Some (at_free leaf))) → IsPlace system n path × IsUnforced system n path
    to (leaf, e) = (
      (λ v sol q. let k = subst (λ s. KnownAs system sound v s (value v n path)) e (known system sound v sol path n h) in
          root-there (length system.nodes) v sol.valuation leaf k.0 (sym k.1 ∙ q)),
      (λ label forced. free-label label leaf (sym e ∙ forced-shown system sound n h path label forced)),
    )

    from : IsPlace system n path × IsUnforced system n path → (leaf : ℕ) × (shown system n path ≡ Some (at_free leaf))
    from (place, unforced) =
        elim (shown-cases (shown system n path)) [
          | inl (label, e) ↦ absurd (unforced label (shown-forced system sound n h path label e))
          | inr (inl (leaf, e)) ↦ (leaf, e)
          | inr (inr e) ↦
              absurd (place (plain system (λ k. k)) (plain-solves system sound (λ k. k)) (plain-shown system sound (λ k. k) path n h ∙ ap (named (λ k. k)) e))
        ]

pub same_shown : SameShown
same_shown system sound a b ha hb = (to, from)
  where
    names : ℕ → ℕ
    names = new_names system

    to : ((path : List ℕ) → shown system a path ≡ shown system b path) → IsImplied system a b
    to same =
        plain_decides system sound names (new_names-new system) a b ha hb
        (record { along = λ path. plain-shown system sound names path a ha ∙ ap (named names) (same path) ∙ sym (plain-shown system sound names path b hb) })

    from : IsImplied system a b → (path : List ℕ) → shown system a path ≡ shown system b path
    from implied path =
        named-same system sound names (new_names-new system) (shown system a path) (shown system b path)
        (λ label e. stands system sound path a ha label e) (λ label e. stands system sound path b hb label e)
        (sym (plain-shown system sound names path a ha) ∙ (implied (plain system names) (plain-solves system sound names)).along path ∙ plain-shown system sound names path b hb)
