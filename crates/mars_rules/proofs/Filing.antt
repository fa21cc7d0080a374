-- Places that are filed by key.
use Rattle.std.proofs.Common.{◌≡◌, ◌≢◌, ◌⊎◌, ℕ, zero, suc, ◌+◌, ◌<◌, ◌≤◌, Bool, true, false, cond, List, [], ◌∷◌, ◌++◌, length, take, take-suc, subst, get_or, slice_get, Option, Some, None, Result, Ok, Err, refl, sym, ap, ◌∙◌, arith, inl, inr, add-zero}
use Rattle.std.specs.Bool.{Decides}
use Rattle.std.specs.Global.{Vec}
use Rattle.std.specs.Map.{lookup}
use Rattle.std.specs.Ordering.{nat_cmp}
use Rattle.std.specs.List.Sorted.{IsBinarySearchResult}
use Rattle.std.proofs.lemmas.Bool.{cases_lt}
use Rattle.std.proofs.lemmas.List.{length-take-le}
use Rattle.std.proofs.lemmas.List.Sorted.{searched}
use Rattle.std.proofs.lemmas.Option.{same_Some, none-some, slice_get-get_or, slice_get_within, get_or_from_slice_get}
use Rattle.mars_base.proofs.Deciding.{both, joined}
use Rattle.mars_tree.specs.Equality.{same_label}
use Rattle.mars_tree.specs.EqualityLaws.{label_decides, label_at_decides}
use Rattle.std.specs.Option.{option_eq}
use Rattle.mars_rules.specs.declared.keys.HeadKey.{HeadKey}
use Rattle.mars_rules.specs.PlacesInside.{same_head_key, places_in, places_under, places_of_key, IsPlaceAdded, AreFiledPlaces, IsRising, IsFirstFrom, IsFirstOfKey}

same_parts : (a b : HeadKey) → a.label ≡ b.label → a.first ≡ b.first → a ≡ b
same_parts a b e f i = record { label = e i; first = f i }

pub key_decides : (a b : HeadKey) → Decides (same_head_key a b) (a ≡ b)
key_decides a b = (
  λ e. let t = both (same_label a.label b.label) (option_eq same_label a.first b.first) e in
      same_parts a b ((label_decides a.label b.label).0 t.0) ((label_at_decides a.first b.first).0 t.1),
  λ e. joined (same_label a.label b.label) (option_eq same_label a.first b.first)
      ((label_decides a.label b.label).1 (ap (λ (k : HeadKey). k.label) e)) ((label_at_decides a.first b.first).1 (ap (λ (k : HeadKey). k.first) e)),
)

-- one key more
pub places_of_key-push : (at : ℕ) (keys : List HeadKey) (own key : HeadKey)
    → places_of_key at (keys ++ own ∷ []) key ≡ cond (same_head_key key own) (places_of_key at keys key ++ (at + length keys) ∷ []) (places_of_key at keys key)
places_of_key-push at [] own key = ap (λ n. cond (same_head_key key own) (n ∷ []) []) (sym (add-zero at))
places_of_key-push at (k ∷ keys) own key = go (same_head_key key k) (same_head_key key own) (places_of_key-push (at + 1) keys own key)
  where
    go : (b c : Bool) → places_of_key (at + 1) (keys ++ own ∷ []) key ≡ cond c (places_of_key (at + 1) keys key ++ (at + 1 + length keys) ∷ []) (places_of_key (at + 1) keys key)
        → cond b (at ∷ places_of_key (at + 1) (keys ++ own ∷ []) key) (places_of_key (at + 1) (keys ++ own ∷ []) key)
        ≡ cond c (cond b (at ∷ places_of_key (at + 1) keys key) (places_of_key (at + 1) keys key) ++ (at + length (k ∷ keys)) ∷ []) (cond b (at ∷ places_of_key (at + 1) keys key) (places_of_key (at + 1) keys key))
    go true true e = ap (λ ns. at ∷ ns) (e ∙ ap (λ n. places_of_key (at + 1) keys key ++ n ∷ []) (omega arith))
    go true false e = ap (λ ns. at ∷ ns) e
    go false true e = e ∙ ap (λ n. places_of_key (at + 1) keys key ++ n ∷ []) (omega arith)
    go false false e = e

-- a place of the key, by its distance from the first
pub record IsPlaceOf (at : ℕ) (keys : List HeadKey) (key : HeadKey) (place : ℕ) : Type 0 where
  pub distance : ℕ
  pub place_is : place ≡ at + distance
  pub has : slice_get keys distance ≡ Some key

place_later : (at : ℕ) (own : HeadKey) (keys : List HeadKey) (key : HeadKey) (place : ℕ) → IsPlaceOf (at + 1) keys key place → IsPlaceOf at (own ∷ keys) key place
place_later at own keys key place f = record { distance = suc f.distance; place_is = let p = f.place_is in omega arith; has = f.has }

place_step : (at : ℕ) (own : HeadKey) (keys : List HeadKey) (key : HeadKey) (places : List ℕ) → ((k place : ℕ) → slice_get places k ≡ Some place → IsPlaceOf (at + 1) keys key place)
    → (b : Bool) → same_head_key key own ≡ b → (k place : ℕ) → slice_get (cond b (at ∷ places) places) k ≡ Some place → IsPlaceOf at (own ∷ keys) key place
place_step at own keys key places each true is zero place e = record {
  distance = 0;
  place_is = let p = same_Some at place e in omega arith;
  has = ap (λ (x : HeadKey). Some x) (sym ((key_decides key own).0 is));
}
place_step at own keys key places each true is (suc k) place e = place_later at own keys key place (each k place e)
place_step at own keys key places each false is k place e = place_later at own keys key place (each k place e)

pub place_of : (at : ℕ) (keys : List HeadKey) (key : HeadKey) (k place : ℕ) → slice_get (places_of_key at keys key) k ≡ Some place → IsPlaceOf at keys key place
place_of at [] key k place e = absurd (none-some place e)
place_of at (own ∷ keys) key k place e = place_step at own keys key (places_of_key (at + 1) keys key) (place_of (at + 1) keys key) (same_head_key key own) refl k place e

pub has_place : (at : ℕ) (keys : List HeadKey) (key : HeadKey) (distance : ℕ) → slice_get keys distance ≡ Some key
    → (k : ℕ) × (slice_get (places_of_key at keys key) k ≡ Some (at + distance))
has_place at [] key distance e = absurd (none-some key e)
has_place at (own ∷ keys) key zero e = go (same_head_key key own) refl
  where
    go : (b : Bool) → same_head_key key own ≡ b → (k : ℕ) × (slice_get (cond b (at ∷ places_of_key (at + 1) keys key) (places_of_key (at + 1) keys key)) k ≡ Some (at + 0))
    go true is = (0, ap (λ n. Some n) (sym (add-zero at)))
    go false is = let t : same_head_key key own ≡ true = (key_decides key own).1 (sym (same_Some own key e)) in let f : false ≡ true = sym is ∙ t in cc
has_place at (own ∷ keys) key (suc distance) e = go (same_head_key key own) (has_place (at + 1) keys key distance e)
  where
    go : (b : Bool) → ((k : ℕ) × (slice_get (places_of_key (at + 1) keys key) k ≡ Some (at + 1 + distance)))
        → (k : ℕ) × (slice_get (cond b (at ∷ places_of_key (at + 1) keys key) (places_of_key (at + 1) keys key)) k ≡ Some (at + suc distance))
    go true (k, f) = (suc k, f ∙ ap (λ n. Some n) (omega arith))
    go false (k, f) = (k, f ∙ ap (λ n. Some n) (omega arith))

rise_step : (at : ℕ) (places : List ℕ) → ((j m : ℕ) → slice_get places j ≡ Some m → at < m) → IsRising places → (b : Bool) → IsRising (cond b (at ∷ places) places)
rise_step at places late rise true zero zero n m h e f = absurd (omega arith)
rise_step at places late rise true zero (suc j) n m h e f = let p = late j m f in let r = same_Some at n e in omega arith
rise_step at places late rise true (suc i) zero n m h e f = absurd (omega arith)
rise_step at places late rise true (suc i) (suc j) n m h e f = rise i j n m (omega arith) e f
rise_step at places late rise false i j n m h e f = rise i j n m h e f

pub places_rise : (at : ℕ) (keys : List HeadKey) (key : HeadKey) → IsRising (places_of_key at keys key)
places_rise at [] key = λ i j n m h e f. absurd (none-some n e)
places_rise at (own ∷ keys) key =
    rise_step at (places_of_key (at + 1) keys key) (λ j m f. let p = (place_of (at + 1) keys key j m f).place_is in omega arith) (places_rise (at + 1) keys key) (same_head_key key own)

pub at_place : (keys : List HeadKey) (key : HeadKey) (place : ℕ) → slice_get keys place ≡ Some key → (k : ℕ) × (slice_get (places_of_key 0 keys key) k ≡ Some place)
at_place keys key place e = let k = has_place 0 keys key place e in (k.0, k.1 ∙ ap (λ n. Some n) (omega arith))

-- the first of rising places is the first place of the key
pub first_is : (keys : List HeadKey) (key : HeadKey) (from : ℕ) (found : Option ℕ) → IsFirstFrom (places_of_key 0 keys key) from found → IsFirstOfKey keys key from found
first_is keys key from None none = λ place h e. let k = at_place keys key place e in let w = none k.0 place k.1 in omega arith
first_is keys key from (Some found) (at, e, late, least) =
    let p = place_of 0 keys key at found e in
    let same : found ≡ p.distance = let q = p.place_is in omega arith in (
      late,
      ap (slice_get keys) same ∙ p.has,
      λ place h l f. let k = at_place keys key place f in let w = least k.0 place k.1 l in omega arith,
    )

pub first_none : (keys : List HeadKey) (key : HeadKey) (from : ℕ) → places_of_key 0 keys key ≡ [] → IsFirstOfKey keys key from None
first_none keys key from e = λ place h f. let k = at_place keys key place f in none-some place (ap (λ ns. slice_get ns k.0) (sym e) ∙ k.1)

-- a place was taken out with its list, and put back with it
pub added-place : (old mid new : List (HeadKey × Vec ℕ)) (key : HeadKey) (place : ℕ) (before : List ℕ) (now : Vec ℕ) → places_in (lookup (same_head_key key) old) ≡ before
    → ((q : HeadKey) → same_head_key key q ≡ false → lookup (same_head_key q) mid ≡ lookup (same_head_key q) old) → lookup (same_head_key key) new ≡ Some now
    → ((q : HeadKey) → same_head_key key q ≡ false → lookup (same_head_key q) new ≡ lookup (same_head_key q) mid) → now.items ≡ before ++ place ∷ [] → IsPlaceAdded old new key place
added-place old mid new key place before now was taken there kept items = record {
  own = ap places_in there ∙ items ∙ ap (λ ns. ns ++ place ∷ []) (sym was);
  others = λ other ne. let apart = differs other ne (same_head_key key other) refl in ap places_in (kept other apart ∙ taken other apart);
}
  where
    differs : (other : HeadKey) → other ≢ key → (b : Bool) → same_head_key key other ≡ b → same_head_key key other ≡ false
    differs other ne true e = absurd (ne (sym ((key_decides key other).0 e)))
    differs other ne false e = e

-- one key more is filed
pub filed-push : (keys : List HeadKey) (own : HeadKey) (old new : List (HeadKey × Vec ℕ)) → AreFiledPlaces keys old → IsPlaceAdded old new own (length keys) → AreFiledPlaces (keys ++ own ∷ []) new
filed-push keys own old new f a key = go (same_head_key key own) refl ∙ sym (places_of_key-push 0 keys own key)
  where
    go : (b : Bool) → same_head_key key own ≡ b → places_under new key ≡ cond b (places_of_key 0 keys key ++ (0 + length keys) ∷ []) (places_of_key 0 keys key)
    go true e =
        let same : key ≡ own = (key_decides key own).0 e in
        ap (places_under new) same ∙ a.own ∙ ap (λ k. places_under old k ++ length keys ∷ []) (sym same) ∙ ap (λ ns. ns ++ length keys ∷ []) (f key) ∙ ap (λ n. places_of_key 0 keys key ++ n ∷ []) (omega arith)
    go false e = a.others key (λ same. let t : false ≡ true = sym e ∙ (key_decides key own).1 same in cc) ∙ f key

-- the next key is filed
pub filed-step : (keys : List HeadKey) (i : ℕ) (d : HeadKey) (old new : List (HeadKey × Vec ℕ)) → i < length keys → AreFiledPlaces (take i keys) old
    → IsPlaceAdded old new (get_or keys i d) i → AreFiledPlaces (take (i + 1) keys) new
filed-step keys i d old new h f a =
    let size : length (take i keys) ≡ i = length-take-le i keys (omega arith) in
    let one : suc i ≡ i + 1 = omega arith in
    let next : take i keys ++ get_or keys i d ∷ [] ≡ take (i + 1) keys = sym (take-suc keys i d h) ∙ ap (λ n. take n keys) one in
    subst (λ ks. AreFiledPlaces ks new) next (filed-push (take i keys) (get_or keys i d) old new f (subst (λ n. IsPlaceAdded old new (get_or keys i d) n) (sym size) a))

up : (xs : List ℕ) → IsRising xs → (i j : ℕ) → i ≤ j → j < length xs → get_or xs i 0 ≤ get_or xs j 0
up xs rise i j h w = go (cases_lt i j)
  where
    go : (i < j) ⊎ (j ≤ i) → get_or xs i 0 ≤ get_or xs j 0
    go (inl l) = let r = rise i j (get_or xs i 0) (get_or xs j 0) l (slice_get-get_or xs i 0 (omega arith)) (slice_get-get_or xs j 0 w) in omega arith
    go (inr l) = let e : get_or xs i 0 ≡ get_or xs j 0 = ap (λ n. get_or xs n 0) (omega arith) in omega arith

-- where a binary search answers
pub found-from : (xs : List ℕ) (from at : ℕ) (r : Result ℕ ℕ) → IsBinarySearchResult (λ y. nat_cmp y from) xs r → (r ≡ Ok at) ⊎ (r ≡ Err at) → IsRising xs
    → (at < length xs → IsFirstFrom xs from (Some (get_or xs at 0))) × (length xs ≤ at → IsFirstFrom xs from None)
found-from xs from at (Ok i) h e rise =
    let s = searched xs from (Ok i) h (up xs rise) in
    let same : i ≡ at = at_ok i at e in (
      λ l. (at, slice_get-get_or xs at 0 l, (let v = ap (λ n. get_or xs n 0) same in let w = s.1 in omega arith), λ k n f m. let v = ap (λ n. get_or xs n 0) same in let w = s.1 in omega arith),
      λ l. let w = s.0 in absurd (omega arith),
    )
  where
    at_ok : (i at : ℕ) → (◌≡◌ {A = Result ℕ ℕ} (Ok i) (Ok at)) ⊎ (◌≡◌ {A = Result ℕ ℕ} (Ok i) (Err at)) → i ≡ at
    at_ok i at (inl e) = cc
    at_ok i at (inr e) = cc
found-from xs from at (Err i) h e rise =
    let s = searched xs from (Err i) h (up xs rise) in
    let same : i ≡ at = at_err i at e in (
      λ l. (at, slice_get-get_or xs at 0 l, (let w = s.2 at (omega arith) l in omega arith), λ k n f m. early s.1 same k n f m (cases_lt k at)),
      λ l k n f. let w = slice_get_within xs k n f in let v = s.1 k (omega arith) in let u = get_or_from_slice_get xs k n 0 f in omega arith,
    )
  where
    at_err : (i at : ℕ) → (◌≡◌ {A = Result ℕ ℕ} (Err i) (Ok at)) ⊎ (◌≡◌ {A = Result ℕ ℕ} (Err i) (Err at)) → i ≡ at
    at_err i at (inl e) = cc
    at_err i at (inr e) = cc

    early : {i : ℕ} → ((k : ℕ) → k < i → get_or xs k 0 < from) → i ≡ at → (k n : ℕ) → slice_get xs k ≡ Some n → n < get_or xs at 0 → (k < at) ⊎ (at ≤ k) → n < from
    early below same k n f m (inl l) = let v = below k (omega arith) in let u = get_or_from_slice_get xs k n 0 f in omega arith
    early below same k n f m (inr l) =
        let w = slice_get_within xs k n f in
        let u = get_or_from_slice_get xs k n 0 f in
        let v = up xs rise at k l w in absurd (omega arith)
