-- How the path of open terms grows and shrinks.
use Rattle.std.proofs.Common.{◌≡◌, ◌≢◌, ◌⊎◌, ℕ, ℤ, zero, suc, ◌+◌, ◌-◌, ◌*◌, ◌<◌, ◌≤◌, List, [], ◌∷◌, ◌++◌, length, take, set, get_or, slice_get, All, Contains, Option, Some, None, MatchOption, nat_eq, position, refl, sym, ap, ap₂, ◌∙◌, subst, arith, inl, inr, length-append, length-set}
use Rattle.std.proofs.lemmas.Bool.{cases_eq, cases_lt, eq-eqb, ne_eqb, eqb-true, lt-ltb}
use Rattle.std.proofs.lemmas.List.Quantifiers.{position-Some}
use Rattle.std.specs.List.{position_or_len}
use Rattle.std.proofs.lemmas.List.{get_or_append_left, get_or_at, get_or-take, get_or-set_same, get_or-set_other, length-take-le, get_or_default, get_or_past}
use Rattle.std.proofs.lemmas.Option.{same_Some, slice_get-get_or, slice_get_within, get_or_from_slice_get}
use Rattle.std.proofs.lemmas.List.Elements.{All-nil, All-cons, All-push, All-get_or, All-take, All-weaker, Contains-append_left, Contains-push, Contains-get_or}
use Rattle.mars_store.specs.System.{System, IsSystem, resolve}
use Rattle.mars_reach.specs.Order.{AreDistinct}
use Rattle.mars_reach.proofs.CallerLemmas.{distinct_count}
use Rattle.mars_val.specs.Number.{HasNumber, IsNumberOf}
use Rattle.mars_val.specs.NumberInside.{IsOperandOf, IsMetWith, IsWork, AreTheirNumbers, IsNext, value_at, work_left}
use Rattle.mars_val.proofs.Numbers.{IsNoDeeper, IsSooner, depth, part-sooner, wider, no-loop, same-end}

-- the first term alone
pub work-started : (system : System) (start : ℕ) → start < length system.nodes → resolve system.bound start ≡ start → AreDistinct (start ∷ []) → IsWork system (start ∷ []) (None ∷ []) (0 ∷ [])
work-started system start inside last distinct = record {
  sizes = refl;
  distinct = distinct;
  inside = All-cons (λ n. n < length system.nodes) start [] inside (All-nil (λ n. n < length system.nodes));
  ends = All-cons (λ n. resolve system.bound n ≡ n) start [] last (All-nil (λ n. resolve system.bound n ≡ n));
  some = omega arith;
  numbers = λ place z e. none-known place z e;
  opened = λ place h e. let p : place ≡ 0 = omega arith in rw p ((0, omega arith, refl));
  places = All-cons (λ place. place < 1) 0 [] (omega arith) (All-nil (λ place. place < 1));
  begins = λ h. refl;
  parts = λ i h. absurd (omega arith);
}
  where
    none-known : (place : ℕ) (z : ℤ) → value_at (None ∷ []) place ≡ Some z → HasNumber system (get_or (start ∷ []) place 0) z
    none-known zero z e = cc
    none-known (suc place) z e = cc

-- the term at a place of the path
abbrev pub term_at : List ℕ → List ℕ → ℕ → ℕ
term_at terms path i = get_or terms (get_or path i 0) 0

-- the next place of what was pushed
push-old : {X : Type 0} (xs : List X) (x d : X) (i : ℕ) → i < length xs → get_or (xs ++ x ∷ []) i d ≡ get_or xs i d
push-old xs x d i h = get_or_append_left xs (x ∷ []) d i h

push-new : {X : Type 0} (xs : List X) (x d : X) (i : ℕ) → i ≡ length xs → get_or (xs ++ x ∷ []) i d ≡ x
push-new xs x d i e = get_or_at xs x [] d i (sym e)

-- a term is put at the end of the path
pub work-opened : (system : System) (terms : List ℕ) (values : List (Option ℤ)) (path : List ℕ) (m : ℕ) → IsWork system terms values path → 0 < length path → IsOperandOf system (term_at terms path (length path - 1)) m
    → m < length system.nodes → resolve system.bound m ≡ m → AreDistinct (terms ++ m ∷ []) → IsWork system (terms ++ m ∷ []) (values ++ None ∷ []) (path ++ length values ∷ [])
work-opened system terms values path m w more part inside last distinct =
    let n : ℕ = length values in
    let sizes = w.sizes in
    let lt : length (terms ++ m ∷ []) ≡ length terms + 1 = length-append terms (m ∷ []) in
    let lv : length (values ++ None ∷ []) ≡ length values + 1 = length-append values (None ∷ []) in
    let lp : length (path ++ n ∷ []) ≡ length path + 1 = length-append path (n ∷ []) in
    record {
      sizes = omega arith;
      distinct = distinct;
      inside = All-push (λ k. k < length system.nodes) terms m w.inside inside;
      ends = All-push (λ k. resolve system.bound k ≡ k) terms m w.ends last;
      some = omega arith;
      numbers = λ place z e. numbers place z e (cases_lt place n);
      opened = λ place h e. opened place h e (cases_lt place n);
      places = All-push (λ place. place < length (terms ++ m ∷ [])) path n (All-weaker (λ place. place < length terms) (λ place. place < length (terms ++ m ∷ [])) (λ place k. omega arith) path w.places) (omega arith);
      begins = λ h. push-old path n 0 0 more ∙ w.begins more;
      parts = λ i h. parts i h (cases_lt (i + 1) (length path));
    }
  where
    n' : ℕ
    n' = length values

    numbers : (place : ℕ) (z : ℤ) → value_at (values ++ None ∷ []) place ≡ Some z → (place < n') ⊎ (n' ≤ place) → HasNumber system (get_or (terms ++ m ∷ []) place 0) z
    numbers place z e (inl h) =
        let sizes = w.sizes in
        subst (λ k. HasNumber system k z) (sym (push-old terms m 0 place (omega arith))) (w.numbers place z (sym (push-old values None None place h) ∙ e))
    numbers place z e (inr h) = absurd (past place z h e (cases_eq place n'))
      where
        past : (place : ℕ) (z : ℤ) → n' ≤ place → value_at (values ++ None ∷ []) place ≡ Some z → (place ≡ n') ⊎ (place ≡ n' → ⊥) → ⊥
        past place z h e (inl i) = let v : None ≡ Some z = sym (push-new values None None place i) ∙ e in cc
        past place z h e (inr ne) = let v : None ≡ Some z = sym (get_or_past (values ++ None ∷ []) place None (omega (arith, length-append values (None ∷ [])))) ∙ e in cc

    opened : (place : ℕ) → place < length (terms ++ m ∷ []) → value_at (values ++ None ∷ []) place ≡ None → (place < n') ⊎ (n' ≤ place) → Contains (path ++ n' ∷ []) place
    opened place h e (inl k) =
        let sizes = w.sizes in
        Contains-append_left path (n' ∷ []) place (w.opened place (omega arith) (sym (push-old values None None place k) ∙ e))
    opened place h e (inr k) =
        let sizes = w.sizes in
        let lt : length (terms ++ m ∷ []) ≡ length terms + 1 = length-append terms (m ∷ []) in
        let i : place ≡ n' = omega arith in rw i (Contains-push path n')

    old-term : (i : ℕ) → i < length path → term_at (terms ++ m ∷ []) (path ++ n' ∷ []) i ≡ term_at terms path i
    old-term i h =
        let in_terms : get_or path i 0 < length terms = All-get_or (λ place. place < length terms) path i 0 h w.places in
        ap (λ k. get_or (terms ++ m ∷ []) k 0) (push-old path n' 0 i h) ∙ push-old terms m 0 (get_or path i 0) in_terms

    parts : (i : ℕ) → i + 1 < length (path ++ n' ∷ []) → (i + 1 < length path) ⊎ (length path ≤ i + 1) → IsOperandOf system (term_at (terms ++ m ∷ []) (path ++ n' ∷ []) i) (term_at (terms ++ m ∷ []) (path ++ n' ∷ []) (i + 1))
    parts i h (inl k) = rw (old-term i (omega arith), old-term (i + 1) k) (w.parts i k)
    parts i h (inr k) =
        let lp : length (path ++ n' ∷ []) ≡ length path + 1 = length-append path (n' ∷ []) in
        let at_end : i ≡ length path - 1 = omega arith in
        let new : term_at (terms ++ m ∷ []) (path ++ n' ∷ []) (i + 1) ≡ m = ap (λ k. get_or (terms ++ m ∷ []) k 0) (push-new path n' 0 (i + 1) (omega arith)) ∙ push-new terms m 0 n' w.sizes in
        subst (λ k. IsOperandOf system (term_at (terms ++ m ∷ []) (path ++ n' ∷ []) i) k) (sym new) (subst (λ k. IsOperandOf system k m) (sym (old-term i (omega arith) ∙ ap (term_at terms path) at_end)) part)

none-some : (n : ℕ) → None ≡ Some n → ⊥
none-some n e = cc

some-none : (z : ℤ) → Some z ≡ None → ⊥
some-none z e = cc

-- the last term of the path has its number
pub work-closed : (system : System) (terms : List ℕ) (values : List (Option ℤ)) (path : List ℕ) (place : ℕ) (z : ℤ) → IsWork system terms values path → 0 < length path → place ≡ get_or path (length path - 1) 0
    → HasNumber system (get_or terms place 0) z → IsWork system terms (set values place (Some z)) (take (length path - 1) path)
work-closed system terms values path place z w more is has = record {
  sizes = length-set values place (Some z) ∙ w.sizes;
  distinct = w.distinct;
  inside = w.inside;
  ends = w.ends;
  some = w.some;
  numbers = λ p y e. numbers p y e (cases_eq p place);
  opened = λ p h e. opened p h e (cases_eq p place);
  places = All-take (λ p. p < length terms) (length path - 1) path w.places;
  begins = λ h. get_or-take (length path - 1) path 0 0 (omega (arith, short)) ∙ w.begins more;
  parts = λ i h.
      let k : i + 1 < length path - 1 = omega (arith, short) in
      rw (get_or-take (length path - 1) path i 0 (omega arith), get_or-take (length path - 1) path (i + 1) 0 k) (w.parts i (omega arith));
}
  where
    short : length (take (length path - 1) path) ≡ length path - 1
    short = length-take-le (length path - 1) path (omega arith)

    within : place < length values
    within =
        let h : get_or path (length path - 1) 0 < length terms = All-get_or (λ p. p < length terms) path (length path - 1) 0 (omega arith) w.places in
        omega (arith, w.sizes)

    numbers : (p : ℕ) (y : ℤ) → value_at (set values place (Some z)) p ≡ Some y → (p ≡ place) ⊎ (p ≢ place) → HasNumber system (get_or terms p 0) y
    numbers p y e (inl i) =
        let v : Some z ≡ Some y = sym (get_or-set_same values place (Some z) None within) ∙ ap (value_at (set values place (Some z))) (sym i) ∙ e in
        subst (HasNumber system (get_or terms p 0)) (same_Some z y v) (subst (λ q. HasNumber system (get_or terms q 0) z) (sym i) has)
    numbers p y e (inr ne) = w.numbers p y (sym (get_or-set_other values place p (Some z) None ne) ∙ e)

    opened : (p : ℕ) → p < length terms → value_at (set values place (Some z)) p ≡ None → (p ≡ place) ⊎ (p ≢ place) → Contains (take (length path - 1) path) p
    opened p h e (inl i) = let v : Some z ≡ None = sym (get_or-set_same values place (Some z) None within) ∙ ap (value_at (set values place (Some z))) (sym i) ∙ e in absurd (some-none z v)
    opened p h e (inr ne) = on-path (w.opened p h (sym (get_or-set_other values place p (Some z) None ne) ∙ e))
      where
        on-path : Contains path p → Contains (take (length path - 1) path) p
        on-path c = elim (cases_eq c.0 (length path - 1)) [
          | inl i ↦ absurd (ne (sym c.2 ∙ get_or_default path c.0 p 0 c.1 ∙ ap (λ n. get_or path n 0) i ∙ sym is))
          | inr other ↦ (let k = c.1 in (c.0, omega (arith, short), get_or-take (length path - 1) path c.0 p (omega arith) ∙ c.2))
        ]

-- along the path numbers come sooner
chain : (system : System) (terms : List ℕ) (values : List (Option ℤ)) (path : List ℕ) → IsWork system terms values path → (i k : ℕ) → i + k < length path → (z : ℤ) (d : HasNumber system (term_at terms path i) z)
    → IsNoDeeper system (term_at terms path (i + k)) (depth system d)
chain system terms values path w i zero h z d = let e : i + 0 ≡ i = omega arith in rw e (record { number = z; has = d; within = omega arith })
chain system terms values path w i (suc k) h z d =
    let before = chain system terms values path w i k (omega arith) z d in
    let next : i + k + 1 ≡ i + suc k = omega arith in
    let place : get_or path (i + k + 1) 0 < length terms = All-get_or (λ p. p < length terms) path (i + k + 1) 0 (omega arith) w.places in
    let last : resolve system.bound (term_at terms path (i + k + 1)) ≡ term_at terms path (i + k + 1) = All-get_or (λ n. resolve system.bound n ≡ n) terms (get_or path (i + k + 1) 0) 0 place w.ends in
    let s = part-sooner system (term_at terms path (i + k)) (term_at terms path (i + k + 1)) before.number before.has (w.parts (i + k) (omega arith)) last in
    let a = s.below in
    let b = before.within in
    rw (sym next) (wider system (term_at terms path (i + k + 1)) s.low (depth system d) (omega arith) s.sooner)

-- around a loop numbers come sooner
around : (system : System) (terms : List ℕ) (values : List (Option ℤ)) (path : List ℕ) → IsWork system terms values path → (i k : ℕ) → i + k < length path → (n m : ℕ) (y : ℤ) (e : HasNumber system m y)
    → term_at terms path i ≡ m → term_at terms path (i + k) ≡ n → IsOperandOf system n m → resolve system.bound m ≡ m → IsSooner system m (depth system e)
around system terms values path w i k h n m y e at top part end =
    let s = subst (λ q. (d : HasNumber system q y) → IsNoDeeper system (term_at terms path (i + k)) (depth system d)) at (chain system terms values path w i k h y) e in
    let t : IsNoDeeper system n (depth system e) = subst (λ q. IsNoDeeper system q (depth system e)) top s in
    let r = part-sooner system n m t.number t.has part end in
    let a = r.below in
    let b = t.within in
    record { low = r.low; below = omega arith; sooner = r.sooner }

-- where the last term has no number, or an operand that is open, the first has none
pub work-failed : (system : System) (terms : List ℕ) (values : List (Option ℤ)) (path : List ℕ) (n : ℕ) → IsWork system terms values path → 0 < length path → n ≡ term_at terms path (length path - 1)
    → ((z : ℤ) → HasNumber system n z → ⊥) ⊎ ((m : ℕ) × IsOperandOf system n m × IsMetWith terms values m None) → (z : ℤ) → HasNumber system (get_or terms 0 0) z → ⊥
work-failed system terms values path n w more is why z d =
    let last : ℕ = length path - 1 in
    let start : get_or terms 0 0 ≡ term_at terms path 0 = ap (λ p. get_or terms p 0) (sym (w.begins more)) in
    let first : HasNumber system (term_at terms path 0) z = subst (λ q. HasNumber system q z) start d in
    let zero-last : 0 + last ≡ last = omega arith in
    elim why [
      | inl none ↦
          let top = chain system terms values path w 0 last (omega arith) z first in
          none top.number (subst (λ q. HasNumber system q top.number) (ap (term_at terms path) zero-last ∙ sym is) top.has)
      | inr (m, part, met) ↦
          let c = w.opened met.place met.within met.value_is in
          let at : get_or path c.0 0 ≡ met.place = get_or_default path c.0 0 met.place c.1 ∙ c.2 in
          let node : term_at terms path c.0 ≡ m = ap (λ p. get_or terms p 0) at ∙ met.node in
          let low : c.0 < length path = c.1 in
          let zero-at : 0 + c.0 ≡ c.0 = omega arith in
          let up-to : c.0 + (last - c.0) ≡ last = omega arith in
          let end : resolve system.bound m ≡ m = subst (λ q. resolve system.bound q ≡ q) met.node (All-get_or (λ q. resolve system.bound q ≡ q) terms met.place 0 met.within w.ends) in
          let has = chain system terms values path w 0 c.0 (omega arith) z first in
          let has-m : HasNumber system m has.number = subst (λ q. HasNumber system q has.number) (ap (term_at terms path) zero-at ∙ node) has.has in
          no-loop system m (λ y e.
          around system terms values path w c.0 (last - c.0) (omega arith) n m y e node (ap (term_at terms path) up-to ∙ sym is) part end) (suc (depth system has-m)) has.number has-m (omega arith)
    ]

-- where no term is open, the first has its number
pub work-done : (system : System) (terms : List ℕ) (values : List (Option ℤ)) (path : List ℕ) → IsWork system terms values path → length path ≡ 0 → (value : Option ℤ) → value ≡ value_at values 0 → IsNumberOf system (get_or terms 0 0) value
work-done system terms values path w h None e = absurd (let c = w.opened 0 w.some (sym e) in let k = c.1 in omega arith)
work-done system terms values path w h (Some z) e = w.numbers 0 z (sym e)

-- a node has the number of the end of its links
pub number-of-end : (system : System) (n m : ℕ) (value : Option ℤ) → m ≡ resolve system.bound n → resolve system.bound m ≡ m → IsNumberOf system m value → IsNumberOf system n value
number-of-end system n m None e last none = λ z d. none z (same-end system n m z (sym e ∙ sym last) d)
number-of-end system n m (Some z) e last d = same-end system m n z (last ∙ e) d

-- no more nodes are met than there are
pub terms-fit : (system : System) (terms : List ℕ) (values : List (Option ℤ)) (path : List ℕ) → IsWork system terms values path → length terms ≤ length system.nodes
terms-fit system terms values path w = distinct_count terms (length system.nodes) w.distinct w.inside

-- a number's first place is no later than any of its places
first-place : (xs : List ℕ) (x k : ℕ) → k < length xs → get_or xs k x ≡ x → position_or_len (nat_eq x) xs ≤ k
first-place [] x k h e = absurd (omega arith)
first-place (y ∷ xs) x zero h e = rw (eq-eqb x y (sym e)) (omega arith)
first-place (y ∷ xs) x (suc k) h e = elim (cases_eq x y) [
  | inl i ↦ rw (eq-eqb x y i) (omega arith)
  | inr ne ↦ rw (ne_eqb x y ne) (omega (arith, first-place xs x k (omega arith) e))
]

-- the place of a node, where it was met
pub found-place : (xs : List ℕ) (x : ℕ) (r : Option ℕ) → r ≡ position (nat_eq x) xs → MatchOption r (Contains xs x → ⊥) (λ place. slice_get xs place ≡ Some x)
found-place xs x (Some p) e =
    let s = position-Some (nat_eq x) xs p x (sym e) in
    slice_get-get_or xs p x s.0 ∙ ap Some (sym (eqb-true x (get_or xs p x) s.1))
found-place xs x None e = λ c.
    let low = first-place xs x c.0 c.1 c.2 in
    let inside = c.1 in
    let short : position_or_len (nat_eq x) xs < length xs = omega arith in
    let there : position (nat_eq x) xs ≡ Some (position_or_len (nat_eq x) xs) = rw (lt-ltb (position_or_len (nat_eq x) xs) (length xs) short) refl in
    none-some (position_or_len (nat_eq x) xs) (e ∙ there)

-- a met node without a value
pub met-none : (terms : List ℕ) (values : List (Option ℤ)) (place last end : ℕ) → length values ≡ length terms → slice_get terms place ≡ Some last → last ≡ end → value_at values place ≡ None → IsMetWith terms values end None
met-none terms values place last end sizes e f v = record {
  place = place;
  within = slice_get_within terms place last e;
  node = get_or_from_slice_get terms place last 0 e ∙ f;
  value_is = v;
}

-- the last place of the path
pub last-place : (path : List ℕ) (place size : ℕ) → place ≡ get_or path (size - 1) place → size ≡ length path → 0 < length path → place ≡ get_or path (length path - 1) 0
last-place path place size e s h = e ∙ ap (λ n. get_or path (n - 1) place) s ∙ get_or_default path (length path - 1) place 0 (omega arith)

-- a step that closes the last term
pub step-closed : (system : System) (terms more : List ℕ) (values given : List (Option ℤ)) (path rest : List ℕ) (place n : ℕ) (z : ℤ) → IsWork system terms values path → 0 < length path → place ≡ get_or path (length path - 1) 0
    → slice_get terms place ≡ Some n → HasNumber system n z → more ≡ terms → given ≡ set values place (Some z) → rest ≡ take (length path - 1) path
    → IsWork system more given rest × (get_or more 0 0 ≡ get_or terms 0 0) × (work_left system more rest < work_left system terms path)
step-closed system terms more values given path rest place n z w h is at has e f g =
    let here : get_or terms place 0 ≡ n = get_or_from_slice_get terms place n 0 at in
    let short : length (take (length path - 1) path) ≡ length path - 1 = length-take-le (length path - 1) path (omega arith) in
    rw (e, f, g) (work-closed system terms values path place z w h is (subst (λ q. HasNumber system q z) (sym here) has), refl, omega (arith, short))

-- a step that opens another term
pub step-opened : (system : System) (terms more : List ℕ) (values given : List (Option ℤ)) (path rest : List ℕ) (place n m : ℕ) → IsWork system terms values path → 0 < length path → place ≡ get_or path (length path - 1) 0
    → slice_get terms place ≡ Some n → IsOperandOf system n m → m < length system.nodes → resolve system.bound m ≡ m → more ≡ terms ++ m ∷ [] → given ≡ values ++ None ∷ [] → rest ≡ path ++ length values ∷ [] → AreDistinct more
    → IsWork system more given rest × (get_or more 0 0 ≡ get_or terms 0 0) × (work_left system more rest < work_left system terms path)
step-opened system terms more values given path rest place n m w h is at part inside last e f g distinct =
    let here : n ≡ term_at terms path (length path - 1) = sym (get_or_from_slice_get terms place n 0 at) ∙ ap (λ p. get_or terms p 0) is in
    let work = work-opened system terms values path m w h (subst (λ q. IsOperandOf system q m) here part) inside last (subst AreDistinct e distinct) in
    let fits = terms-fit system (terms ++ m ∷ []) (values ++ None ∷ []) (path ++ length values ∷ []) work in
    let lt : length (terms ++ m ∷ []) ≡ length terms + 1 = length-append terms (m ∷ []) in
    let lp : length (path ++ length values ∷ []) ≡ length path + 1 = length-append path (length values ∷ []) in
    rw (e, f, g) (work, push-old terms m 0 0 w.some, omega arith)

-- a step that finds that there is no number
pub step-failed : (system : System) (terms : List ℕ) (values : List (Option ℤ)) (path : List ℕ) (place n : ℕ) → IsWork system terms values path → 0 < length path → place ≡ get_or path (length path - 1) 0 → slice_get terms place ≡ Some n
    → ((z : ℤ) → HasNumber system n z → ⊥) ⊎ ((m : ℕ) × IsOperandOf system n m × IsMetWith terms values m None) → (z : ℤ) → HasNumber system (get_or terms 0 0) z → ⊥
step-failed system terms values path place n w h is at why =
    work-failed system terms values path n w h (sym (get_or_from_slice_get terms place n 0 at) ∙ ap (λ p. get_or terms p 0) is) why

-- the work begins
pub work-begins : (system : System) (node start : ℕ) (terms before : List ℕ) (values none : List (Option ℤ)) (path empty : List ℕ) → start ≡ resolve system.bound node → start < length system.nodes → resolve system.bound start ≡ start
    → before ≡ [] → none ≡ [] → empty ≡ [] → terms ≡ before ++ start ∷ [] → values ≡ none ++ None ∷ [] → path ≡ empty ++ length none ∷ [] → AreDistinct terms
    → IsWork system terms values path × (get_or terms 0 0 ≡ resolve system.bound node)
work-begins system node start terms before values none path empty e inside last b n p t v q distinct =
    let ts : terms ≡ start ∷ [] = t ∙ ap (λ xs. xs ++ start ∷ []) b in
    let vs : values ≡ None ∷ [] = v ∙ ap (λ xs. xs ++ None ∷ []) n in
    let ps : path ≡ 0 ∷ [] = q ∙ ap₂ (λ xs ys. xs ++ length ys ∷ []) p n in (
      subst (λ xs. IsWork system xs values path) (sym ts) (subst (λ xs. IsWork system (start ∷ []) xs path) (sym vs) (subst (λ xs. IsWork system (start ∷ []) (None ∷ []) xs) (sym ps)
          (work-started system start inside last (subst AreDistinct ts distinct)))),
      ap (λ xs. get_or xs 0 0) ts ∙ e,
    )
