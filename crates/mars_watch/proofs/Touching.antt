-- What is gathered at variables, and numbers, each once and in order.
use Rattle.std.proofs.Common.{◌≡◌, ◌≢◌, ◌⊎◌, ℕ, suc, ◌+◌, ◌<◌, ◌≤◌, List, [], ◌∷◌, ◌++◌, length, take, drop, get_or, slice_get, All, Contains, Some, sym, ap, ◌∙◌, subst, arith, inl, inr, cond, eqb}
use Rattle.std.proofs.lemmas.Bool.{cases_eq, cases_lt, eq-eqb}
use Rattle.std.proofs.lemmas.List.{get_or-drop, length-drop, take-append-drop, take-take, length-take, get_or_default}
use Rattle.std.proofs.lemmas.Option.{get_or_from_slice_get}
use Rattle.std.specs.List.Sorted.{IsNonDecreasing}
use Rattle.std.proofs.lemmas.List.Elements.{All-nil, All-cons, All-get_or, Contains-append_left, Contains-append_right, Contains-push, Contains-push_cases, Contains-get_or}
use Rattle.mars_store.specs.System.{IsUnbound}
use Rattle.mars_watch.specs.Lined.{AreAscending}
use Rattle.mars_watch.specs.Watched.{items_of, CutAt}
use Rattle.mars_watch.specs.Gathered.{AreGathered, AreRising, AreInOrder, pair_at}
use Rattle.mars_watch.proofs.Lists.{contains-none, contains-cases, ascending-push, ascending-wider}

-- an item that waits at a variable is among those that are gathered there
pub items-contain : (watches : List (ℕ × ℕ)) (variable number : ℕ) → Contains watches (variable, number) → Contains (items_of variable watches) number
items-contain [] variable number c = absurd (contains-none (variable, number) c)
items-contain (watch ∷ later) variable number c = elim (contains-cases watch (variable, number) later c) [
  | inl e ↦
      let v : variable ≡ watch.0 = sym (ap (λ (w : ℕ × ℕ). w.0) e) in
      let i : watch.1 ≡ number = ap (λ (w : ℕ × ℕ). w.1) e in
      rw (eq-eqb variable watch.0 v) (Contains-append_right (items_of variable later) (watch.1 ∷ []) number ((0, omega arith, i)))
  | inr d ↦ Contains-append_left (items_of variable later) (cond (eqb variable watch.0) (watch.1 ∷ []) []) number (items-contain later variable number d)
]

-- watches stay
pub watches-stay : (watches more : List (ℕ × ℕ)) (w : ℕ × ℕ) → CutAt watches more → Contains watches w → Contains more w
watches-stay watches more w cut c =
    subst (λ l. Contains l w) (ap (λ l. l ++ drop (length watches) more) (sym cut) ∙ take-append-drop (length watches) more)
    (Contains-append_left watches (drop (length watches) more) w c)

-- a variable is bound by one of the equations, or by none
pub bound-or-not : (bound : List (ℕ × ℕ)) (v : ℕ) → ((place : ℕ) × (place < length bound) × ((pair_at bound place).0 ≡ v)) ⊎ IsUnbound bound v
bound-or-not [] v = inr (All-nil (λ equation. equation.0 ≢ v))
bound-or-not (e ∷ later) v = elim (cases_eq e.0 v) [
  | inl i ↦ inl (0, omega arith, i)
  | inr ne ↦ elim (bound-or-not later v) [
    | inl (place, h, i) ↦ inl (suc place, omega arith, i)
    | inr u ↦ inr (All-cons (λ equation. equation.0 ≢ v) e later ne u)
  ]
]

-- numbers that rise are different
pub rising-apart : (numbers : List ℕ) (i j : ℕ) → AreRising numbers → i < length numbers → j < length numbers → get_or numbers i 0 ≡ get_or numbers j 0 → i ≡ j
rising-apart numbers i j r h k e = elim (cases_eq i j) [
  | inl same ↦ same
  | inr ne ↦ elim (cases_lt i j) [ inl l ↦ absurd (omega (arith, r i j l k)) | inr l ↦ absurd (omega (arith, r j i (omega arith) h)) ]
]

pub rising-sorted : (numbers : List ℕ) → AreRising numbers → (i j : ℕ) → i ≤ j → j < length numbers → get_or numbers i 0 ≤ get_or numbers j 0
rising-sorted numbers r i j h k = elim (cases_eq i j) [ inl e ↦ rw e (omega arith) | inr ne ↦ omega (arith, r i j (omega arith) k) ]

-- the items of one more variable are gathered
pub gathered-next : (watches bound : List (ℕ × ℕ)) (seen at : ℕ) (now new : List ℕ) (equation : ℕ × ℕ)
    → ((place number : ℕ) → seen ≤ place → place < at → Contains watches ((pair_at bound place).0, number) → Contains now number) → new ≡ now ++ items_of equation.0 watches → slice_get bound at ≡ Some equation
    → (place number : ℕ) → seen ≤ place → place < at + 1 → Contains watches ((pair_at bound place).0, number) → Contains new number
gathered-next watches bound seen at now new equation before e is place number h k c =
    rw e (elim (cases_lt place at) [
      | inl l ↦ Contains-append_left now (items_of equation.0 watches) number (before place number h l c)
      | inr l ↦
          let same : place ≡ at = omega arith in
          let eq : pair_at bound place ≡ equation = ap (λ n. pair_at bound n) same ∙ get_or_from_slice_get bound at equation (0, 0) is in
          Contains-append_right now (items_of equation.0 watches) number (items-contain watches equation.0 number (subst (λ (x : ℕ × ℕ). Contains watches (x.0, number)) eq c))
    ])

pub gathered-all : (watches bound : List (ℕ × ℕ)) (seen at : ℕ) (now : List ℕ) → length bound ≤ at
    → ((place number : ℕ) → seen ≤ place → place < at → Contains watches ((pair_at bound place).0, number) → Contains now number) → AreGathered watches (drop seen bound) now
gathered-all watches bound seen at now h before place number k c =
    let size = length-drop seen bound in
    before (seen + place) number (omega arith) (omega arith) (subst (λ (x : ℕ × ℕ). Contains watches (x.0, number)) (get_or-drop seen bound place (0, 0)) c)

-- the same numbers, each once
pub record IsOnce (size : ℕ) (found : List ℕ) (index : ℕ) (places : List ℕ) (next : ℕ) : Type 0 where
  pub ascending : AreAscending 0 places next
  pub within : next ≤ size
  pub low : (k : ℕ) → index ≤ k → k < length found → next ≤ get_or found k 0 + 1
  pub last : (place : ℕ) → next ≡ suc place → Contains places place
  pub from : (place : ℕ) → Contains places place → Contains found place
  pub all : (k : ℕ) → k < index → Contains places (get_or found k 0)

pub below-next : (index : ℕ) (P : ℕ → Type 0) → ((k : ℕ) → k < index → P k) → P index → (k : ℕ) → k < index + 1 → P k
below-next index P before here k h = elim (cases_lt k index) [ inl l ↦ before k l | inr l ↦ let e : k ≡ index = omega arith in subst P (sym e) here ]

pub once-more : (size : ℕ) (found : List ℕ) (index : ℕ) (places new : List ℕ) (next : ℕ) → IsNonDecreasing found → All (λ place. place < size) found → index < length found
    → IsOnce size found index places next → next ≤ get_or found index 0 → new ≡ places ++ get_or found index 0 ∷ [] → IsOnce size found (index + 1) new (get_or found index 0 + 1)
once-more size found index places new next sorted within h o low e =
    let p : ℕ = get_or found index 0 in
    let below : p < size = All-get_or (λ place. place < size) found index 0 h within in
    let one : suc p ≡ p + 1 = omega arith in
    rw e (record {
      ascending = subst (λ n. AreAscending 0 (places ++ p ∷ []) n) one (ascending-push 0 places next p o.ascending low);
      within = omega arith;
      low = λ k i j. let s = sorted index k 0 (omega arith) j in omega arith;
      last = λ place i. let same : place ≡ p = omega arith in rw same (Contains-push places p);
      from = λ place c. elim (Contains-push_cases places p place c) [ inl d ↦ o.from place d | inr i ↦ subst (Contains found) i (Contains-get_or found index 0 h) ];
      all = below-next index (λ k. Contains (places ++ p ∷ []) (get_or found k 0)) (λ k i. Contains-append_left places (p ∷ []) (get_or found k 0) (o.all k i)) (Contains-push places p);
    })

pub once-again : (size : ℕ) (found : List ℕ) (index : ℕ) (places : List ℕ) (next : ℕ) → index < length found → IsOnce size found index places next → get_or found index 0 < next → IsOnce size found (index + 1) places next
once-again size found index places next h o low =
    let l = o.low index (omega arith) h in
    let is : next ≡ suc (get_or found index 0) = omega arith in
    record {
      ascending = o.ascending;
      within = o.within;
      low = λ k i j. o.low k (omega arith) j;
      last = o.last;
      from = o.from;
      all = below-next index (λ k. Contains places (get_or found k 0)) o.all (o.last (get_or found index 0) is);
    }

pub once-done : (size : ℕ) (found : List ℕ) (index : ℕ) (places : List ℕ) (next : ℕ) → length found ≤ index → IsOnce size found index places next → AreInOrder size found places
once-done size found index places next h o = record {
  ascending = ascending-wider 0 places next size o.ascending o.within;
  from = o.from;
  all = λ place c. let e : get_or found c.0 0 ≡ place = get_or_default found c.0 0 place c.1 ∙ c.2 in subst (Contains places) e (o.all c.0 (let k = c.1 in omega arith));
}

-- a number between those before and after a place isn't there
pub not-there : (numbers : List ℕ) (number at : ℕ) → ((k : ℕ) → k < at → get_or numbers k 0 < number) → ((k : ℕ) → at ≤ k → k < length numbers → number < get_or numbers k 0)
    → (place : ℕ) → place < length numbers → get_or numbers place 0 ≡ number → ⊥
not-there numbers number at before after place h e = elim (cases_lt place at) [ inl l ↦ (let b = before place l in omega arith) | inr l ↦ (let b = after place l h in omega arith) ]

-- a beginning of a beginning
pub cut-cut : (a b c : List (ℕ × ℕ)) → CutAt a b → CutAt b c → CutAt a c
cut-cut a b c f g =
    let n : ℕ = length a in
    let short : n ≤ length b = omega (arith, ap length f, length-take n b) in
    sym (take-take n (length b) c short) ∙ ap (take n) g ∙ f
