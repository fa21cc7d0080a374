-- The closing calls come last, and the history has of each pass what that pass made.
use Rattle.std.proofs.Common.{◌≡◌, ◌≢◌, ℕ, ◌+◌, ◌<◌, ◌≤◌, List, [], ◌∷◌, ◌++◌, length, map, refl, ap, sym, ◌∙◌, subst, arith, append-nil, length-append, inl, inr}
use Rattle.std.specs.Prelude.{All, Bool, true, false, nat_eq, reverse}
use Rattle.std.proofs.lemmas.List.{map-append, reverse-append}
use Rattle.std.proofs.lemmas.List.Elements.{All-nil, All-cons, All-head, All-tail, All-append, All-weaker, filter-append}
use Rattle.std.proofs.lemmas.Bool.{cases_lt, eq-eqb}
use Rattle.std.proofs.lemmas.Bool.Decides.{eqb_tells}
use mathlib.Core.List.{IsPrefix}
use Rattle.mars_base.proofs.ListFacts.{All-before, All-last}
use Rattle.mars_turn.specs.Items.{times, one_if}
use Rattle.mars_turn.specs.Views.{number_of_ended}
use Rattle.mars_table.specs.declared.entry.Entry.{Entry}
use Rattle.mars_table.specs.History.{of}
use Rattle.mars_book.specs.PassSeen.{PassSeen}
use Rattle.mars_gate.specs.Closing.{ClosingIsLast}
use Rattle.mars_gate.specs.PassesInside.{ended_pass}

own_first : (e : Entry) (history : List Entry) (who : ℕ) → e.who ≡ who → of (e ∷ history) who ≡ e ∷ of history who
own_first e history who same = rw (eq-eqb e.who who same) refl

other_first : (e : Entry) (history : List Entry) (who : ℕ) → e.who ≢ who → of (e ∷ history) who ≡ of history who
other_first e history who other = elim (eqb_tells e.who who) [ inl t ↦ absurd (other t.1) | inr t ↦ rw t.0 refl ]

-- a list in which nobody else has an entry
nobody_tail : (e : Entry) (xs : List Entry) (k : ℕ) → of (e ∷ xs) k ≡ [] → of xs k ≡ []
nobody_tail e xs k none = elim (eqb_tells e.who k) [ inl t ↦ absurd (let f = sym (own_first e xs k t.1) ∙ none in cc f) | inr t ↦ sym (other_first e xs k t.1) ∙ none ]

not_none : (e : Entry) (xs : List Entry) → of (e ∷ xs) e.who ≡ [] → ⊥
not_none e xs none = let f = sym (own_first e xs e.who refl) ∙ none in cc f

all_of : (n : ℕ) (xs : List Entry) → ((k : ℕ) → k ≢ n → of xs k ≡ []) → of xs n ≡ xs
all_of n [] none = refl
all_of n (e ∷ xs) none = elim (eqb_tells e.who n) [
  | inl t ↦ own_first e xs n t.1 ∙ ap (λ (l : List Entry). e ∷ l) (all_of n xs (λ k ne. nobody_tail e xs k (none k ne)))
  | inr t ↦ absurd (not_none e xs (none e.who t.1))
]

all_below : (n : ℕ) (xs : List Entry) → ((k : ℕ) → n ≤ k → of xs k ≡ []) → All (λ (e : Entry). e.who < n) xs
all_below n [] none = All-nil (λ (e : Entry). e.who < n)
all_below n (e ∷ xs) none = All-cons (λ (e : Entry). e.who < n) e xs
    (elim (cases_lt e.who n) [ inl lt ↦ lt | inr le ↦ absurd (not_none e xs (none e.who le)) ])
    (all_below n xs (λ k le. nobody_tail e xs k (none k le)))

cancel : (xs ys : List Entry) → xs ≡ xs ++ ys → ys ≡ []
cancel [] ys e = sym e
cancel (x ∷ xs) ys e = cancel xs ys (cc e)

no_part : (xs ys : List Entry) → xs ++ ys ≡ [] → xs ≡ []
no_part [] ys e = refl
no_part (x ∷ xs) ys e = absurd (cc e)

no_rest : (xs ys : List Entry) → xs ++ ys ≡ [] → ys ≡ []
no_rest [] ys e = e
no_rest (x ∷ xs) ys e = absurd (cc e)

no_items : (xs : List Entry) → length xs ≡ 0 → xs ≡ []
no_items [] e = refl
no_items (x ∷ xs) e = absurd (omega arith)

of-append : (xs ys : List Entry) (k : ℕ) → of (xs ++ ys) k ≡ of xs k ++ of ys k
of-append xs ys k = filter-append (λ (e : Entry). nat_eq e.who k) xs ys

-- What the program's pass had seen when all others had met it, its own calls since, and the history at the end.
pub closes_with : (n : ℕ) (seen last history : List Entry) → IsPrefix seen history → ((i : ℕ) → i < n → of seen i ≡ of history i) → of seen n ≡ [] → of history n ≡ last
    → ((i : ℕ) → n < i → of history i ≡ []) → ClosingIsLast n last history
closes_with n seen last history (rest, begins) complete none_yet mine no_others =
    let both : (k : ℕ) → of history k ≡ of seen k ++ of rest k = λ k. ap (λ (l : List Entry). of l k) (sym begins) ∙ of-append seen rest k in
    let rest_none : (k : ℕ) → k ≢ n → of rest k ≡ [] = λ k ne. elim (cases_lt k n) [
      | inl lt ↦ cancel (of seen k) (of rest k) (complete k lt ∙ both k)
      | inr le ↦ no_rest (of seen k) (of rest k) (sym (both k) ∙ no_others k (omega (arith, le, ne)))
    ] in
    let rest_is : rest ≡ last = sym (all_of n rest rest_none) ∙ sym (ap (λ (l : List Entry). l ++ of rest n) none_yet) ∙ sym (both n) ∙ mine in
    let seen_none : (k : ℕ) → n ≤ k → of seen k ≡ [] = λ k le. elim (eqb_tells k n) [
      | inl t ↦ ap (λ (j : ℕ). of seen j) t.1 ∙ none_yet
      | inr t ↦ no_part (of seen k) (of rest k) (sym (both k) ∙ no_others k (omega (arith, le, t.1)))
    ] in
    record { before = seen; parts = sym begins ∙ ap (λ (l : List Entry). seen ++ l) rest_is; others = all_below n seen seen_none }

-- what a caller has in a beginning and in the whole history, it has in all between
pub between_same : (a s h : List Entry) (i : ℕ) → IsPrefix a s → IsPrefix s h → of h i ≡ of a i → of s i ≡ of h i
between_same a s h i (r, begins) (t, goes) same =
    let s_is : of s i ≡ of a i ++ of r i = ap (λ (l : List Entry). of l i) (sym begins) ∙ of-append a r i in
    let h_is : of h i ≡ of s i ++ of t i = ap (λ (l : List Entry). of l i) (sym goes) ∙ of-append s t i in
    let len : length (of t i) ≡ 0 = omega (arith, ap length s_is, ap length h_is, ap length same, length-append (of a i) (of r i), length-append (of s i) (of t i)) in
    sym (append-nil (of s i)) ∙ ap (λ (l : List Entry). of s i ++ l) (sym (no_items (of t i) len)) ∙ sym h_is

-- what holds of a list that was turned round
All-turn : {X : Type 0} (P : X → Type 0) (xs : List X) → All P xs → All P (reverse xs)
All-turn P [] all = all
All-turn P (x ∷ xs) all =
    subst (λ l. All P l) (sym (reverse-append (x ∷ []) xs)) (All-append P (reverse xs) (x ∷ []) (All-turn P xs (All-tail P x xs all)) (All-cons P x [] (All-head P x xs all) (All-nil P)))

-- what holds of all that ended holds of each pass
pub each_ended : (P : ℕ × List Entry → Type 0) (passes : List PassSeen) → All P (map ended_pass (reverse passes)) → All (λ p. P (ended_pass p)) passes
each_ended P [] all = All-nil (λ (p : PassSeen). P (ended_pass p))
each_ended P (p ∷ passes) all =
    let parts : map ended_pass (reverse (p ∷ passes)) ≡ map ended_pass (reverse passes) ++ ended_pass p ∷ [] =
    ap (map ended_pass) (reverse-append (p ∷ []) passes) ∙ map-append ended_pass (reverse passes) (p ∷ []) in
    let all' : All P (map ended_pass (reverse passes) ++ ended_pass p ∷ []) = subst (λ (l : List (ℕ × List Entry)). All P l) parts all in
    All-cons (λ (x : PassSeen). P (ended_pass x)) p passes (All-last P (map ended_pass (reverse passes)) (ended_pass p) all') (each_ended P passes (All-before P (map ended_pass (reverse passes)) (ended_pass p ∷ []) all'))

none_more : (b : Bool) (n : ℕ) → b ≡ false → one_if b + n ≡ n
none_more true n e = cc
none_more false n e = omega arith

times_none : (k : ℕ) (passes : List PassSeen) → All (λ p. p.view.number < k) passes → times k (map number_of_ended (map ended_pass passes)) ≡ 0
times_none k [] all = refl
times_none k (p ∷ passes) all =
    let lt : p.view.number < k = All-head (λ (x : PassSeen). x.view.number < k) p passes all in
    let other : nat_eq p.view.number k ≡ false = (elim (eqb_tells p.view.number k) [ inl t ↦ absurd (omega (arith, lt, t.1)) | inr t ↦ t.0 ]) in
    none_more (nat_eq p.view.number k) (times k (map number_of_ended (map ended_pass passes))) other ∙ times_none k passes (All-tail (λ (x : PassSeen). x.view.number < k) p passes all)

-- a number past all that ended is none of theirs
pub none_past : (k n : ℕ) (passes : List PassSeen) → n < k → All (λ p. p.view.number < n) passes → times k (n ∷ map number_of_ended (map ended_pass (reverse passes))) ≡ 0
none_past k n passes past all =
    let below : All (λ (p : PassSeen). p.view.number < k) passes = All-weaker (λ (p : PassSeen). p.view.number < n) (λ (p : PassSeen). p.view.number < k) (λ p lt. omega (arith, lt, past)) passes all in
    let other : nat_eq n k ≡ false = (elim (eqb_tells n k) [ inl t ↦ absurd (omega (arith, past, t.1)) | inr t ↦ t.0 ]) in
    none_more (nat_eq n k) (times k (map number_of_ended (map ended_pass (reverse passes)))) other
    ∙ times_none k (reverse passes) (All-turn (λ (p : PassSeen). p.view.number < k) passes below)
