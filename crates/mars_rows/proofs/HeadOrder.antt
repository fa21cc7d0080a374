-- The first node of each component, where nodes are in the order of their components.
use Rattle.std.proofs.Common.{◌≡◌, ◌≢◌, ℕ, zero, suc, ◌<◌, ◌≤◌, ◌+◌, Bool, true, false, not, nat_eq, nat_lt, ◌==◌, cond, List, [], ◌∷◌, ◌++◌, length, map, Some, slice_get, get_or, refl, sym, subst, ap, ◌∙◌, arith, inl, inr, All, eqb-true, eq-eqb}
use Rattle.std.specs.List.{range_with_len}
use Rattle.std.specs.Cmp.{IsTotalOrder}
use Rattle.std.specs.List.Sorted.{IsPermutation, IsSorted}
use Rattle.std.specs.Option.{option_map}
use Rattle.std.specs.declared.cmp.Ordering.{Ordering}
use Rattle.std.specs.declared.cmp.Ordering.TheVariants.{Less, Equal, Greater}
use Rattle.std.specs.Ordering.{is_lt, ordering_then, nat_cmp}
use Rattle.std.proofs.lemmas.Bool.{cases_eq, cases_lt, false≢true}
use Rattle.std.proofs.lemmas.Bool.Decides.{nat_tests}
use Rattle.std.proofs.lemmas.Cmp.{nat_cmp_total, on_total, then_total}
use Rattle.std.proofs.lemmas.List.{length-map}
use Rattle.std.proofs.lemmas.List.FromFn.{length-range_with_len, get_or-range_with_len}
use Rattle.std.proofs.lemmas.List.Sorted.{sorted_far, ranks_by, All-permutation, Contains-permutation}
use Rattle.std.proofs.lemmas.Option.{same_Some, slice_get_within, get_or_from_slice_get, slice_get-get_or, slice_get-map}
use Rattle.mars_base.proofs.ListFacts.{get-push, All-get, All-from_gets, get-Contains, Contains-get}
use Rattle.mars_comp.specs.Components.{component_of}
use Rattle.mars_rows.specs.HeadsInside.{AreByPart, AreFirsts, part_at, is_first_at}
use Rattle.mars_rows.specs.IndexInside.{AreHeads}

module _ (parts : List ℕ) (pairs : List (ℕ × ℕ)) (is : AreByPart parts pairs) where
  pub no_firsts : AreFirsts parts pairs 0 []
  no_firsts = record { are = λ i n e. cc; rise = λ i j n m lt e f. cc; all = λ j p lt e. absurd (omega (arith, lt)) }

  -- what is read at a place
  read : (k : ℕ) (p : ℕ × ℕ) → slice_get pairs k ≡ Some p → part_at pairs k ≡ p.0
  read k p e = ap (λ (q : ℕ × ℕ). q.0) (get_or_from_slice_get pairs k p (0, 0) e)

  -- a component that isn't that of the place before is after all before
  rises : (k : ℕ) (p : ℕ × ℕ) → slice_get pairs k ≡ Some p → is_first_at pairs k ≡ true → (j : ℕ) (q : ℕ × ℕ) → j < k → slice_get pairs j ≡ Some q → q.0 < p.0
  rises zero p e first j q lt f = absurd (omega (arith, lt))
  rises (suc k) p e first j q lt f =
      let there = get_there pairs k (omega (arith, slice_get_within pairs (suc k) p e)) in
      let le = is.rise j k q there.0 (omega (arith, lt)) f there.1 in
      let le' = is.rise k (suc k) there.0 p (omega arith) there.1 e in
      let ne : there.0.0 ≢ p.0 = λ same.
      let t : nat_eq (part_at pairs k) (part_at pairs (suc k)) ≡ true = eq-eqb (part_at pairs k) (part_at pairs (suc k)) (read k there.0 there.1 ∙ same ∙ sym (read (suc k) p e)) in
      let no : false ≡ true = sym (ap not t) ∙ first in
      cc in
      omega (arith, le, le', ne)
    where
      get_there : (xs : List (ℕ × ℕ)) (k : ℕ) → k < length xs → (x : ℕ × ℕ) × (slice_get xs k ≡ Some x)
      get_there [] k lt = absurd (omega (arith, lt))
      get_there (x ∷ xs) zero lt = (x, refl)
      get_there (x ∷ xs) (suc k) lt = get_there xs k (omega (arith, lt))

  module _ (k : ℕ) (p : ℕ × ℕ) (at : slice_get pairs k ≡ Some p) (heads : List ℕ) (firsts : AreFirsts parts pairs k heads) where
    head_at : slice_get pairs k ≡ Some (component_of parts p.1, p.1)
    head_at = at ∙ ap (λ c. Some (c, p.1)) (is.are k p at).1

    -- the node at a place goes last where it is its component's first
    pub one_first : is_first_at pairs k ≡ true → AreFirsts parts pairs (k + 1) (heads ++ p.1 ∷ [])
    one_first first = record {
      are = λ i n e. elim (get-push heads p.1 i n e) [
        | inl old ↦ let r = firsts.are i n old in (r.0, omega (arith, r.1), r.2)
        | inr new ↦ (k, omega arith, head_at ∙ ap (λ m. Some (component_of parts m, m)) new.1)
      ];
      rise = λ i j n m lt e f. elim (get-push heads p.1 j m f) [
        | inl old ↦
            let j_in = slice_get_within heads j m old in
            elim (get-push heads p.1 i n e) [
              | inl both ↦ firsts.rise i j n m lt both old
              | inr last_one ↦ absurd (omega (arith, lt, j_in, last_one.0))
            ]
        | inr new ↦ elim (get-push heads p.1 i n e) [
          | inl old ↦
              let r = firsts.are i n old in
              let below = rises k p at first r.0 (component_of parts n, n) r.1 r.2 in
              omega (arith, below, (is.are k p at).1, ap (component_of parts) new.1)
          | inr last_one ↦ absurd (omega (arith, lt, new.0, last_one.0))
        ]
      ];
      all = λ j q lt e. elim (cases_eq j k) [
        | inl here ↦
            let same : p ≡ q = same_Some p q (sym at ∙ ap (slice_get pairs) (sym here) ∙ e) in
            (length heads, p.1, last heads p.1, sym (is.are k p at).1 ∙ ap (λ (x : ℕ × ℕ). x.0) same)
        | inr ne ↦
            let r = firsts.all j q (omega (arith, lt, ne)) e in
            (r.0, r.1, before heads p.1 r.0 r.1 r.2, r.3)
      ];
    }
      where
        last : (xs : List ℕ) (x : ℕ) → slice_get (xs ++ x ∷ []) (length xs) ≡ Some x
        last [] x = refl
        last (y ∷ xs) x = last xs x

        before : (xs : List ℕ) (x i n : ℕ) → slice_get xs i ≡ Some n → slice_get (xs ++ x ∷ []) i ≡ Some n
        before [] x i n e = cc
        before (y ∷ xs) x zero n e = e
        before (y ∷ xs) x (suc i) n e = before xs x i n e

    -- and is left out where it isn't
    pub no_first : is_first_at pairs k ≡ false → AreFirsts parts pairs (k + 1) heads
    no_first other = record {
      are = λ i n e. let r = firsts.are i n e in (r.0, omega (arith, r.1), r.2);
      rise = firsts.rise;
      all = λ j q lt e. elim (cases_eq j k) [
        | inl here ↦
            let same : p ≡ q = same_Some p q (sym at ∙ ap (slice_get pairs) (sym here) ∙ e) in
            let b = beside k at other in
            let r = firsts.all b.0 b.1 b.2 b.3 in
            (r.0, r.1, r.2, r.3 ∙ b.4 ∙ ap (λ (x : ℕ × ℕ). x.0) same)
        | inr ne ↦ firsts.all j q (omega (arith, lt, ne)) e
      ];
    }
      where
        get_pair : (xs : List (ℕ × ℕ)) (k : ℕ) → k < length xs → (x : ℕ × ℕ) × (slice_get xs k ≡ Some x)
        get_pair [] k lt = absurd (omega (arith, lt))
        get_pair (x ∷ xs) zero lt = (x, refl)
        get_pair (x ∷ xs) (suc k) lt = get_pair xs k (omega (arith, lt))

        by_not : (b : Bool) → not b ≡ false → b ≡ true
        by_not true e = refl
        by_not false e = absurd (false≢true (sym e))

        beside : (k : ℕ) → slice_get pairs k ≡ Some p → is_first_at pairs k ≡ false → (j : ℕ) × (q : ℕ × ℕ) × (j < k) × (slice_get pairs j ≡ Some q) × (q.0 ≡ p.0)
        beside zero e other = absurd (false≢true (sym other))
        beside (suc k) e other =
            let there = get_pair pairs k (omega (arith, slice_get_within pairs (suc k) p e)) in
            let t : nat_eq (part_at pairs k) (part_at pairs (suc k)) ≡ true = by_not (nat_eq (part_at pairs k) (part_at pairs (suc k))) other in
            (k, there.0, omega arith, there.1, sym (read k there.0 there.1) ∙ eqb-true (part_at pairs k) (part_at pairs (suc k)) t ∙ read (suc k) p e)

  pub firsts_are_heads : (heads : List ℕ) → AreFirsts parts pairs (length pairs) heads → AreHeads parts heads
  firsts_are_heads heads firsts = record {
    within = λ k n e. let r = firsts.are k n e in (is.are r.0 (component_of parts n, n) r.2).0;
    rise = firsts.rise;
    all = λ n n_in.
        let at = is.all n n_in in
        firsts.all at.0 (component_of parts n, n) (slice_get_within pairs at.0 (component_of parts n, n) at.1) at.1;
  }

abbrev pair_cmp : ℕ × ℕ → ℕ × ℕ → Ordering
pair_cmp a b = ordering_then (nat_cmp a.0 b.0) (nat_cmp a.1 b.1)

pairs_total : IsTotalOrder pair_cmp
pairs_total = then_total (on_total (λ (p : ℕ × ℕ). p.0) nat_cmp_total) (on_total (λ (p : ℕ × ℕ). p.1) nat_cmp_total)

not_below : (a b : ℕ × ℕ) → is_lt (pair_cmp b a) ≡ false → a.0 ≤ b.0
not_below a b e = elim (cases_lt b.0 a.0) [
  | inl lt ↦
      let t : nat_lt b.0 a.0 ≡ true = grind (arith, nat_tests) in
      absurd (false≢true (sym e ∙ ap (λ t. is_lt (ordering_then (cond t Less (cond (b.0 == a.0) Equal Greater)) (nat_cmp b.1 a.1))) t))
  | inr le ↦ le
]

-- pairs of each node that are sorted
pub sorted_pairs : (parts : List ℕ) (pairs : List (ℕ × ℕ)) → IsPermutation (map (λ n. (component_of parts n, n)) (range_with_len 0 (length parts))) pairs → IsSorted pair_cmp pairs → AreByPart parts pairs
sorted_pairs parts pairs moved sorted =
    let all : List (ℕ × ℕ) = map (λ n. (component_of parts n, n)) (range_with_len 0 (length parts)) in
    let P : ℕ × ℕ → Type 0 = λ p. (p.1 < length parts) × (p.0 ≡ component_of parts p.1) in
    let each : All P all = All-from_gets P all (λ k p e. from_map parts (length parts) k p e) in
    let passed : All P pairs = All-permutation P all pairs moved each in
    record {
      are = λ k p e. All-get P pairs k p passed e;
      all = λ n n_in.
          let pair : ℕ × ℕ = (component_of parts n, n) in
          let there = get-Contains pairs pair (Contains-permutation all pairs pair moved (Contains-get all n pair (to_map parts (length parts) n n_in))) in
          (there.0, there.2);
      rise = λ i j p q le e f.
          let far = sorted_far (λ x y. is_lt (pair_cmp x y)) (ranks_by pairs_total (λ (x : ℕ × ℕ). x)) pairs sorted i j (0, 0) le (slice_get_within pairs j q f) in
          not_below p q (ap (λ x. is_lt (pair_cmp x p)) (sym (get_or_from_slice_get pairs j q (0, 0) f)) ∙ ap (λ y. is_lt (pair_cmp (get_or pairs j (0, 0)) y)) (sym (get_or_from_slice_get pairs i p (0, 0) e)) ∙ far);
    }
  where
    to_map : (parts : List ℕ) (count n : ℕ) → n < count → slice_get {X = ℕ × ℕ} (map (λ m. (component_of parts m, m)) (range_with_len 0 count)) n ≡ Some (component_of parts n, n)
    to_map parts count n lt =
        let zero_n : 0 + n ≡ n = omega arith in
        let f : ℕ → ℕ × ℕ = λ m. (component_of parts m, m) in
        slice_get-map f (range_with_len 0 count) n
        ∙ ap (option_map f) (slice_get-get_or (range_with_len 0 count) n 0 (omega (arith, lt, length-range_with_len 0 count)) ∙ ap (λ m. Some m) (get_or-range_with_len 0 count n 0 lt ∙ zero_n))

    from_map : (parts : List ℕ) (count k : ℕ) (p : ℕ × ℕ) → slice_get {X = ℕ × ℕ} (map (λ m. (component_of parts m, m)) (range_with_len 0 count)) k ≡ Some p → (p.1 < count) × (p.0 ≡ component_of parts p.1)
    from_map parts count k p e =
        let f : ℕ → ℕ × ℕ = λ m. (component_of parts m, m) in
        let k_in : k < count = omega (arith, slice_get_within (map f (range_with_len 0 count)) k p e, length-map (range_with_len 0 count) f, length-range_with_len 0 count) in
        let same : f k ≡ p = same_Some (f k) p (sym (to_map parts count k k_in) ∙ e) in
        subst (λ (q : ℕ × ℕ). (q.1 < count) × (q.0 ≡ component_of parts q.1)) same (k_in, refl)
