-- Numbers that rise, and what a search by halves tells of them.
use Rattle.std.proofs.Common.{◌≡◌, ℕ, ◌<◌, ◌≤◌, List, length, arith, get_or, inl, inr, subst, Contains}
use Rattle.std.proofs.lemmas.Bool.{cases_order, cases_lt}
use Rattle.std.proofs.lemmas.Option.{get_or_from_slice_get}
use Rattle.mars_base.proofs.ListFacts.{get-Contains}
use Rattle.mars_rows.specs.StockInside.{NumbersRise}

-- numbers that rise don't fall
pub level : (ns : List ℕ) → NumbersRise ns → (i j : ℕ) → i ≤ j → j < length ns → get_or ns i 0 ≤ get_or ns j 0
level ns rising i j le j_in = elim (cases_order i j) [
  | inl same ↦ subst (λ (k : ℕ). get_or ns i 0 ≤ get_or ns k 0) same (omega arith)
  | inr other ↦ elim other [
    | inl lt ↦ let a : get_or ns i 0 < get_or ns j 0 = rising i j lt j_in in omega (arith, a)
    | inr lt ↦ absurd (omega (arith, lt, le))
  ]
]

-- where all before a place are less and all others are greater, a number is none of them
pub none_of : (ns : List ℕ) (number i : ℕ) → ((k : ℕ) → k < i → get_or ns k 0 < number) → ((k : ℕ) → i ≤ k → k < length ns → number < get_or ns k 0) → Contains ns number → ⊥
none_of ns number i less greater contains =
    let there = get-Contains ns number contains in
    let at : get_or ns there.0 0 ≡ number = get_or_from_slice_get ns there.0 number 0 there.2 in
    elim (cases_lt there.0 i) [
      | inl lt ↦ let a = less there.0 lt in omega (arith, a, at)
      | inr le ↦ let a = greater there.0 le there.1 in omega (arith, a, at)
    ]
