-- Rows whose numbers are distinct.
use Rattle.std.proofs.Common.{◌≡◌, ◌≢◌, ℕ, ◌<◌, ◌≤◌, Bool, true, false, cond, nat_eq, List, [], ◌∷◌, ◌++◌, map, filter, sym, subst, arith, All, ne_eqb}
use Rattle.std.specs.List.{IsDistinct, AllByRecursion}
use Rattle.std.proofs.lemmas.List.{map-append}
use Rattle.std.proofs.lemmas.List.Elements.{All-head, All-tail, All-weaker}
use Rattle.mars_rows.specs.Rows.{Row}

abbrev pub numbers : List Row → List ℕ
numbers rows = map (λ row. row.number) rows

pub apart_from : (x : ℕ) (rows : List Row) → All (λ row. x ≢ row.number) rows → AllByRecursion (λ y. nat_eq x y ≡ false) (numbers rows)
apart_from x [] all = tt
apart_from x (row ∷ rows) all = (ne_eqb x row.number (All-head (λ row. x ≢ row.number) row rows all), apart_from x rows (All-tail (λ row. x ≢ row.number) row rows all))

by_recursion-append : (P : ℕ → Type 0) (xs ys : List ℕ) → AllByRecursion P xs → AllByRecursion P ys → AllByRecursion P (xs ++ ys)
by_recursion-append P [] ys left right = right
by_recursion-append P (x ∷ xs) ys left right = (left.0, by_recursion-append P xs ys left.1 right)

-- numbers below a bound, then distinct ones at it or past it
pub distinct-append : (rows more : List Row) (next : ℕ) → IsDistinct nat_eq (numbers rows) → All (λ row. row.number < next) rows → IsDistinct nat_eq (numbers more) → All (λ row. next ≤ row.number) more →
    IsDistinct nat_eq (numbers (rows ++ more))
unfolding IsDistinct
distinct-append [] more next left below right past = right
distinct-append (row ∷ rows) more next left below right past =
    let lt : row.number < next = All-head (λ row. row.number < next) row rows below in
    let split : numbers (rows ++ more) ≡ numbers rows ++ numbers more = map-append (λ row. row.number) rows more in (
      subst (λ (ns : List ℕ). AllByRecursion (λ y. nat_eq row.number y ≡ false) ns) (sym split)
          (by_recursion-append (λ y. nat_eq row.number y ≡ false) (numbers rows) (numbers more) left.0
          (apart_from row.number more (All-weaker (λ other. next ≤ other.number) (λ other. row.number ≢ other.number) (λ other le e. absurd (omega (arith, lt, le, e))) more past))),
      distinct-append rows more next left.1 (All-tail (λ row. row.number < next) row rows below) right past,
    )

-- a filter keeps numbers distinct
by_recursion-filter : (P : ℕ → Type 0) (q : Row → Bool) (rows : List Row) → AllByRecursion P (numbers rows) → AllByRecursion P (numbers (filter q rows))
by_recursion-filter P q [] all = tt
by_recursion-filter P q (row ∷ rows) all = either (q row) (by_recursion-filter P q rows all.1)
  where
    either : (b : Bool) → AllByRecursion P (numbers (filter q rows)) → AllByRecursion P (numbers (cond b (row ∷ filter q rows) (filter q rows)))
    either true rest = (all.0, rest)
    either false rest = rest

pub distinct-filter : (q : Row → Bool) (rows : List Row) → IsDistinct nat_eq (numbers rows) → IsDistinct nat_eq (numbers (filter q rows))
unfolding IsDistinct
distinct-filter q [] d = d
distinct-filter q (row ∷ rows) d = either (q row) (by_recursion-filter (λ y. nat_eq row.number y ≡ false) q rows d.0) (distinct-filter q rows d.1)
  where
    either : (b : Bool) → AllByRecursion (λ y. nat_eq row.number y ≡ false) (numbers (filter q rows)) → IsDistinct nat_eq (numbers (filter q rows)) → IsDistinct nat_eq (numbers (cond b (row ∷ filter q rows) (filter q rows)))
    either true all rest = (all, rest)
    either false all rest = rest
