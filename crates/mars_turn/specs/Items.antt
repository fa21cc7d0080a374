-- The items of one caller, and how often a number occurs.
use Rattle.std.specs.Prelude.{◌≡◌, ℕ, ◌+◌, List, [], ◌∷◌, filter, ◌==◌, nat_lt, Bool, true, false, All}

-- the items of one caller, where `by` tells the caller of an item
abbrev pub made_by : {X : Type 0} → (X → ℕ) → ℕ → List X → List X
made_by by caller items = filter (λ x. by x == caller) items

-- each caller that is listed made just the items that are listed with it
abbrev pub AllMade : {X : Type 0} → (X → ℕ) → List X → List (ℕ × List X) → Type 0
AllMade by items listed = All (λ e. made_by by e.0 items ≡ e.1) listed

-- f of each, added up
abbrev pub total : {A : Type 0} → (A → ℕ) → List A → ℕ
total f [] = 0
total f (x ∷ xs) = f x + total f xs

-- 1 where the test passes
abbrev pub one_if : Bool → ℕ
one_if true = 1
one_if false = 0

-- how often a number occurs in a list
abbrev pub times : ℕ → List ℕ → ℕ
times k [] = 0
times k (n ∷ ns) = one_if (n == k) + times k ns

-- 1 for a number below n, and else 0
abbrev pub once_below : ℕ → ℕ → ℕ
once_below k n = one_if (nat_lt k n)
