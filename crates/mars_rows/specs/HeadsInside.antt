-- Inside: nodes in the order of their components.
use Rattle.std.specs.Prelude.{◌≡◌, ℕ, zero, suc, ◌<◌, ◌≤◌, Bool, true, not, nat_eq, List, length, Some, slice_get, slice_index_or}
use Rattle.mars_comp.specs.Components.{component_of}

-- each node with its component's number before it, and these numbers don't fall
pub record AreByPart (parts : List ℕ) (pairs : List (ℕ × ℕ)) : Type 0 where
  pub are : (k : ℕ) (p : ℕ × ℕ) → slice_get pairs k ≡ Some p → (p.1 < length parts) × (p.0 ≡ component_of parts p.1)
  pub all : (n : ℕ) → n < length parts → (k : ℕ) × (slice_get pairs k ≡ Some (component_of parts n, n))
  pub rise : (i j : ℕ) (p q : ℕ × ℕ) → i ≤ j → slice_get pairs i ≡ Some p → slice_get pairs j ≡ Some q → p.0 ≤ q.0

-- the component at place `k`
abbrev pub part_at : List (ℕ × ℕ) → ℕ → ℕ
part_at pairs k = (slice_index_or pairs k (0, 0)).0

-- no node of the component is at the place before
abbrev pub is_first_at : List (ℕ × ℕ) → ℕ → Bool
is_first_at pairs zero = true
is_first_at pairs (suc k) = not (nat_eq (part_at pairs k) (part_at pairs (suc k)))

-- the first nodes of the components at the first `k` places
pub record AreFirsts (parts : List ℕ) (pairs : List (ℕ × ℕ)) (k : ℕ) (heads : List ℕ) : Type 0 where
  pub are : (i n : ℕ) → slice_get heads i ≡ Some n → (j : ℕ) × (j < k) × (slice_get pairs j ≡ Some (component_of parts n, n))
  pub rise : (i j n m : ℕ) → i < j → slice_get heads i ≡ Some n → slice_get heads j ≡ Some m → component_of parts n < component_of parts m
  pub all : (j : ℕ) (p : ℕ × ℕ) → j < k → slice_get pairs j ≡ Some p → (i : ℕ) × (n : ℕ) × (slice_get heads i ≡ Some n) × (component_of parts n ≡ p.0)
