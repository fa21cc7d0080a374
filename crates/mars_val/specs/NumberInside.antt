-- Inside: how the number of a term is found.
use Rattle.std.specs.Prelude.{◌≡◌, ◌⊎◌, ℕ, ℤ, ◌+◌, ◌-◌, ◌*◌, ◌<◌, ◌++◌, Bool, true, false, List, [], ◌∷◌, length, slice_index, slice_index_or, All, Contains, Option, Some, None}
use Rattle.mars_tree.specs.Graph.{kids_of}
use Rattle.mars_reach.specs.Order.{AreDistinct}
use Rattle.mars_store.specs.System.{System, resolve}
use Rattle.mars_val.specs.declared.operation.Operation.{Operation}
use Rattle.mars_val.specs.declared.operand.Operand.{Operand}
use Rattle.mars_val.specs.declared.operand.Operand.TheVariants.{Known, Unmet, Open}
use Rattle.mars_val.specs.declared.operand.Next.{Next}
use Rattle.mars_val.specs.declared.operand.Next.TheVariants.{Number, Wants, Nothing}
use Rattle.mars_val.specs.Number.{HasNumber, IsResult, operation_label, root_of}

-- a value by its place, none where it isn't known
abbrev pub value_at : List (Option ℤ) → ℕ → Option ℤ
value_at values place = slice_index_or values place None

-- the second node is where the links of a kid of the first end, which has an operation's label
pub record IsOperandOf (system : System) (n m : ℕ) : Type 0 where
  pub operation : Operation
  pub label : root_of system n ≡ Some (operation_label operation)
  pub kid : ℕ
  pub among : Contains (kids_of system.nodes (resolve system.bound n)) kid
  pub end : m ≡ resolve system.bound kid

-- the place of a node with a value, or with none
pub record IsMetWith (terms : List ℕ) (values : List (Option ℤ)) (n : ℕ) (value : Option ℤ) : Type 0 where
  pub place : ℕ
  pub within : place < length terms
  pub node : slice_index terms place ≡ n
  pub value_is : value_at values place ≡ value

-- what is told of an operand
abbrev pub IsToldOperand : System → List ℕ → List (Option ℤ) → ℕ → Operand → Type 0
IsToldOperand system terms values kid (Known z) = IsMetWith terms values (resolve system.bound kid) (Some z)
IsToldOperand system terms values kid (Unmet end) = (end ≡ resolve system.bound kid) × (end < length system.nodes) × (resolve system.bound end ≡ end) × (Contains terms end → ⊥)
IsToldOperand system terms values kid Open = IsMetWith terms values (resolve system.bound kid) None

-- what two operands give
abbrev pub IsCombined : Operation → Operand → Operand → Next → Type 0
IsCombined operation left right (Number z) = (x : ℤ) × (y : ℤ) × (left ≡ Known x) × (right ≡ Known y) × IsResult operation x y z
IsCombined operation left right (Wants m) = (left ≡ Unmet m) ⊎ (right ≡ Unmet m)
IsCombined operation left right Nothing = (left ≡ Open) ⊎ ((right ≡ Open) ⊎ ((x : ℤ) × (y : ℤ) × (left ≡ Known x) × (right ≡ Known y) × ((z : ℤ) → IsResult operation x y z → ⊥)))

-- values are the numbers of their nodes
abbrev pub AreTheirNumbers : System → List ℕ → List (Option ℤ) → Type 0
AreTheirNumbers system terms values = (place : ℕ) (z : ℤ) → value_at values place ≡ Some z → HasNumber system (slice_index terms place) z

-- what is next at a node: its number, an operand that wasn't met, or that there is no number: it has none, or an operand is open
abbrev pub IsNext : System → List ℕ → List (Option ℤ) → ℕ → Next → Type 0
IsNext system terms values n (Number z) = HasNumber system n z
IsNext system terms values n (Wants m) = IsOperandOf system n m × (m < length system.nodes) × (resolve system.bound m ≡ m) × (Contains terms m → ⊥)
IsNext system terms values n Nothing = ((z : ℤ) → HasNumber system n z → ⊥) ⊎ ((m : ℕ) × IsOperandOf system n m × IsMetWith terms values m None)

-- the nodes that were met, with their numbers, and the path of those that are open, from the first to an operand of it and so on
pub record IsWork (system : System) (terms : List ℕ) (values : List (Option ℤ)) (path : List ℕ) : Type 0 where
  pub sizes : length values ≡ length terms
  pub distinct : AreDistinct terms
  pub inside : All (λ n. n < length system.nodes) terms
  pub ends : All (λ n. resolve system.bound n ≡ n) terms
  pub some : 0 < length terms
  pub numbers : AreTheirNumbers system terms values
  pub opened : (place : ℕ) → place < length terms → value_at values place ≡ None → Contains path place
  pub places : All (λ place. place < length terms) path
  pub begins : 0 < length path → slice_index path 0 ≡ 0
  pub parts : (i : ℕ) → i + 1 < length path → IsOperandOf system (slice_index terms (slice_index path i)) (slice_index terms (slice_index path (i + 1)))

-- how much is left: a node that is met takes two, and one on the path one
abbrev pub work_left : System → List ℕ → List ℕ → ℕ
work_left system terms path = 2 * (length system.nodes - length terms) + length path

-- the work went on from the same term and less is left, or that term has no number
abbrev pub IsStepped : System → List ℕ → List ℕ → List ℕ → List (Option ℤ) → List ℕ → Bool → Type 0
IsStepped system before path terms values after true = IsWork system terms values after × (slice_index terms 0 ≡ slice_index before 0) × (work_left system terms after < work_left system before path)
IsStepped system before path terms values after false = (z : ℤ) → HasNumber system (slice_index before 0) z → ⊥
