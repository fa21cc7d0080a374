-- The number of a term: an integer's own, or the result of an operation on two numbers.
use Rattle.std.specs.Prelude.{◌≡◌, ◌≢◌, ℕ, ℤ, pos, ◌+ℤ◌, ◌-ℤ◌, ◌*ℤ◌, int_div, int_rem, FitsSigned, List, [], ◌∷◌, Option, Some, None}
use Rattle.std.specs.Int.{w64}
use Rattle.mars_tree.specs.declared.label.Label.{Label}
use Rattle.mars_tree.specs.declared.label.Label.TheVariants.{Name, Int}
use Rattle.mars_tree.specs.Graph.{label_of, kids_of}
use Rattle.mars_store.specs.System.{System, resolve}
use Rattle.mars_val.specs.declared.operation.Operation.{Operation}
use Rattle.mars_val.specs.declared.operation.Operation.TheVariants.{Add, Sub, Mul, Div, Mod}
use Rattle.mars_val.specs.declared.operation.TheConstants.{ADD, SUB, MUL, DIV, MOD}

-- an operation's name, by its place among the built-in names
abbrev pub operation_name : Operation → ℕ
operation_name Add = ADD
operation_name Sub = SUB
operation_name Mul = MUL
operation_name Div = DIV
operation_name Mod = MOD

-- an operation's label: its name with two arguments
abbrev pub operation_label : Operation → Label
operation_label operation = Name (record { 0 = operation_name operation }) 2

-- the result of an operation on two numbers, where it is in i64; a quotient is rounded towards zero, there is none by zero,
-- and a remainder is what the quotient leaves
abbrev pub IsResult : Operation → ℤ → ℤ → ℤ → Type 0
IsResult Add x y z = FitsSigned w64 (x +ℤ y) × (z ≡ x +ℤ y)
IsResult Sub x y z = FitsSigned w64 (x -ℤ y) × (z ≡ x -ℤ y)
IsResult Mul x y z = FitsSigned w64 (x *ℤ y) × (z ≡ x *ℤ y)
IsResult Div x y z = (y ≢ pos 0) × FitsSigned w64 (int_div x y) × (z ≡ int_div x y)
IsResult Mod x y z = (y ≢ pos 0) × FitsSigned w64 (int_div x y) × (z ≡ int_rem x y)

-- the label that is known at the root of a node's tree
abbrev pub root_of : System → ℕ → Option Label
root_of system n = label_of system.nodes (resolve system.bound n)

-- the number of a node's tree: an integer is itself, and an operation of two trees with numbers has the result.
-- Finitely many uses of these rules give it, so an infinite tree of operations has none
pub data HasNumber (system : System) : ℕ → ℤ → Type 0 where
  itself : {n : ℕ} {z : ℤ} → root_of system n ≡ Some (Int z) → HasNumber system n z
  applied : {n left right : ℕ} {x y z : ℤ} (operation : Operation) → root_of system n ≡ Some (operation_label operation) → kids_of system.nodes (resolve system.bound n) ≡ left ∷ right ∷ []
      → HasNumber system left x → HasNumber system right y → IsResult operation x y z → HasNumber system n z

-- what a number, or none, says of a node's tree
abbrev pub IsNumberOf : System → ℕ → Option ℤ → Type 0
IsNumberOf system n None = (z : ℤ) → HasNumber system n z → ⊥
IsNumberOf system n (Some z) = HasNumber system n z
