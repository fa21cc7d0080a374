-- What the plain valuation tells of all solutions.
use Rattle.std.specs.Prelude.{◌≡◌, ◌↔◌, ℕ, ◌+◌, ◌<◌, max, List, [], ◌∷◌, length, All, Option, Some, None}
use Rattle.mars_tree.specs.declared.label.Label.{Label}
use Rattle.mars_tree.specs.declared.label.Label.TheVariants.{Name, Int, Dot, Tup, Str}
use Rattle.mars_tree.specs.Graph.{Node, label as at_label, label_of}
use Rattle.mars_store.specs.Valuation.{Valuation, value, Agree}
use Rattle.mars_store.specs.System.{System, IsSystem, resolve}
use Rattle.mars_store.specs.Solutions.{InSol, plain, AreNew}

-- in every solution the node's tree shows the label at the end of the path
abbrev pub IsForced : System → ℕ → List ℕ → Label → Type 0
IsForced system n path label = (v : Valuation) → InSol system v → value v n path ≡ Some (at_label label)

-- no label is shown there in every solution
abbrev pub IsUnforced : System → ℕ → List ℕ → Type 0
IsUnforced system n path = (label : Label) → IsForced system n path label → ⊥

-- the label of the node's root is forced
abbrev pub IsKnown : System → ℕ → Type 0
IsKnown system n = (label : Label) × IsForced system n [] label

-- every solution gives the two nodes the same tree
abbrev pub IsImplied : System → ℕ → ℕ → Type 0
IsImplied system a b = (v : Valuation) → InSol system v → Agree v a b

-- a solution in which none of the pairs has the same tree
pub record IsSolvable (system : System) (difs : List (ℕ × ℕ)) : Type 0 where
  pub v : Valuation
  pub solves : InSol system v
  pub differ : All (λ dif. Agree v dif.0 dif.1 → ⊥) difs

-- a number past that of a name
abbrev pub past : Option Label → ℕ
past (Some (Name name arity)) = name.0 + 1
past (Some (Int value)) = 0
past (Some Dot) = 0
past (Some (Tup arity)) = 0
past (Some (Str spelling)) = 0
past None = 0

-- a number past those of the names in the nodes
abbrev pub unused : List Node → ℕ
unused [] = 0
unused (node ∷ nodes) = max (past node.label) (unused nodes)

-- names that occur nowhere in a system
abbrev pub new_names : System → ℕ → ℕ
new_names system n = unused system.nodes + n

-- the plain valuation is a solution, whichever names the variables have
abbrev pub PlainSolves : Type 0
PlainSolves = (system : System) → IsSystem system → (names : ℕ → ℕ) → InSol system (plain system names)

-- what is the same under names of their own is the same in every solution
abbrev pub PlainDecides : Type 0
PlainDecides = (system : System) → IsSystem system → (names : ℕ → ℕ) → AreNew system names
    → (x y : ℕ) → x < length system.nodes → y < length system.nodes
    → Agree (plain system names) x y → IsImplied system x y

-- there are such names
abbrev pub NewNames : Type 0
NewNames = (system : System) → AreNew system (new_names system)

-- the label of a free variable is never forced
abbrev pub FreeUnforced : Type 0
FreeUnforced = (system : System) → IsSystem system → (n : ℕ) → n < length system.nodes
    → label_of system.nodes (resolve system.bound n) ≡ None → IsUnforced system n []

-- inequations are independent of each other: there is a solution exactly where none of them is implied equal
abbrev pub DifsIndependent : Type 0
DifsIndependent = (system : System) → IsSystem system → (difs : List (ℕ × ℕ))
    → All (λ dif. (dif.0 < length system.nodes) × (dif.1 < length system.nodes)) difs
    → IsSolvable system difs ↔ All (λ dif. IsImplied system dif.0 dif.1 → ⊥) difs
