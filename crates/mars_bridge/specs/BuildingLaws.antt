-- Laws: nodes that are added to a system, one at a time, and which variables equations use.
use Rattle.std.specs.Prelude.{◌≡◌, ℕ, ◌+◌, ◌<◌, List, [], ◌∷◌, ◌++◌, length, map, slice_get, Some}
use Rattle.mars_tree.specs.declared.label.Label.{Label}
use Rattle.mars_tree.specs.Graph.{Node, IsNode, label_of, kids_of, free_leaf, at}
use Rattle.mars_store.specs.Valuation.{Valuation, value}
use Rattle.mars_store.specs.System.{System, IsSystem, with_node}
use Rattle.mars_store.specs.Solutions.{InSol}
use Rattle.mars_term.specs.declared.term.Term.{Term, Kept}
use Rattle.mars_term.specs.declared.clause.Rule.{Rule}
use Rattle.mars_term.specs.Clauses.{IsRule}
use Rattle.mars_rules.specs.TermTrees.{label_of_term, arguments_of}
use Rattle.mars_machine.specs.Subjects.{Subject, Renamed}
use Rattle.mars_machine.specs.Equations.{Equations, with_equality, with_variables}
use Rattle.mars_machine.specs.Children.{called_equations}
use Rattle.mars_bridge.specs.Represents.{Represents, Denotes, DenoteAll}
use Rattle.mars_bridge.specs.Scoped.{UsesBelow, IsScoped, IsKeptBy}

-- without variables every system represents no equations
abbrev pub EmptyRepresented : Type 0
EmptyRepresented = (kept : List (List Node)) (system : System) → IsSystem system → Represents (record { kept = kept; next = 0; equal = [] }) system []

-- with one free node more the system represents the equations over one variable more
abbrev pub FreeRepresented : Type 0
FreeRepresented = (e : Equations) (old : System) (vars : List ℕ) → Represents e old vars → IsScoped e → IsSystem old
    → Represents (with_variables e (e.next + 1)) (with_node old free_leaf) (vars ++ length old.nodes ∷ [])

-- with one free node more a node denotes what it denoted
abbrev pub FreeDenotes : Type 0
FreeDenotes = (e : Equations) (old : System) (vars : List ℕ) → Represents e old vars → IsScoped e → IsSystem old → (n : ℕ) (subject : Subject) → UsesBelow e.next subject
    → Denotes e old vars n subject → Denotes (with_variables e (e.next + 1)) (with_node old free_leaf) (vars ++ length old.nodes ∷ []) n subject

-- with one node more the system represents what it represented
abbrev pub NodeKeeps : Type 0
NodeKeeps = (e : Equations) (old : System) (vars : List ℕ) → Represents e old vars → IsSystem old → (node : Node) → IsNode (length old.nodes) node → IsKeptBy e old (with_node old node) vars

-- a node with a term's label over nodes that denote its arguments denotes the term
abbrev pub LabelDenotes : Type 0
LabelDenotes = (e : Equations) (system : System) (vars : List ℕ) (first n : ℕ) (term : Term) (label : Label) → label_of system.nodes n ≡ Some label → label_of_term term ≡ Some label
    → DenoteAll e system vars (kids_of system.nodes n) (map (Renamed first) (arguments_of term)) → Denotes e system vars n (Renamed first term)

-- a node that has the tree of a kept name in every solution denotes it
abbrev pub KeptDenotes : Type 0
KeptDenotes = (e : Equations) (system : System) (vars : List ℕ) (first number n : ℕ) (graph : List Node) → slice_get e.kept number ≡ Some graph → n < length system.nodes
    → ((v : Valuation) → InSol system v → (path : List ℕ) → value v n path ≡ at graph 0 path) → Denotes e system vars n (Renamed first (Kept number))

-- equations stay scoped with an equation of subjects that are, and with a call by a rule
abbrev pub EqualScoped : Type 0
EqualScoped = (e : Equations) (s t : Subject) → IsScoped e → UsesBelow e.next s → UsesBelow e.next t → IsScoped (with_equality e s t)

abbrev pub CallScoped : Type 0
CallScoped = (e : Equations) (call : Subject) (rule : Rule) → IsScoped e → UsesBelow e.next call → IsRule rule → IsScoped (called_equations e call rule)
