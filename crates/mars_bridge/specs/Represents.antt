-- Systems of equations between nodes that represent equations between terms.
use Rattle.std.specs.Prelude.{◌≡◌, ℕ, ◌<◌, List, length, map, slice_index, All}
use Rattle.mars_store.specs.Valuation.{Valuation, value}
use Rattle.mars_store.specs.System.{System}
use Rattle.mars_store.specs.Solutions.{InSol}
use Rattle.mars_rules.specs.PairedLists.{AllPaired}
use Rattle.mars_machine.specs.Subjects.{Subject, subject_value}
use Rattle.mars_machine.specs.Equations.{Equations, Solves}

-- of a valuation of nodes, that of variables, each of which has a node
abbrev pub of_vars : List ℕ → Valuation → Valuation
of_vars vars v = record { graph = v.graph; nodes = map (slice_index v.nodes) vars }

-- the variables have the same trees
pub record HasTreesOf (w v : Valuation) : Type 0 where
  pub along : (x : ℕ) (path : List ℕ) → value v x path ≡ value w x path

-- a system, with a node for each variable, represents equations: looked at from the variables each of its solutions solves
-- them, and each of their solutions is so seen, as far as the trees of the variables go
pub record Represents (e : Equations) (system : System) (vars : List ℕ) : Type 0 where
  pub one_each : length vars ≡ e.next
  pub inside : All (λ n. n < length system.nodes) vars
  pub solves : (v : Valuation) → InSol system v → Solves e (of_vars vars v)
  pub solved : (w : Valuation) → Solves e w → (v : Valuation) × InSol system v × HasTreesOf w (of_vars vars v)

-- a node denotes a subject: in every solution it has the subject's tree
pub record Denotes (e : Equations) (system : System) (vars : List ℕ) (n : ℕ) (subject : Subject) : Type 0 where
  pub inside : n < length system.nodes
  pub tree : (v : Valuation) → InSol system v → (path : List ℕ) → value v n path ≡ subject_value e.kept (of_vars vars v) subject path

-- both nodes of a pair denote both subjects of another
pub record DenotesPair (e : Equations) (system : System) (vars : List ℕ) (nodes : ℕ × ℕ) (pair : Subject × Subject) : Type 0 where
  pub first : Denotes e system vars nodes.0 pair.0
  pub second : Denotes e system vars nodes.1 pair.1

-- pairs of nodes denote pairs of subjects, place by place
abbrev pub DenotePairs : Equations → System → List ℕ → List (ℕ × ℕ) → List (Subject × Subject) → Type 0
DenotePairs e system vars nodes pairs = AllPaired (DenotesPair e system vars) nodes pairs

-- nodes denote subjects, place by place
abbrev pub DenoteAll : Equations → System → List ℕ → List ℕ → List Subject → Type 0
DenoteAll e system vars nodes subjects = AllPaired (Denotes e system vars) nodes subjects
