-- Laws: what holds of nodes of a system holds of the subjects that they denote.
use Rattle.std.specs.Prelude.{◌≡◌, ◌↔◌, ℕ, List, [], length}
use Rattle.mars_tree.specs.declared.label.Label.{Label}
use Rattle.mars_store.specs.System.{System}
use Rattle.mars_store.specs.Laws.{IsForced, IsKnown, IsImplied, IsSolvable}
use Rattle.mars_store.specs.Shown.{IsPlace}
use Rattle.mars_unify.specs.Unified.{IsSolved, AreApart}
use Rattle.mars_machine.specs.Subjects.{Subject}
use Rattle.mars_machine.specs.Equations.{Equations, AreSolvable, Forces, Knows, Implies, HasPlace, with_equality}
use Rattle.mars_bridge.specs.Represents.{Represents, Denotes, DenotePairs}

-- what every solution has at a node's path, every solution of the equations has at its subject's
pub record NodesTell (e : Equations) (system : System) (vars : List ℕ) (n : ℕ) (subject : Subject) : Type 0 where
  pub forced : (path : List ℕ) (label : Label) → IsForced system n path label ↔ Forces e subject path label
  pub known : IsKnown system n ↔ Knows e subject
  pub place : (path : List ℕ) → IsPlace system n path ↔ HasPlace e subject path

abbrev pub NodeTellsSubject : Type 0
NodeTellsSubject = (e : Equations) (system : System) (vars : List ℕ) → Represents e system vars → (n : ℕ) (subject : Subject) → Denotes e system vars n subject → NodesTell e system vars n subject

-- two nodes tell whether their subjects are implied equal, and whether they can be equal at all
pub record PairTells (e : Equations) (system : System) (n m : ℕ) (s t : Subject) : Type 0 where
  pub implied : IsImplied system n m ↔ Implies e s t
  pub apart : AreApart system n m ↔ (AreSolvable (with_equality e s t) [] → ⊥)

abbrev pub PairTellsSubjects : Type 0
PairTellsSubjects = (e : Equations) (system : System) (vars : List ℕ) → Represents e system vars → (n m : ℕ) (s t : Subject)
    → Denotes e system vars n s → Denotes e system vars m t → PairTells e system n m s t

-- inequations between nodes are solvable with the system exactly where those between their subjects are with the equations
abbrev pub DifsTell : Type 0
DifsTell = (e : Equations) (system : System) (vars : List ℕ) → Represents e system vars → (nodes : List (ℕ × ℕ)) (pairs : List (Subject × Subject))
    → DenotePairs e system vars nodes pairs → IsSolvable system nodes ↔ AreSolvable e pairs

-- where two nodes were made equal, the system represents the equations with one more, and nodes denote what they denoted
abbrev pub EqualRepresented : Type 0
EqualRepresented = (e : Equations) (system new : System) (vars : List ℕ) → Represents e system vars → (n m : ℕ) (s t : Subject) → Denotes e system vars n s → Denotes e system vars m t
    → length new.nodes ≡ length system.nodes → IsSolved system new n m
    → Represents (with_equality e s t) new vars × ((k : ℕ) (subject : Subject) → Denotes e system vars k subject → Denotes (with_equality e s t) new vars k subject)
