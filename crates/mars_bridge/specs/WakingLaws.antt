-- Laws: the numbers of nodes, and the frozen pairs that wake, are those of the subjects that nodes denote.
use Rattle.std.specs.Prelude.{◌≡◌, ◌↔◌, ℕ, ℤ, List, [], map, slice_get, Some}
use Rattle.mars_tree.specs.declared.label.Label.{Label}
use Rattle.mars_tree.specs.Graph.{label_of, kids_of}
use Rattle.mars_store.specs.System.{System, IsSystem, resolve}
use Rattle.mars_frozen.specs.Freezing.{AreWoken}
use Rattle.mars_val.specs.Number.{HasNumber}
use Rattle.mars_machine.specs.Subjects.{Subject, Part}
use Rattle.mars_machine.specs.Equations.{Equations, Forces}
use Rattle.mars_machine.specs.Alternatives.{Call}
use Rattle.mars_machine.specs.Children.{Wakes}
use Rattle.mars_machine.specs.BuiltIns.{TermNumber}
use Rattle.mars_bridge.specs.Represents.{Represents, Denotes, DenotePairs, DenoteAll}

-- nodes of goals that wake, and pairs that wait on, denote what wakes and waits of some pairs of subjects
pub record WakingTold (e : Equations) (system : System) (vars : List ℕ) (pairs : List (Subject × Subject)) (goals : List ℕ) (left : List (ℕ × ℕ)) : Type 0 where
  pub subjects : List Subject
  pub others : List (Subject × Subject)
  pub wakes : Wakes e pairs (map Call subjects) others
  pub called : DenoteAll e system vars goals subjects
  pub wait : DenotePairs e system vars left others

abbrev pub WakingTells : Type 0
WakingTells = (e : Equations) (system : System) (vars : List ℕ) → Represents e system vars → (nodes : List (ℕ × ℕ)) (pairs : List (Subject × Subject)) → DenotePairs e system vars nodes pairs
    → (goals : List ℕ) (left : List (ℕ × ℕ)) → AreWoken system nodes goals left → WakingTold e system vars pairs goals left

-- the root of a node has a label exactly where it is forced at its subject's, and kids denote parts
abbrev pub RootTells : Type 0
RootTells = (e : Equations) (system : System) (vars : List ℕ) → Represents e system vars → IsSystem system → (n : ℕ) (subject : Subject) → Denotes e system vars n subject → (label : Label)
    → (label_of system.nodes (resolve system.bound n) ≡ Some label) ↔ Forces e subject [] label

abbrev pub KidsDenoteParts : Type 0
KidsDenoteParts = (e : Equations) (system : System) (vars : List ℕ) → Represents e system vars → IsSystem system → (n : ℕ) (subject : Subject) → Denotes e system vars n subject → (label : Label)
    → label_of system.nodes (resolve system.bound n) ≡ Some label → (place kid : ℕ) → slice_get (kids_of system.nodes (resolve system.bound n)) place ≡ Some kid → Denotes e system vars kid (Part subject place)

-- a node has a number exactly where its subject has
abbrev pub NumberTells : Type 0
NumberTells = (e : Equations) (system : System) (vars : List ℕ) → Represents e system vars → IsSystem system → (n : ℕ) (subject : Subject) → Denotes e system vars n subject → (z : ℤ)
    → HasNumber system n z ↔ TermNumber e subject z
