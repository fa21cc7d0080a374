-- Inside: two nodes of a memory that are made equal for a call.
use Rattle.std.specs.Prelude.{ℕ, ◌<◌, List, length, Option, Some, None}
use Rattle.mars_goals.specs.GoalLists.{list_at}
use Rattle.mars_machine.specs.Subjects.{Subject}
use Rattle.mars_machine.specs.Equations.{Equations, AreSolvable, with_equality}
use Rattle.mars_machine.specs.Alternatives.{Alternative}
use Rattle.mars_machine.specs.Children.{IsChildUnder}
use Rattle.mars_bridge.specs.Represents.{Denotes}
use Rattle.mars_bridge.specs.Scoped.{UsesBelow}
use Rattle.mars_memory.specs.Memory.{MemoryParts, IsLaterMemory}
use Rattle.mars_memory.specs.Holding.{WritesAlternative, HoldsAlternative}

-- an alternative is written whose goals are the list, and two nodes denote two subjects
pub record WritesPair (asked : List ℕ) (m : MemoryParts) (groups : List (List Alternative)) (list left right : ℕ) (alternative : Alternative) (s t : Subject) : Type 0 where
  pub writes : WritesAlternative asked m groups (list_at m.lists list) alternative
  pub first : Denotes alternative.equations m.system writes.vars left s
  pub second : Denotes alternative.equations m.system writes.vars right t
  pub first_use : UsesBelow alternative.equations.next s
  pub second_use : UsesBelow alternative.equations.next t

-- there is such an alternative
pub record HasPair (m : MemoryParts) (list left right : ℕ) : Type 0 where
  pub asked : List ℕ
  pub groups : List (List Alternative)
  pub alternative : Alternative
  pub s : Subject
  pub t : Subject
  pub inside : list < length m.lists
  pub pair : WritesPair asked m groups list left right alternative s t

-- a child under these equations is held
pub record HoldsUnder (asked : List ℕ) (groups : List (List Alternative)) (alternative : Alternative) (e : Equations) (new : MemoryParts) (list : ℕ) : Type 0 where
  pub child : Alternative
  pub under : IsChildUnder alternative e alternative.goals child
  pub holds : HoldsAlternative asked new groups (list_at new.lists list) child

-- whichever alternative was written, with one equation more it has no solution; or its child under these is held
abbrev pub IsMadeEqual : MemoryParts → ℕ → ℕ → ℕ → MemoryParts → Option ℕ → Type 0
IsMadeEqual old list left right new None = IsLaterMemory old new
    × ((asked : List ℕ) (groups : List (List Alternative)) (alternative : Alternative) (s t : Subject) → WritesPair asked old groups list left right alternative s t
    → AreSolvable (with_equality alternative.equations s t) alternative.differ → ⊥)
IsMadeEqual old list left right new (Some found) = IsLaterMemory old new × (found < length new.lists)
    × ((asked : List ℕ) (groups : List (List Alternative)) (alternative : Alternative) (s t : Subject) → WritesPair asked old groups list left right alternative s t
    → HoldsUnder asked groups alternative (with_equality alternative.equations s t) new found)
