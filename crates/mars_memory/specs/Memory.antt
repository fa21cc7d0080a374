-- The memory of a machine: its store, its inequations, its frozen pairs and its goal lists, marked and undone as one.
use Rattle.std.specs.Prelude.{◌≡◌, ℕ, ◌<◌, ◌≤◌, List, [], ◌∷◌, length, take, Option, None}
use Rattle.mars_tree.specs.declared.label.Label.{Label}
use Rattle.mars_tree.specs.Graph.{label_of, kids_of}
use Rattle.mars_store.specs.System.{System, IsMark, Grows, mark_of, undone, resolve}
use Rattle.mars_dif.specs.Kept.{Kept, keeper_mark, keeper_undone, IsKeeperMark, IsAfter}
use Rattle.mars_frozen.specs.Freezing.{FrozenPairs, frozen_mark, frozen_undone, IsFrozenMark, IsLaterFrozen}
use Rattle.mars_goals.specs.declared.cells.Pending.{Pending}
use Rattle.mars_goals.specs.declared.choice.MachineMark.{MachineMark}

-- the store's system, what is kept of inequations and of frozen pairs, and the goal lists
pub record MemoryParts : Type 0 where
  pub system : System
  pub difs : Kept
  pub frozen : FrozenPairs
  pub lists : List (List Pending)

-- the label at the root of a node's tree, where it is known
abbrev pub root_of_node : System → ℕ → Option Label
root_of_node system node = label_of system.nodes (resolve system.bound node)

-- the label at the root of the first of some kids, where there is one and it is known
abbrev pub root_of_first : System → List ℕ → Option Label
root_of_first system [] = None
root_of_first system (kid ∷ kids) = root_of_node system kid

-- the same of the first kid of the root of a node's tree
abbrev pub first_of_node : System → ℕ → Option Label
first_of_node system node = root_of_first system (kids_of system.nodes (resolve system.bound node))

-- the present state
abbrev pub memory_mark : MemoryParts → MachineMark
memory_mark m = record { store = mark_of m.system; inequations = keeper_mark m.difs; frozen = frozen_mark m.frozen; lists = length m.lists }

-- the state that the mark tells
abbrev pub memory_undone : MemoryParts → MachineMark → MemoryParts
memory_undone m mark = record {
  system = undone m.system mark.store;
  difs = keeper_undone m.difs mark.inequations;
  frozen = frozen_undone m.frozen mark.frozen;
  lists = take mark.lists m.lists;
}

-- each part can be undone to its part of the mark
pub record IsMemoryMark (m : MemoryParts) (mark : MachineMark) : Type 0 where
  pub store : IsMark m.system mark.store
  pub inequations : IsKeeperMark m.difs mark.inequations
  pub frozen : IsFrozenMark m.frozen mark.frozen
  pub some : 0 < mark.lists
  pub lists : mark.lists ≤ length m.lists

-- each part was only added to
pub record IsLaterMemory (old new : MemoryParts) : Type 0 where
  pub system : Grows old.system new.system
  pub difs : IsAfter old.difs new.difs
  pub frozen : IsLaterFrozen old.frozen new.frozen
  pub more : length old.lists ≤ length new.lists
  pub lists : take (length old.lists) new.lists ≡ old.lists
