-- Inside: what was done to try a rule, step by step.
use Rattle.std.specs.Prelude.{◌≡◌, ℕ, ◌+◌, List, length, Option}
use Rattle.mars_store.specs.System.{System}
use Rattle.mars_matching.specs.Matched.{AreRegisters, IsBodyBuilt}
use Rattle.mars_rules.specs.declared.flat.FlatRule.{FlatRule}
use Rattle.mars_memory.specs.Memory.{MemoryParts}
use Rattle.mars_memory.specs.ListsInside.{ArePushed, pendings_of}

-- the head was matched: each of its places has a register, and those that have a node have one of the store
pub record IsHeadMatched (flat : FlatRule) (system : System) (registers : List (Option ℕ)) : Type 0 where
  pub size : length registers ≡ flat.template.head + 1
  pub inside : AreRegisters system registers

-- the body was built, and its goals are before a list
pub record IsBodyWritten (old new : MemoryParts) (flat : FlatRule) (rest depth : ℕ) (before after : List (Option ℕ)) (list : ℕ) : Type 0 where
  pub built : IsBodyBuilt flat.template old.system new.system before after
  pub pushed : ArePushed old.lists new.lists (pendings_of after depth flat.goals.items) rest list
  pub difs : new.difs ≡ old.difs
  pub frozen : new.frozen ≡ old.frozen
