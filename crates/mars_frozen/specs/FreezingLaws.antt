-- How long a keeper of frozen pairs can be used, and undone to its marks; what wakes is determined.
use Rattle.std.specs.Prelude.{◌≡◌, ℕ, ◌≤◌, List, length}
use Rattle.mars_store.specs.System.{System, Grows}
use Rattle.mars_frozen.specs.declared.mark.Mark.{Mark}
use Rattle.mars_frozen.specs.Freezing.{FrozenPairs, no_frozen, with_frozen, frozen_mark, frozen_undone, IsFrozenMark, IsLaterFrozen, CanWake, HasBoth, AreWoken}

-- an empty keeper can be used with every system
abbrev pub FrozenStarts : Type 0
FrozenStarts = (system : System) → CanWake no_frozen system

-- a keeper can be used after a pair of the system's nodes was frozen
abbrev pub FrozenAdds : Type 0
FrozenAdds = (frozen : FrozenPairs) (system : System) (pair : ℕ × ℕ) → CanWake frozen system → HasBoth system pair → CanWake (with_frozen frozen pair) system

-- a keeper can be used while nodes and equations are added
abbrev pub FrozenGrows : Type 0
FrozenGrows = (frozen : FrozenPairs) (old new : System) → Grows old new → CanWake frozen old → CanWake frozen new

-- a keeper can be undone to the mark of its present state, and is then as it is
abbrev pub FrozenMarkMade : Type 0
FrozenMarkMade = (frozen : FrozenPairs) → length frozen.numbers.past ≡ length frozen.pairs.past
    → IsFrozenMark frozen (frozen_mark frozen) × (frozen_undone frozen (frozen_mark frozen) ≡ frozen)

-- a mark leads to the same state after changes were made
abbrev pub FrozenMarkKept : Type 0
FrozenMarkKept = (old new : FrozenPairs) (mark : Mark) → IsLaterFrozen old new → IsFrozenMark old mark
    → IsFrozenMark new mark × (frozen_undone new mark ≡ frozen_undone old mark)

-- the inner mark tells no fewer changes and watches than the outer one
pub record IsWithinMark (outer inner : Mark) : Type 0 where
  pub changes : outer.changes ≤ inner.changes
  pub watches : outer.watches ≤ inner.watches

-- a mark leads to the same state after the keeper was undone to a mark within it
abbrev pub FrozenMarksNest : Type 0
FrozenMarksNest = (frozen : FrozenPairs) (outer inner : Mark) → IsFrozenMark frozen outer → IsFrozenMark frozen inner → IsWithinMark outer inner
    → IsFrozenMark (frozen_undone frozen inner) outer × (frozen_undone (frozen_undone frozen inner) outer ≡ frozen_undone frozen outer)

-- changes to changes are changes
abbrev pub LaterFollows : Type 0
LaterFollows = (a b c : FrozenPairs) → IsLaterFrozen a b → IsLaterFrozen b c → IsLaterFrozen a c

-- which goals wake, and which pairs wait on, is determined
abbrev pub WokenOnce : Type 0
WokenOnce = (system : System) (pairs left other : List (ℕ × ℕ)) (goals others : List ℕ) → AreWoken system pairs goals left → AreWoken system pairs others other
    → (goals ≡ others) × (left ≡ other)
