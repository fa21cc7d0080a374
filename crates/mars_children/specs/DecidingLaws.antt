-- Laws: whether nodes can be made equal, are implied equal, and whether inequations are solvable, is decided.
use Rattle.std.specs.Prelude.{◌⊎◌, ℕ, ◌<◌, ◌-◌, List, length, All}
use Rattle.mars_store.specs.System.{System, IsSystem}
use Rattle.mars_store.specs.Laws.{IsImplied, IsSolvable}
use Rattle.mars_unify.specs.Unified.{Extends, IsSolved, AreApart}
use Rattle.mars_dif.specs.Inside.{IsInside}
use Rattle.mars_dif.specs.Kept.{AreOpen}
use Rattle.mars_machine.specs.Subjects.{Subject}
use Rattle.mars_machine.specs.Equations.{Equations}
use Rattle.mars_machine.specs.TermAnswers.{AreOpenUnder}
use Rattle.mars_bridge.specs.Represents.{Represents, DenotePairs}

-- a system in which two nodes are made equal, by equations alone
pub record HasEqual (old : System) (a b : ℕ) : Type 0 where
  pub new : System
  pub system : IsSystem new
  pub solved : IsSolved old new a b
  pub extends : Extends old new (length new.bound - length old.bound)

-- two nodes can be made equal, or are apart
abbrev pub EqualDecided : Type 0
EqualDecided = (s : System) → IsSystem s → (a b : ℕ) → a < length s.nodes → b < length s.nodes → HasEqual s a b ⊎ AreApart s a b

-- two nodes are implied equal or not
abbrev pub ImpliedDecided : Type 0
ImpliedDecided = (s : System) → IsSystem s → (a b : ℕ) → a < length s.nodes → b < length s.nodes → IsImplied s a b ⊎ (IsImplied s a b → ⊥)

-- inequations are solvable or not
abbrev pub DifsDecided : Type 0
DifsDecided = (s : System) → IsSystem s → (difs : List (ℕ × ℕ)) → All (IsInside s) difs → IsSolvable s difs ⊎ (IsSolvable s difs → ⊥)

-- the inequations that a keeper of nodes has open denote those that the equations leave open
pub record OpenTold (e : Equations) (system : System) (vars : List ℕ) (differ : List (Subject × Subject)) (waiting : List (ℕ × ℕ)) : Type 0 where
  pub left : List (Subject × Subject)
  pub open_are : AreOpenUnder e differ left
  pub denoted : DenotePairs e system vars waiting left

abbrev pub OpenDenoted : Type 0
OpenDenoted = (e : Equations) (system : System) (vars : List ℕ) → Represents e system vars → IsSystem system → (difs waiting : List (ℕ × ℕ)) (differ : List (Subject × Subject))
    → DenotePairs e system vars difs differ → AreOpen system difs waiting → OpenTold e system vars differ waiting
