-- What the answers of unification say of the system before and after.
use Rattle.std.specs.Prelude.{◌≡◌, ℕ, ◌+◌, length, take, Result, Ok, Err}
use Rattle.mars_base.specs.declared.no_memory.NoMemory.{NoMemory}
use Rattle.mars_store.specs.Valuation.{Valuation, Agree}
use Rattle.mars_store.specs.System.{System}
use Rattle.mars_store.specs.Solutions.{InSol}
use Rattle.mars_unify.specs.declared.unification.Unified.{Unified}
use Rattle.mars_unify.specs.declared.unification.Unified.TheVariants.{Yes, No}

-- what holds where the answer is yes with a number of bindings
abbrev pub OnYes : Result Unified NoMemory → (ℕ → Type 0) → Type 0
OnYes (Ok (Yes bound)) P = P bound
OnYes (Ok No) P = Unit {0}
OnYes (Err error) P = Unit {0}

-- what holds where the answer is no
abbrev pub OnNo : Result Unified NoMemory → Type 0 → Type 0
OnNo (Ok (Yes bound)) P = Unit {0}
OnNo (Ok No) P = P
OnNo (Err error) P = Unit {0}

-- so many bindings were added, and nothing else
pub record Extends (old new : System) (bound : ℕ) : Type 0 where
  pub nodes : new.nodes ≡ old.nodes
  pub size : length new.bound ≡ length old.bound + bound
  pub front : take (length old.bound) new.bound ≡ old.bound

-- the solutions are those of before in which the two nodes have the same tree
pub record IsSolved (old new : System) (a b : ℕ) : Type 0 where
  pub only : (v : Valuation) → InSol new v → InSol old v
  pub same : (v : Valuation) → InSol new v → Agree v a b
  pub all : (v : Valuation) → InSol old v → Agree v a b → InSol new v

-- in no solution the two nodes have the same tree
abbrev pub AreApart : System → ℕ → ℕ → Type 0
AreApart system a b = (v : Valuation) → InSol system v → Agree v a b → ⊥
