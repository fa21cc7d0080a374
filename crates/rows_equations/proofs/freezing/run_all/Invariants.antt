use Rattle.mars_store.specs.System.{Grows}
use Rattle.mars_frozen.specs.Freezing.{CanWake, IsLaterFrozen}
use Rattle.rows_equations.proofs.freezing.run_all.Given as goal

-- the pairs can be used with the store, which both were only added to
abbrev pub invariant-loop-word : goal.invariant-loop-word
invariant-loop-word l = record {
  ready : CanWake l.world.frozen l.world.store;
  grows : Grows l.fn.world.store l.world.store;
  later : IsLaterFrozen l.fn.world.frozen l.world.frozen;
}
