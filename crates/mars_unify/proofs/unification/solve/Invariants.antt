use Rattle.std.proofs.Common.{◌*◌, ◌-◌, length}
use Rattle.mars_store.specs.System.{Grows}
use Rattle.mars_unify.specs.MeetingInside.{IsSolving}
use Rattle.mars_unify.proofs.unification.solve.Given as goal

-- the pairs below this place are settled
abbrev pub invariant-loop-next : goal.invariant-loop-next
invariant-loop-next l = record {
  grows : Grows l.fn.store l.store;
  solving : IsSolving l.fn.store l.store l.pairs l.next (l.fn.a, l.fn.b);
}

abbrev pub decreases-loop-next : goal.decreases-loop-next
decreases-loop-next l = length l.fn.store.nodes * length l.fn.store.nodes - l.next
