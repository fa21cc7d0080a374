use Rattle.mars_store.specs.System.{Grows}
use Rattle.mars_unify.specs.MeetingInside.{AreKidsMet}
use Rattle.mars_unify.proofs.unification.meet_kids.Given as goal

-- the kids below this place were met
abbrev pub invariant-loop-place : goal.invariant-loop-place
invariant-loop-place l = record {
  grows : Grows l.fn.store l.store;
  kids : AreKidsMet l.fn.store l.store l.fn.pairs l.pairs (l.x, l.y) l.place;
}
