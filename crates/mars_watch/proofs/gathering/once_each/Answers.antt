use Rattle.mars_watch.proofs.Touching.{once-more, once-again, once-done}
use Rattle.mars_watch.proofs.gathering.once_each.Goals.{then-place-next+in_ok-push, else-place-next}
use Rattle.mars_watch.proofs.gathering.once_each.Goals as goal

pub loop-place-preserved : goal.loop-place-preserved
loop-place-preserved c = elim c.if-place-next.branch [
  | then-place-next+in_ok-push w ↦
      rw (w.places-is, w.next-is)
      (once-more c.args.size c.args.found.now c.loop-place.place-index c.loop-place.places.items w.push.new.self.items c.loop-place.next c.requires.sorted c.requires.within c.loop-place-test.true c.loop-place.invariant w.if-place-next.true w.in_ok-push.ensures.items)
  | else-place-next w ↦
      rw (w.places-is, w.next-is)
      (once-again c.args.size c.args.found.now c.loop-place.place-index c.loop-place.places.items c.loop-place.next c.loop-place-test.true c.loop-place.invariant w.if-place-next.false)
]

pub returns : goal.returns
returns c = once-done c.args.size c.args.found.now c.loop-place.place-index c.loop-place.places.items c.loop-place.next c.loop-place-test.false c.loop-place.invariant
