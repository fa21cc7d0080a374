use Rattle.std.proofs.Common.{drop}
use Rattle.mars_watch.specs.Watched.{CutAt}
use Rattle.mars_frozen.specs.FrozenInside.{AreSettled}
use Rattle.mars_frozen.proofs.waking.look_at_all.Given as goal

abbrev pub invariant-loop-number : goal.invariant-loop-number
invariant-loop-number l = record {
  cut : CutAt l.fn.watchers l.watchers;
  settled : AreSettled l.store l.pairs l.numbers (drop l.number-index l.touched) l.watchers l.found.items;
}
