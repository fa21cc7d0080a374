use Rattle.std.proofs.Common.{drop, take}
use Rattle.mars_watch.specs.Watched.{CutAt}
use Rattle.mars_dif.specs.Watched.{AreWatched}
use Rattle.mars_dif.proofs.telling.watch_from.Given as goal

abbrev pub invariant-loop-place : goal.invariant-loop-place
invariant-loop-place l = record {
  cut : CutAt l.fn.watchers l.watchers;
  watched : AreWatched l.watchers l.number (drop l.from (take l.place l.store.bound));
}
