use Rattle.std.proofs.Common.{ℕ, ◌≤◌, ◌<◌, Contains}
use Rattle.mars_watch.specs.Gathered.{pair_at}
use Rattle.mars_watch.proofs.gathering.gather_bound.Given as goal

-- what waits at the variables so far was gathered
abbrev pub invariant-loop-place : goal.invariant-loop-place
invariant-loop-place l = (place number : ℕ) → l.fn.seen ≤ place → place < l.place → Contains l.watchers ((pair_at l.store.bound place).0, number) → Contains l.gathered.items number
