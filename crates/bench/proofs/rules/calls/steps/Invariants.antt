use Rattle.std.proofs.Common.{◌<◌, length}
use Rattle.bench.proofs.rules.calls.steps.Given as goal

-- the goal is a node still
abbrev pub invariant-loop : goal.invariant-loop
invariant-loop l = record { goal_in : l.goal < length l.store.nodes }
