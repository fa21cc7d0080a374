use Rattle.std.proofs.Common.{length, ◌-◌}
use Rattle.mars_tokens.proofs.Versions.{Reached}
use Rattle.mars_tokens.proofs.lexer.has_version_two.Given as goal

abbrev pub invariant-loop-at : goal.invariant-loop-at
invariant-loop-at l = Reached l.bytes l.at

abbrev pub decreases-loop-at : goal.decreases-loop-at
decreases-loop-at l = length l.bytes - l.at
