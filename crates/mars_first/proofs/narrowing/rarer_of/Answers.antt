use Rattle.std.proofs.Common.{refl, inl, inr}
use Rattle.mars_first.proofs.Ending.{precedes_itself}
use Rattle.mars_first.proofs.narrowing.rarer_of.Goals as goal

pub returns-then-is_rarer : goal.returns-then-is_rarer
returns-then-is_rarer c = record { one = inl refl; first = precedes_itself c.args.keys.now.keys c.args.counts.now c.args.row; second = c.if-is_rarer.ensures }

pub returns-else-is_rarer : goal.returns-else-is_rarer
returns-else-is_rarer c = record { one = inr refl; first = c.if-is_rarer.ensures; second = precedes_itself c.args.keys.now.keys c.args.counts.now c.args.other }
