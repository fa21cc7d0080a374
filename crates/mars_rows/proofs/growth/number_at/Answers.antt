use Rattle.std.proofs.Common.{sym}
use Rattle.mars_rows.proofs.Grows.{number_after}
use Rattle.mars_rows.proofs.growth.number_at.Goals as goal

pub returns-else-place-numbers : goal.returns-else-place-numbers
returns-else-place-numbers c count lt = sym (number_after c.args.numbers.now c.args.next count c.args.place c.if-place-numbers.false lt)
