use Rattle.std.proofs.Common.{arith}
use Rattle.mars_goals.proofs.Lists.{count}
use Rattle.mars_goals.proofs.arena.GoalArena.len.Goals as goal

pub returns-clause-len : goal.returns-clause-len
returns-clause-len c = let size = count c.self.inside.cells.items c.args.self.now c.self.view_is in omega (arith, size, c.len.ensures.len)
