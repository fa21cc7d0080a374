use Rattle.std.proofs.Common.{arith}
use Rattle.mars_goals.proofs.Lists.{count, first-empty}
use Rattle.mars_goals.proofs.arena.GoalArena.empty.Goals as goal

pub returns-clause-inside : goal.returns-clause-inside
returns-clause-inside c = let size = count c.self.inside.cells.items c.args.self.now c.self.view_is in omega (arith, size)

pub returns-clause-list : goal.returns-clause-list
returns-clause-list c = first-empty c.self.inside.cells.items c.args.self.now c.self.view_is
