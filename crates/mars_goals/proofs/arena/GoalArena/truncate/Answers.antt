use Rattle.mars_goals.proofs.Lists.{taken-lists}
use Rattle.mars_goals.proofs.arena.GoalArena.truncate.Goals as goal

pub returns : goal.returns
returns c = taken-lists c.self.inside.cells.items c.args.self.now c.self.view_is c.truncate.new.self.items c.args.len c.truncate.ensures c.requires.some c.requires.within
