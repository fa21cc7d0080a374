use Rattle.std.proofs.Common.{◌∙◌, ap, reverse, drop, length, ◌-◌}
use Rattle.mars_goals.proofs.Stacks.{reverse-take}
use Rattle.mars_goals.proofs.points.ChoicePoints.cut.Goals as goal

pub returns : goal.returns
returns c = ap reverse c.truncate.ensures.items ∙ reverse-take c.self.inside.stack.items c.args.kept ∙ ap (λ xs. drop (length xs - c.args.kept) xs) c.self.view_is
