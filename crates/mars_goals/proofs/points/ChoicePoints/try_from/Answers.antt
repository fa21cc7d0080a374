use Rattle.std.proofs.Common.{◌≡◌, ◌∙◌, ap, length, arith}
use Rattle.mars_goals.specs.Points.{tried_to}
use Rattle.mars_goals.proofs.Stacks.{reverse-tried}
use Rattle.mars_goals.proofs.points.ChoicePoints.try_from.Goals as goal

pub returns-then-len-gt0 : goal.returns-then-len-gt0
returns-then-len-gt0 c =
    let size : c.len-len.result ≡ length c.self.inside.stack.items = omega (arith, c.len-len.ensures, c.self.inside.stack.ok.0) in
    reverse-tried c.self.inside.stack.items c.args.rule c.len-len.result c.index-choice.result.now size (grind (arith, c.if-len-gt0.true)) c.index-choice.ensures ∙ ap (tried_to c.args.rule) c.self.view_is
