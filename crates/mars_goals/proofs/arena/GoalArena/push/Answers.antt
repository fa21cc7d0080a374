use Rattle.std.proofs.Common.{◌∷◌, [], ◌++◌, arith, ap, ◌∙◌}
use Rattle.mars_goals.specs.GoalLists.{list_at}
use Rattle.mars_goals.proofs.Lists.{pushed-lists, pushed-cells}
use Rattle.mars_goals.proofs.arena.GoalArena.push.Goals as goal

pub invariant_of-self-2 : goal.invariant_of-self-2
invariant_of-self-2 c =
    pushed-cells c.self.inside.cells.items c.args.self.now c.self.view_is c.push.new.self.items (record { goal = c.args.goal; rest = c.rest.inside.0 })
    c.self.invariant c.in_ok-push.ensures.ok (omega (arith, c.requires, c.rest.view_is))

pub returns-clause-ok : goal.returns-clause-ok
returns-clause-ok c =
    pushed-lists c.self.inside.cells.items c.args.self.now c.self.view_is c.push.new.self.items (record { goal = c.args.goal; rest = c.rest.inside.0 }) c.in_ok-push.ensures.ok
    ∙ ap (λ n. c.args.self.now ++ (c.args.goal ∷ list_at c.args.self.now n) ∷ []) c.rest.view_is
