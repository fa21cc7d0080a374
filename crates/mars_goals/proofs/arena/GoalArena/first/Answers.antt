use Rattle.std.proofs.Common.{◌≡◌, ◌<◌, ◌∷◌, length, arith, ap, subst, ◌∙◌}
use Rattle.mars_goals.specs.GoalLists.{list_at}
use Rattle.mars_goals.proofs.Lists.{count, first-told, first-empty}
use Rattle.mars_goals.proofs.arena.GoalArena.first.Goals as goal

pub returns-then-list-eq0 : goal.returns-then-list-eq0
returns-then-list-eq0 c =
    let none : c.args.list ≡ 0 = grind (arith, c.list.view_is, c.if-list-eq0.true) in
    ap (list_at c.args.self.now) none ∙ first-empty c.self.inside.cells.items c.args.self.now c.self.view_is

pub get-cell-requires : goal.get-cell-requires
get-cell-requires c =
    let size = count c.self.inside.cells.items c.args.self.now c.self.view_is in
    grind (arith, size, c.list.view_is, c.requires, c.if-list-eq0.false)

pub returns : goal.returns
returns c =
    subst (λ n. (list_at c.args.self.now n ≡ c.get-cell.result.goal ∷ list_at c.args.self.now c.get-cell.result.rest) × (c.get-cell.result.rest < length c.args.self.now)) c.list.view_is
    (first-told c.self.inside.cells.items c.args.self.now c.self.view_is c.list.inside.0 c.get-cell.result c.self.invariant
    (grind (arith, c.if-list-eq0.false)) (omega (arith, c.requires, c.list.view_is)) c.get-cell.ensures)
