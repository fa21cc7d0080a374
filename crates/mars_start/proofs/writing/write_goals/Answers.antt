use Rattle.std.proofs.Common.{◌-◌, length, sym, subst, arith, All}
use Rattle.mars_term.specs.declared.term.Term.{Term}
use Rattle.mars_term.specs.Clauses.{parts_of_goal}
use Rattle.mars_rules.proofs.RuleParts.{item-parts}
use Rattle.mars_start.specs.WritingInside.{IsAskPart, IsOneGoalWritten}
use Rattle.mars_start.proofs.Growing.{names-grow}
use Rattle.mars_start.proofs.WrittenGoals.{goals-none, goals-next, goals-whole}
use Rattle.mars_start.proofs.writing.write_goals.Goals as goal

pub loop-back-init : goal.loop-back-init
loop-back-init c = goals-none c.args.store.now c.args.vars.now c.args.kept.now c.args.goals.now c.args.lists.now c.empty-list.result c.requires.names c.empty-list.ensures.inside c.empty-list.ensures.list

pub write_goal-requires-clause-names : goal.write_goal-requires-clause-names
write_goal-requires-clause-names c = names-grow c.args.store.now c.loop-back.store c.args.vars.now c.args.kept.now c.requires.names c.loop-back.invariant.more

pub write_goal-requires-clause-parts : goal.write_goal-requires-clause-parts
write_goal-requires-clause-parts c =
    let P : Term → Type 0 = IsAskPart (length c.args.vars.now) (length c.args.kept.now) in
    let test = c.loop-back-test.true in
    subst (λ g. All P (parts_of_goal g)) (sym c.index-goals-goals.is)
    (item-parts P parts_of_goal c.args.goals.now (length c.args.goals.now - 1 - c.loop-back.back) c.index-goals-goals.result (omega arith) c.requires.parts)

pub loop-back-preserved : goal.loop-back-preserved
loop-back-preserved c =
    goals-next c.args.store.now c.loop-back.store c.write_goal.new.store c.args.vars.now c.args.kept.now c.args.goals.now c.loop-back.lists c.push.new.self c.loop-back.list c.in_ok-list.list c.loop-back.back
    c.index-goals-goals.result c.in_ok-pending.pending c.requires.names c.loop-back-test.true c.loop-back.invariant
    (subst (λ g. IsOneGoalWritten c.loop-back.store c.write_goal.new.store c.args.vars.now c.args.kept.now g c.in_ok-pending.pending) c.index-goals-goals.is c.in_ok-pending.ensures)
    c.in_ok-list.ensures.ok c.in_ok-list.ensures.list

pub returns : goal.returns
returns c =
    goals-whole c.args.store.now c.loop-back.store c.args.vars.now c.args.kept.now c.args.goals.now c.loop-back.lists c.loop-back.list c.loop-back.back c.loop-back-test.false c.loop-back.invariant
