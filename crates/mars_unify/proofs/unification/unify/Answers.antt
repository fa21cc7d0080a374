use Rattle.std.proofs.lemmas.Bool.{MatchBool-at_true}
use Rattle.mars_unify.proofs.Solving.{solved-extends, solved-implied, solved-solvable}
use Rattle.mars_unify.proofs.unification.unify.Goals as goal

pub returns-in-Ok-true-clause-extends : goal.returns-in-Ok-true-clause-extends
returns-in-Ok-true-clause-extends c =
    solved-extends c.args.store.now c.solve.new.store c.mark-mark.result c.mark.result c.solve.ensures.grows
    (MatchBool-at_true _ _ c.in-Ok-true.field-0-test c.in-Ok-true.ensures.solved).1 c.mark-mark.ensures.mark c.mark.ensures.mark

pub returns-in-Ok-true-clause-implied : goal.returns-in-Ok-true-clause-implied
returns-in-Ok-true-clause-implied c =
    let solved = MatchBool-at_true _ _ c.in-Ok-true.field-0-test c.in-Ok-true.ensures.solved in
    solved-implied c.args.store.now c.solve.new.store c.args.a c.args.b _ c.mark-mark.ensures.system c.mark.ensures.system
    (solved-extends c.args.store.now c.solve.new.store c.mark-mark.result c.mark.result c.solve.ensures.grows solved.1 c.mark-mark.ensures.mark c.mark.ensures.mark) solved.0

pub returns-in-Ok-true-clause-solvable : goal.returns-in-Ok-true-clause-solvable
returns-in-Ok-true-clause-solvable c =
    solved-solvable c.args.store.now c.solve.new.store c.args.a c.args.b c.mark.ensures.system
    (MatchBool-at_true _ _ c.in-Ok-true.field-0-test c.in-Ok-true.ensures.solved).0
