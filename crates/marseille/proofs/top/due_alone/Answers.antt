use Rattle.std.proofs.Common.{ℕ, ◌<◌, List, length, sym, subst}
use Rattle.marseille.proofs.Texts.{alone_some}
use Rattle.marseille.proofs.top.due_alone.Goals as goal

pub returns-in_ok-run_alone-in-Runs-clause-some : goal.returns-in_ok-run_alone-in-Runs-clause-some
returns-in_ok-run_alone-in-Runs-clause-some g c =
    let ran = c.in_ok-run_alone-in-Runs.field-0 in
    subst (λ (l : List ℕ). 0 < length l) (sym c.told.ensures.output) (alone_some c.in-Runs.input c.args.options c.args.order.now ran.cut ran.history.items ran.text.items c.in_ok-run_alone-in-Runs.ensures)
