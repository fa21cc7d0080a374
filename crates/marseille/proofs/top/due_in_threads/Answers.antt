use Rattle.std.proofs.Common.{ℕ, ◌<◌, List, length, sym, subst}
use Rattle.marseille.proofs.Texts.{together_some}
use Rattle.marseille.proofs.top.due_in_threads.Goals as goal

pub returns-in_ok-run_together-in-Runs-clause-some : goal.returns-in_ok-run_together-in-Runs-clause-some
returns-in_ok-run_together-in-Runs-clause-some g c =
    let ran = c.in_ok-run_together-in-Runs.field-0 in
    subst (λ (l : List ℕ). 0 < length l) (sym c.told.ensures.output) (together_some c.in-Runs.input c.args.options ran.cut ran.history.items ran.text.items c.in_ok-run_together-in-Runs.ensures)
