use Rattle.std.proofs.Common.{◌≡◌, ℕ, ◌+◌, List, [], length, map, ap, sym, subst}
use Rattle.std.specs.Prelude.{All}
use Rattle.std.specs.List.{AllZip}
use Rattle.mars_table.specs.History.{of}
use Rattle.mars_book.specs.PassSeen.{PassSeen}
use Rattle.mars_gate.specs.Jobs.{JobHasEnded}
use Rattle.mars_gate.specs.Closing.{ClosingIsLast, closing_entries}
use Rattle.mars_gate.specs.PassesInside.{IsHired}
use Rattle.mars_gate.proofs.EndLemmas.{all_workers, passes_hired, same_many, all_ended}
use Rattle.mars_gate.proofs.run.run_jobs.Goals as goal

pub work_each-requires-after_bounds : goal.work_each-requires-after_bounds
work_each-requires-after_bounds g c κs within =
    let j = g.J.Job in
    let hired = c.in_ok-workers.ensures in
    all_workers j.job j.Lacks j.Later j.IsDone (λ w. w.job) (λ w. w.pass) c.in_ok-book.book (length c.args.jobs.items + 1) c.args.jobs.items c.in_ok-workers.workers.items c.requires.new hired.jobs hired.passes

pub meet_and_close-requires-clause-passes : goal.meet_and_close-requires-clause-passes
meet_and_close-requires-clause-passes g c =
    let j = g.J.Job in
    let hired = c.in_ok-workers.ensures in
    let old = c.in_ok-workers.workers.items in
    let new = c.work_each.new.workers.items in
    let parts = c.in_ok-jobs.ensures in
    let book = c.in_ok-book.book in
    let many = same_many j.job j.Lacks j.Later j.IsDone (λ w. w.job) (λ w. w.pass) book 0 c.args.jobs.items old new c.in_ok-jobs.passes.items hired.jobs c.work_each.ensures parts.passes in
    passes_hired j.job j.Lacks j.Later j.IsDone (λ w. w.job) (λ w. w.pass) book (length c.args.jobs.items + 1) (length c.in_ok-jobs.passes.items + 1) old new c.in_ok-jobs.passes.items
    c.work_each.ensures hired.passes parts.passes (ap (λ (n : ℕ). n + 1) many)

pub meet_and_close-requires-clause-program : goal.meet_and_close-requires-clause-program
meet_and_close-requires-clause-program g c =
    let j = g.J.Job in
    let hired = c.in_ok-workers.ensures in
    let old = c.in_ok-workers.workers.items in
    let new = c.work_each.new.workers.items in
    let parts = c.in_ok-jobs.ensures in
    let program = c.in_ok-workers.program in
    let book = c.in_ok-book.book in
    let many = same_many j.job j.Lacks j.Later j.IsDone (λ w. w.job) (λ w. w.pass) book 0 c.args.jobs.items old new c.in_ok-jobs.passes.items hired.jobs c.work_each.ensures parts.passes in
    subst (λ (n : ℕ). IsHired book (n + 1) n program × (program.view.mine ≡ [])) (sym many) hired.program

pub returns-clause-jobs : goal.returns-clause-jobs
returns-clause-jobs g c =
    let j = g.J.Job in
    let hired = c.in_ok-workers.ensures in
    let old = c.in_ok-workers.workers.items in
    let new = c.work_each.new.workers.items in
    let parts = c.in_ok-jobs.ensures in
    let history = c.in_ok-table.table.history in
    let own = subst (λ (l : List PassSeen). All (λ (p : PassSeen). of history p.view.number ≡ p.view.mine) l) parts.passes c.in_ok-table.ensures.own in
    let R = JobHasEnded j.job j.Lacks j.Later j.IsDone history in
    let ended = all_ended j.job j.Lacks j.Later j.IsDone (λ w. w.job) (λ w. w.pass) c.in_ok-book.book 0 history old new c.work_each.ensures own in
    subst (λ l. AllZip R l c.in_ok-jobs.jobs.items) hired.jobs (subst (λ l. AllZip R (map (λ w. w.job) old) l) (sym parts.jobs) ended)

pub returns-clause-closing : goal.returns-clause-closing
returns-clause-closing g c =
    let j = g.J.Job in
    let hired = c.in_ok-workers.ensures in
    let old = c.in_ok-workers.workers.items in
    let new = c.work_each.new.workers.items in
    let many = same_many j.job j.Lacks j.Later j.IsDone (λ w. w.job) (λ w. w.pass) c.in_ok-book.book 0 c.args.jobs.items old new c.in_ok-jobs.passes.items hired.jobs c.work_each.ensures c.in_ok-jobs.ensures.passes in
    subst (λ (n : ℕ). ClosingIsLast n (closing_entries n c.in_ok-table.replies) c.in_ok-table.table.history) many c.in_ok-table.ensures.closing
