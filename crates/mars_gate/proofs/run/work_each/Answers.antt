use Rattle.mars_gate.specs.WorkersInside.{EndsWork}
use Rattle.mars_gate.proofs.ListLemmas.{zip_lent}
use Rattle.mars_gate.proofs.run.work_each.Goals as goal

pub returns : goal.returns
returns g c =
    let workers = c.args.workers.now in
    zip_lent (λ v w. EndsWork g.J.Job.job g.J.Job.Lacks g.J.Job.Later g.J.Job.IsDone c.args.book.now v.job v.pass w.job w.pass) workers.items c.as_mut_slice.result.now c.work_all.new.workers workers.len
    c.as_mut_slice.ensures.value c.work_all.auto.workers workers.ok.0 c.work_all.ensures
