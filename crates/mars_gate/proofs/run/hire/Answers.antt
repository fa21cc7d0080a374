use Rattle.std.proofs.Common.{arith, length}
use Rattle.mars_gate.proofs.HireLemmas.{map_at, hired_each, hired_program}
use Rattle.mars_gate.proofs.run.hire.Goals as goal

pub returns-clause-passes : goal.returns-clause-passes
returns-clause-passes g c k w at =
    let rest = c.pop.new.self.items in
    let n = length c.args.jobs.items in
    hired_each c.args.book.now c.args.opening c.requires.of c.in_ok-passes.passes.items rest c.in-Some.program c.len-more.result n c.in_ok-passes.ensures.each c.in-Some.ensures.items (omega (arith, c.len-more.ensures, c.args.jobs.ok.0))
    (omega (arith, c.in-Some.ensures.len, c.in_ok-passes.ensures.count, c.pop.new.self.ok.0, c.args.jobs.ok.0, c.len-more.ensures))
    k w.pass (map_at (λ w. w.pass) c.in_ok-workers.workers.items rest k w c.in_ok-workers.ensures.passes at)

pub returns-clause-program : goal.returns-clause-program
returns-clause-program g c =
    let rest = c.pop.new.self.items in
    let n = length c.args.jobs.items in
    hired_program c.args.book.now c.args.opening c.requires.of c.in_ok-passes.passes.items rest c.in-Some.program c.len-more.result n c.in_ok-passes.ensures.each c.in-Some.ensures.items (omega (arith, c.len-more.ensures, c.args.jobs.ok.0))
    (omega (arith, c.in-Some.ensures.len, c.in_ok-passes.ensures.count, c.pop.new.self.ok.0, c.args.jobs.ok.0, c.len-more.ensures))
