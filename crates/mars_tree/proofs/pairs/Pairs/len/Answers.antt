use Rattle.std.proofs.Common.{◌≤◌, ◌*◌, subst, arith}
use Rattle.mars_tree.specs.Pairs.{MetPairs}
use Rattle.mars_tree.proofs.Meeting.{length-met}
use Rattle.mars_tree.proofs.pairs.Pairs.len.Goals as goal

pub returns-clause-bound : goal.returns-clause-bound
returns-clause-bound c =
    let p = c.self.inside in
    subst (λ (met : MetPairs). c.len.result ≤ met.height * met.width) c.self.view_is
    (omega (arith, length-met p.height p.width p.met.keys c.self.invariant c.len.ensures.unique, c.len.ensures.len))
