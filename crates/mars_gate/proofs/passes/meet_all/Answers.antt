use Rattle.std.proofs.Common.{subst, arith}
use Rattle.std.specs.Prelude.{List}
use Rattle.mars_book.specs.PassSeen.{PassSeen}
use Rattle.mars_gate.specs.PassesInside.{Meeting}
use Rattle.mars_gate.proofs.PassLemmas.{meets_one, all_met}
use Rattle.mars_gate.proofs.passes.meet_all.Goals as goal

pub loop-pass-preserved : goal.loop-pass-preserved
loop-pass-preserved c =
    let all = c.args.passes.items in
    let now = subst (λ (l : List PassSeen). Meeting c.args.book.now c.args.program all l c.loop-pass.program) c.in-Some.ensures.items c.loop-pass.invariant in
    let meet = c.meet-program.ensures in
    meets_one c.args.book.now c.args.program all c.pop.new.self.items c.in-Some.pass c.loop-pass.program c.meet-program.result c.requires.made.0 c.requires.ended.1
    now c.number-number-in-Some.ensures.knows meet.of meet.knows meet.met meet.seen

pub returns-clause-met : goal.returns-clause-met
returns-clause-met c =
    all_met c.args.book.now c.args.program c.args.passes.items c.loop-pass.passes.items c.loop-pass.program c.loop-pass.invariant
    (omega (arith, c.in_default.ensures.cases.0, c.loop-pass.passes.ok.0))
