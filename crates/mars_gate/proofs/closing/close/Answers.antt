use Rattle.mars_gate.specs.declared.closing.ClosingReplies.{ClosingReplies}
use Rattle.mars_gate.proofs.CloseLemmas.{closed_by}
use Rattle.mars_gate.proofs.closing.close.Goals as goal

pub returns-clause-closed : goal.returns-clause-closed
returns-clause-closed g c =
    let told : ClosingReplies = record { swept = c.in_ok-swept.swept; rows = c.in_ok-rows.rows; pins = c.in_ok-rows.pins } in
    let end = c.close-table.ensures in
    closed_by c.args.program c.sweep.new.pass c.count.new.pass told c.close-table.result.history c.requires.none c.in_ok-swept.ensures.called c.in_ok-rows.ensures.called
    end.seen end.own end.ended end.no_others
