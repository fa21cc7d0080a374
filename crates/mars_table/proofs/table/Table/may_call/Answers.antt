use Rattle.mars_table.proofs.PinLemmas.{calls_are_own}
use Rattle.mars_table.proofs.table.Table.may_call.Goals as goal

pub returns-clause-own : goal.returns-clause-own
returns-clause-own c =
    let may = c.is_open.ensures in
    let own = calls_are_own c.args.self.now.cap c.args.self.now.history c.args.who c.args.call.now c.history-history.ensures.legal in
    (λ is. own.0 (may.0 is), λ owns. may.1 (own.1 owns))
