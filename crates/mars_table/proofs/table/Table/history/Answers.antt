use Rattle.mars_table.proofs.HistoryLemmas.{legal_is_live}
use Rattle.mars_table.proofs.table.Table.history.Goals as goal
use Rattle.std.proofs.Common.{subst}
use Rattle.mars_table.specs.HistoryLaws.{Live}
use Rattle.mars_table.specs.TableSeen.{TableSeen}

pub returns-clause-live : goal.returns-clause-live
returns-clause-live c = subst (λ (t : TableSeen). Live t.cap t.history) c.self.view_is (legal_is_live c.self.inside.cap c.self.inside.history.items c.self.invariant.legal)
