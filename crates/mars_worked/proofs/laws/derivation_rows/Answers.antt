use Rattle.mars_worked.proofs.CutRows.{cut_rows}
use Rattle.mars_worked.proofs.CyclicRows.{cyclic_row}
use Rattle.mars_worked.proofs.Rows.{derivation_rows}
use Rattle.mars_worked.proofs.laws.derivation_rows.Goals as goal

pub returns-clause-small : goal.returns-clause-small
returns-clause-small c = derivation_rows

pub returns-clause-cut : goal.returns-clause-cut
returns-clause-cut c = cut_rows

pub returns-clause-cyclic : goal.returns-clause-cyclic
returns-clause-cyclic c = cyclic_row
