use Rattle.mars_machine.proofs.Runs.{start_alive, derivation_once, end_once}
use Rattle.mars_machine.proofs.laws.derivation_is_one.Goals as goal

pub returns-clause-start : goal.returns-clause-start
returns-clause-start c = start_alive

pub returns-clause-run : goal.returns-clause-run
returns-clause-run c = derivation_once

pub returns-clause-end : goal.returns-clause-end
returns-clause-end c = end_once
