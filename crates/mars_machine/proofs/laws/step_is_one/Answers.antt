use Rattle.mars_machine.proofs.Steps.{waking_once, number_once, children_once, built_in_once, state_once, state_alive}
use Rattle.mars_machine.proofs.laws.step_is_one.Goals as goal

pub returns-clause-waking : goal.returns-clause-waking
returns-clause-waking c = waking_once

pub returns-clause-number : goal.returns-clause-number
returns-clause-number c = λ e s. number_once e s.v s.solves

pub returns-clause-children : goal.returns-clause-children
returns-clause-children c = children_once

pub returns-clause-built_in : goal.returns-clause-built_in
returns-clause-built_in c = λ parent s. built_in_once parent s.v s.solves

pub returns-clause-step : goal.returns-clause-step
returns-clause-step c = state_once

pub returns-clause-solvable : goal.returns-clause-solvable
returns-clause-solvable c = state_alive
