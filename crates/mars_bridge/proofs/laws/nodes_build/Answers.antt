use Rattle.mars_bridge.proofs.Building.{empty_represented, free_represented, free_denotes, node_keeps, label_denotes, kept_denotes, equal_scoped, call_scoped}
use Rattle.mars_bridge.proofs.laws.nodes_build.Goals as goal

pub returns-clause-empty : goal.returns-clause-empty
returns-clause-empty c = empty_represented

pub returns-clause-variable : goal.returns-clause-variable
returns-clause-variable c = free_represented

pub returns-clause-denotes : goal.returns-clause-denotes
returns-clause-denotes c = free_denotes

pub returns-clause-node : goal.returns-clause-node
returns-clause-node c = node_keeps

pub returns-clause-label : goal.returns-clause-label
returns-clause-label c = label_denotes

pub returns-clause-kept : goal.returns-clause-kept
returns-clause-kept c = kept_denotes

pub returns-clause-equal : goal.returns-clause-equal
returns-clause-equal c = equal_scoped

pub returns-clause-call : goal.returns-clause-call
returns-clause-call c = call_scoped
