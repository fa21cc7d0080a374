use Rattle.mars_bridge.proofs.Parts.{root_iff, part_denoted}
use Rattle.mars_bridge.proofs.Numbers.{number_iff}
use Rattle.mars_bridge.proofs.Woken.{waking_told}
use Rattle.mars_bridge.proofs.laws.roots_tell.Goals as goal

pub returns-clause-root : goal.returns-clause-root
returns-clause-root c = root_iff

pub returns-clause-kids : goal.returns-clause-kids
returns-clause-kids c = part_denoted

pub returns-clause-number : goal.returns-clause-number
returns-clause-number c = number_iff

pub returns-clause-waking : goal.returns-clause-waking
returns-clause-waking c = waking_told
