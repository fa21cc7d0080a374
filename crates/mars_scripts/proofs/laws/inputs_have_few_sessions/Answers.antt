use Rattle.mars_scripts.proofs.SessionLemmas.{makes-few_sessions}
use Rattle.mars_scripts.proofs.laws.inputs_have_few_sessions.Goals as goal

pub returns : goal.returns
returns c = makes-few_sessions
