use Rattle.mars_store.proofs.Plain.{plain_decides, new_names-new, difs_independent}
use Rattle.mars_store.proofs.laws.plain_decides.Goals as goal

pub returns : goal.returns
returns c = record { names = new_names-new; decides = plain_decides; independent = difs_independent }
