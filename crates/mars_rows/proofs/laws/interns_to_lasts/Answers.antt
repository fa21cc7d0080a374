use Rattle.mars_rows.proofs.StaysSound.{interns_to_lasts}
use Rattle.mars_rows.proofs.laws.interns_to_lasts.Goals as goal

pub returns : goal.returns
returns c = interns_to_lasts
