use Rattle.mars_canon.proofs.Forms.{one_form_of_walks}
use Rattle.mars_canon.proofs.laws.one_form_of_walks.Goals as goal

pub returns : goal.returns
returns c = one_form_of_walks
