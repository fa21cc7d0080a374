use Rattle.mars_rows.proofs.Found.{find_means}
use Rattle.mars_rows.proofs.laws.find_means.Goals as goal

pub returns : goal.returns
returns c = find_means
