use Rattle.mars_rows.proofs.StaysSound.{one_interning}
use Rattle.mars_rows.proofs.laws.one_interning.Goals as goal

pub returns : goal.returns
returns c = one_interning
