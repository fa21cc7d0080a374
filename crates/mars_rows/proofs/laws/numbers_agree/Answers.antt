use Rattle.mars_rows.proofs.StaysSound.{numbers_agree}
use Rattle.mars_rows.proofs.laws.numbers_agree.Goals as goal

pub returns : goal.returns
returns c = numbers_agree
