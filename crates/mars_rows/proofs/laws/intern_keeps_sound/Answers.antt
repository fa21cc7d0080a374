use Rattle.mars_rows.proofs.StaysSound.{intern_keeps_sound}
use Rattle.mars_rows.proofs.laws.intern_keeps_sound.Goals as goal

pub returns : goal.returns
returns c = intern_keeps_sound
