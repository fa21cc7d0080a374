use Rattle.mars_rows.proofs.SweepsSound.{sweep_keeps_sound}
use Rattle.mars_rows.proofs.laws.sweep_keeps_sound.Goals as goal

pub returns : goal.returns
returns c = sweep_keeps_sound
