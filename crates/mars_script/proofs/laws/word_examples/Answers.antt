use Rattle.std.proofs.Common.{[], ◌∷◌, refl, codes}
use Rattle.mars_script.specs.declared.words.Mode.TheVariants as mode
use Rattle.mars_script.specs.Words.{says_mode, nothing_given}
use Rattle.mars_script.specs.Examples.{five_steps, logged}
use Rattle.mars_script.proofs.Exact.{outside}
use Rattle.mars_script.proofs.Sound.{words_sound}
use Rattle.mars_script.proofs.laws.word_examples.Goals as goal

pub returns : goal.returns
returns c = record {
  no_words = words_sound [] (says_mode mode.Run nothing_given) refl;
  steps = words_sound (codes "run" ∷ codes "--steps" ∷ codes "5" ∷ []) (says_mode mode.Run five_steps) refl;
  steps_are = words_sound (codes "replay" ∷ codes "--steps=+05" ∷ codes "--" ∷ []) (says_mode mode.Replay five_steps) refl;
  order = words_sound (codes "order" ∷ codes "--log" ∷ codes "1" ∷ codes "0" ∷ []) (says_mode (mode.Order (1 ∷ 0 ∷ [])) logged) refl;
  make = words_sound (codes "make" ∷ codes "--" ∷ codes "0" ∷ codes "2" ∷ []) (says_mode (mode.Make 0 2) nothing_given) refl;
  unknown = outside (codes "walk" ∷ []) refl;
  twice = outside (codes "run" ∷ codes "--steps" ∷ codes "5" ∷ codes "--steps=5" ∷ []) refl;
  late = outside (codes "order" ∷ codes "1" ∷ codes "--log" ∷ []) refl;
  no_value = outside (codes "run" ∷ codes "--rows" ∷ []) refl;
  replay_log = outside (codes "replay" ∷ codes "--log" ∷ []) refl;
}
