-- Short lists of words, and what they say.
use Rattle.std.specs.Prelude.{◌≡◌, ℕ, List, [], ◌∷◌, Some, None, true, false, codes}
use Rattle.mars_script.specs.declared.steps.Given.{Given}
use Rattle.mars_script.specs.declared.words.Mode.TheVariants as mode
use Rattle.mars_script.specs.declared.words.Words.{Words}
use Rattle.mars_script.specs.Words.{IsWords, nothing_given, says_mode}
use Rattle.mars_script.specs.Written.{number_up_to}

-- a list that isn't accepted
abbrev pub IsOutside : List (List ℕ) → Type 0
IsOutside texts = (said : Words) → IsWords texts said → ⊥

-- five steps, or a log
abbrev pub five_steps : Given
five_steps = record { steps = Some 5; rows = None; log = false }

abbrev pub logged : Given
logged = record { steps = None; rows = None; log = true }

-- what short lists of words say, and some that say nothing
pub record WordExamples : Type 0 where
  pub no_words : IsWords [] (says_mode mode.Run nothing_given)
  pub steps : IsWords (codes "run" ∷ codes "--steps" ∷ codes "5" ∷ []) (says_mode mode.Run five_steps)
  pub steps_are : IsWords (codes "replay" ∷ codes "--steps=+05" ∷ codes "--" ∷ []) (says_mode mode.Replay five_steps)
  pub order : IsWords (codes "order" ∷ codes "--log" ∷ codes "1" ∷ codes "0" ∷ []) (says_mode (mode.Order (1 ∷ 0 ∷ [])) logged)
  pub make : IsWords (codes "make" ∷ codes "--" ∷ codes "0" ∷ codes "2" ∷ []) (says_mode (mode.Make 0 2) nothing_given)
  pub unknown : IsOutside (codes "walk" ∷ [])
  pub twice : IsOutside (codes "run" ∷ codes "--steps" ∷ codes "5" ∷ codes "--steps=5" ∷ [])
  pub late : IsOutside (codes "order" ∷ codes "1" ∷ codes "--log" ∷ [])
  pub no_value : IsOutside (codes "run" ∷ codes "--rows" ∷ [])
  pub replay_log : IsOutside (codes "replay" ∷ codes "--log" ∷ [])
