-- Which lists of words are accepted, and what they say.
use Rattle.std.specs.Prelude.{◌≡◌, ◌⊎◌, ℕ, List, [], ◌∷◌, ◌++◌, map, Bool, false, Option, Some, None, unwrap_or, ⊤, String, string_bytes, codes}
use Rattle.mars_script.specs.declared.steps.Given.{Given}
use Rattle.mars_script.specs.declared.words.Options.{Options}
use Rattle.mars_script.specs.declared.words.Mode.{Mode}
use Rattle.mars_script.specs.declared.words.Mode.TheVariants as mode
use Rattle.mars_script.specs.declared.words.Words.{Words}
use Rattle.mars_script.specs.declared.words.TheConstants.{MOST_STEPS, USUAL_STEPS, MOST_ROWS, LAST_SESSION, LAST_START, MOST_ROUNDS}
use Rattle.mars_script.specs.Given.{given_steps, given_rows, given_log}
use Rattle.mars_script.specs.Written.{number_up_to}

-- the bytes of each word
abbrev pub texts_of : {Z : Type 0} → List (String Z) → List (List ℕ)
texts_of words = map (λ word. string_bytes word) words

-- no option was given
abbrev pub nothing_given : Given
nothing_given = record { steps = None; rows = None; log = false }

-- the options that were given, and the usual ones in place of the others
abbrev pub options_of : Given → Options
options_of given = record { budget = unwrap_or given.steps USUAL_STEPS; rows = unwrap_or given.rows MOST_ROWS; log = given.log }

-- a mode with options
abbrev pub says_mode : Mode → Given → Words
says_mode mode given = record { mode = mode; options = options_of given }

-- options, each at most once: what was given before them, the words, and what is given after them
pub data AreOptions : Given → List (List ℕ) → Given → Type 0 where
  no_option : {given : Given} → AreOptions given [] given
  steps : {given later : Given} {text : List ℕ} {rest : List (List ℕ)} {number : ℕ} → given.steps ≡ None → number_up_to MOST_STEPS text ≡ Some number →
      AreOptions (given_steps given number) rest later → AreOptions given (codes "--steps" ∷ text ∷ rest) later
  steps_are : {given later : Given} {text : List ℕ} {rest : List (List ℕ)} {number : ℕ} → given.steps ≡ None → number_up_to MOST_STEPS text ≡ Some number →
      AreOptions (given_steps given number) rest later → AreOptions given ((codes "--steps=" ++ text) ∷ rest) later
  rows : {given later : Given} {text : List ℕ} {rest : List (List ℕ)} {number : ℕ} → given.rows ≡ None → number_up_to MOST_ROWS text ≡ Some number →
      AreOptions (given_rows given number) rest later → AreOptions given (codes "--rows" ∷ text ∷ rest) later
  rows_are : {given later : Given} {text : List ℕ} {rest : List (List ℕ)} {number : ℕ} → given.rows ≡ None → number_up_to MOST_ROWS text ≡ Some number →
      AreOptions (given_rows given number) rest later → AreOptions given ((codes "--rows=" ++ text) ∷ rest) later
  log : {given later : Given} {rest : List (List ℕ)} → given.log ≡ false →
      AreOptions (given_log given) rest later → AreOptions given (codes "--log" ∷ rest) later

-- the word `--`, or nothing
abbrev pub IsEnd : List (List ℕ) → Type 0
IsEnd words = (words ≡ []) ⊎ (words ≡ codes "--" ∷ [])

-- each word is the number of a session, and these are the numbers
abbrev pub AreSessionNumbers : List (List ℕ) → List ℕ → Type 0
AreSessionNumbers [] [] = ⊤
AreSessionNumbers (word ∷ words) (number ∷ numbers) = (number_up_to LAST_SESSION word ≡ Some number) × AreSessionNumbers words numbers
AreSessionNumbers _ _ = ⊥

-- a list of words that is accepted, and what it says
pub data IsWords : List (List ℕ) → Words → Type 0 where
  no_word : IsWords [] (says_mode mode.Run nothing_given)
  run : {options end : List (List ℕ)} {given : Given} → AreOptions nothing_given options given → IsEnd end →
      IsWords (codes "run" ∷ (options ++ end)) (says_mode mode.Run given)
  order : {options end : List (List ℕ)} {given : Given} (words : List (List ℕ)) {numbers : List ℕ} → AreOptions nothing_given options given → IsEnd end →
      AreSessionNumbers words numbers → IsWords (codes "order" ∷ (options ++ (end ++ words))) (says_mode (mode.Order numbers) given)
  replay : {options end : List (List ℕ)} {given : Given} → AreOptions nothing_given options given → given.log ≡ false → IsEnd end →
      IsWords (codes "replay" ∷ (options ++ end)) (says_mode mode.Replay given)
  make : {end : List (List ℕ)} (first second : List ℕ) {start size : ℕ} → IsEnd end → number_up_to LAST_START first ≡ Some start →
      number_up_to MOST_ROUNDS second ≡ Some size → IsWords (codes "make" ∷ (end ++ (first ∷ second ∷ []))) (says_mode (mode.Make start size) nothing_given)
