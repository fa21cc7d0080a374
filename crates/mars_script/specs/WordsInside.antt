-- The words as a whole, as the code goes over them.
use Rattle.std.specs.Prelude.{◌≡◌, ℕ, List, [], ◌∷◌, Option, Some, None, nat_eq, if◌then◌else◌, codes, Result, Ok, Err, MatchResult}
use Rattle.std.specs.Cmp.Lexicographic.{pointwise}
use Rattle.mars_script.specs.declared.steps.Given.{Given}
use Rattle.mars_script.specs.declared.words.Mode.{Mode}
use Rattle.mars_script.specs.declared.words.Mode.TheVariants as mode
use Rattle.mars_script.specs.declared.words.Words.{Words}
use Rattle.mars_script.specs.declared.words.WordsError.{WordsError}
use Rattle.mars_script.specs.declared.words.WordsError.TheVariants as why
use Rattle.mars_script.specs.declared.words.TheConstants.{LAST_START, MOST_ROUNDS}
use Rattle.mars_script.specs.StepsInside.{goes_over, at_options}
use Rattle.mars_script.specs.Words.{nothing_given, says_mode}
use Rattle.mars_script.specs.Written.{number_up_to}

-- the answer is what was found, and bad where nothing was
abbrev pub AnswersFound : Option Words → Result Words WordsError → Type 0
AnswersFound found answer = MatchResult answer (λ said. found ≡ Some said) (λ error. error ≡ why.Bad → found ≡ None)

-- a mode that takes no numbers
abbrev pub plain_mode : List ℕ → Given → Option Mode
plain_mode word given =
    if pointwise nat_eq word (codes "run") then Some mode.Run
    else (if pointwise nat_eq word (codes "replay") then (if given.log then None else Some mode.Replay) else None)

-- the mode that a word names, none where it has no such options or numbers
abbrev pub mode_of : List ℕ → Given → List ℕ → Option Mode
mode_of word given numbers =
    if pointwise nat_eq word (codes "order") then Some (mode.Order numbers) else elim numbers [ [] ↦ plain_mode word given | _ ↦ None ]

-- what a mode says, where there is one
abbrev pub mode_says : Given → Option Mode → Option Words
mode_says given (Some mode) = Some (says_mode mode given)
mode_says given None = None

-- what the words say after a first one other than `make`
abbrev pub mode_words : List ℕ → List (List ℕ) → Option Words
mode_words first rest = elim (goes_over (at_options nothing_given) [] rest) [ Some found ↦ mode_says found.0 (mode_of first found.0 found.1) | None ↦ None ]

-- what a start and a size say
abbrev pub start_words : List ℕ → List ℕ → Option Words
start_words first second = elim (number_up_to LAST_START first) [
  | Some start ↦ elim (number_up_to MOST_ROUNDS second) [ Some size ↦ Some (says_mode (mode.Make start size) nothing_given) | None ↦ None ]
  | None ↦ None
]

-- the words without a first one that is `--`
abbrev pub without_end : List (List ℕ) → List (List ℕ)
without_end [] = []
without_end (first ∷ rest) = if pointwise nat_eq first (codes "--") then rest else first ∷ rest

-- what two words say that are a start and a size
abbrev pub two_words : List (List ℕ) → Option Words
two_words (first ∷ second ∷ []) = start_words first second
two_words _ = None

-- what the words after `make` say
abbrev pub made_words : List (List ℕ) → Option Words
made_words words = two_words (without_end words)

-- what words say
abbrev pub words_in : List (List ℕ) → Option Words
words_in [] = Some (says_mode mode.Run nothing_given)
words_in (first ∷ rest) = if pointwise nat_eq first (codes "make") then made_words rest else mode_words first rest
