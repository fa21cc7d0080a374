-- Words that are accepted are read as what they say.
use Rattle.std.proofs.Common.{◌≡◌, ℕ, List, [], ◌∷◌, ◌++◌, Bool, true, false, Option, Some, None, is_none, not, cond, ◌&&◌, nat_eq, if◌then◌else◌, codes, refl, sym, ap, subst, ◌∙◌, ◌⊎◌, inl, inr, append_assoc, append-nil}
use Rattle.std.specs.Cmp.{unsigned_Decides}
use Rattle.std.specs.Cmp.Lexicographic.{pointwise}
use Rattle.mars_script.specs.declared.kinds.Kind.{Kind}
use Rattle.mars_script.specs.declared.kinds.Kind.TheVariants as kind
use Rattle.mars_script.specs.declared.steps.Given.{Given}
use Rattle.mars_script.specs.declared.steps.Phase.TheVariants as phase
use Rattle.mars_script.specs.declared.steps.Step.{Step}
use Rattle.mars_script.specs.declared.steps.Step.TheVariants as step
use Rattle.mars_script.specs.declared.words.Mode.TheVariants as mode
use Rattle.mars_script.specs.declared.words.Words.{Words}
use Rattle.mars_script.specs.declared.words.TheConstants.{MOST_STEPS, MOST_ROWS, LAST_SESSION, LAST_START, MOST_ROUNDS}
use Rattle.mars_script.specs.Given.{given_steps, given_rows, given_log}
use Rattle.mars_script.specs.KindsInside.{after, kind_of, kind_of_value}
use Rattle.mars_script.specs.StepsInside.{at_phase, at_options, next_option_of, goes_over}
use Rattle.mars_script.specs.Words.{AreOptions, no_option, steps, steps_are, rows, rows_are, log, IsEnd, AreSessionNumbers, IsWords, no_word, run, order, replay, make, nothing_given, says_mode}
use Rattle.mars_script.specs.WordsInside.{mode_of, mode_says, mode_words, start_words, two_words, without_end, made_words, words_in}
use Rattle.mars_script.specs.Written.{number_up_to}
use Rattle.mars_script.proofs.KindLemmas.{kind_last}
use Rattle.mars_script.proofs.NumberLemmas.{no_minus}

-- what a step does before the other words
abbrev pub over : Step → List ℕ → List (List ℕ) → Option (Given × List ℕ)
over made numbers words = elim made [
  | step.Goes later ↦ goes_over later numbers words
  | step.Counts given number ↦ goes_over (at_phase phase.Numbers given) (numbers ++ number ∷ []) words
  | step.Refused ↦ None
]

-- a number is no option
unequal_bytes : (b : Bool) (byte other : ℕ) → nat_eq byte other ≡ b → (byte ≡ other → ⊥) → nat_eq byte other ≡ false
unequal_bytes true byte other e h = absurd (h ((unsigned_Decides byte other).0 e))
unequal_bytes false byte other e h = e

abbrev kind_after_rows : List ℕ → Option (List ℕ) → Kind
kind_after_rows text rest =
    elim rest [
      | Some value ↦ elim (number_up_to MOST_ROWS value) [ Some number ↦ kind.RowsAre number | None ↦ kind.Other ]
      | None ↦ elim (number_up_to LAST_SESSION text) [ Some number ↦ kind.Number number | None ↦ kind.Other ]
    ]

abbrev kind_after_steps : List ℕ → Option (List ℕ) → Kind
kind_after_steps text rest =
    elim rest [
      | Some value ↦ elim (number_up_to MOST_STEPS value) [ Some number ↦ kind.StepsAre number | None ↦ kind.Other ]
      | None ↦ kind_after_rows text (after (codes "--rows=") text)
    ]

pub number_kind : (word : List ℕ) (number : ℕ) → number_up_to LAST_SESSION word ≡ Some number → kind_of word ≡ kind.Number number
number_kind [] number e = cc
number_kind (byte ∷ bytes) number e =
    let first = unequal_bytes (nat_eq byte 45) byte 45 refl (no_minus LAST_SESSION number byte bytes e) in
    let last = unequal_bytes (nat_eq 45 byte) 45 byte refl (λ is. no_minus LAST_SESSION number byte bytes e (sym is)) in
    sym (kind_last (byte ∷ bytes)
    (ap (λ (b : Bool). b && pointwise nat_eq bytes (codes "-steps")) first) (ap (λ (b : Bool). b && pointwise nat_eq bytes (codes "-rows")) first)
    (ap (λ (b : Bool). b && pointwise nat_eq bytes (codes "-log")) first) (ap (λ (b : Bool). b && pointwise nat_eq bytes (codes "-")) first))
    ∙ ap (λ (b : Bool). kind_after_steps (byte ∷ bytes) (if b then after (codes "-steps=") bytes else None)) last
    ∙ ap (λ (b : Bool). kind_after_rows (byte ∷ bytes) (if b then after (codes "-rows=") bytes else None)) last
    ∙ ap (λ (o : Option ℕ). elim o [ Some n ↦ kind.Number n | None ↦ kind.Other ]) e

pub number_no_end : (most : ℕ) (word : List ℕ) (number : ℕ) → number_up_to most word ≡ Some number → pointwise nat_eq word (codes "--") ≡ false
number_no_end most [] number e = refl
number_no_end most (byte ∷ bytes) number e =
    let first = unequal_bytes (nat_eq byte 45) byte 45 refl (no_minus most number byte bytes e) in
    ap (λ (b : Bool). b && pointwise nat_eq bytes (codes "-")) first

-- the options are gone over
pub options_over : {given later : Given} {options : List (List ℕ)} → AreOptions given options later → (words : List (List ℕ)) →
    goes_over (at_options given) [] (options ++ words) ≡ goes_over (at_options later) [] words
options_over no_option words = refl
options_over (steps {given = given} {text = text} {rest = rest} {number = number} new written more) words =
    ap (λ (o : Option ℕ). over (cond (is_none o) (step.Goes (at_phase phase.Steps given)) step.Refused) [] (text ∷ (rest ++ words))) new
    ∙ ap (λ (o : Option ℕ). over (elim o [ Some n ↦ step.Goes (at_options (given_steps given n)) | None ↦ step.Refused ]) [] (rest ++ words)) written
    ∙ options_over more words
options_over (rows {given = given} {text = text} {rest = rest} {number = number} new written more) words =
    ap (λ (o : Option ℕ). over (cond (is_none o) (step.Goes (at_phase phase.Rows given)) step.Refused) [] (text ∷ (rest ++ words))) new
    ∙ ap (λ (o : Option ℕ). over (elim o [ Some n ↦ step.Goes (at_options (given_rows given n)) | None ↦ step.Refused ]) [] (rest ++ words)) written
    ∙ options_over more words
options_over (steps_are {given = given} {text = text} {rest = rest} {number = number} new written more) words =
    ap (λ (o : Option ℕ). over (next_option_of given (elim o [ Some n ↦ kind.StepsAre n | None ↦ kind.Other ])) [] (rest ++ words)) written
    ∙ ap (λ (o : Option ℕ). over (cond (is_none o) (step.Goes (at_options (given_steps given number))) step.Refused) [] (rest ++ words)) new
    ∙ options_over more words
options_over (rows_are {given = given} {text = text} {rest = rest} {number = number} new written more) words =
    ap (λ (o : Option ℕ). over (next_option_of given (elim o [ Some n ↦ kind.RowsAre n | None ↦ kind.Other ])) [] (rest ++ words)) written
    ∙ ap (λ (o : Option ℕ). over (cond (is_none o) (step.Goes (at_options (given_rows given number))) step.Refused) [] (rest ++ words)) new
    ∙ options_over more words
options_over (log {given = given} {rest = rest} new more) words =
    ap (λ (b : Bool). over (cond (not b) (step.Goes (at_options (given_log given))) step.Refused) [] (rest ++ words)) new
    ∙ options_over more words

-- the numbers are gone over
pub numbers_over : (words : List (List ℕ)) (numbers before : List ℕ) (given : Given) → AreSessionNumbers words numbers →
    goes_over (at_phase phase.Numbers given) before words ≡ Some (given, before ++ numbers)
numbers_over [] (number ∷ numbers) before given are = elim are [ ]
numbers_over (word ∷ words) [] before given are = elim are [ ]
numbers_over [] [] before given are = ap (λ (ns : List ℕ). Some (given, ns)) (sym (append-nil before))
numbers_over (word ∷ words) (number ∷ numbers) before given are =
    ap (λ (o : Option ℕ). over (elim o [ Some n ↦ step.Counts given n | None ↦ step.Refused ]) before words) are.0
    ∙ numbers_over words numbers (before ++ number ∷ []) given are.1
    ∙ ap (λ (ns : List ℕ). Some (given, ns)) (append_assoc before (number ∷ []) numbers)

-- what is after the options is gone over
numbers_alone : (words : List (List ℕ)) (numbers : List ℕ) (given : Given) → AreSessionNumbers words numbers →
    goes_over (at_options given) [] words ≡ Some (given, numbers)
numbers_alone [] (number ∷ numbers) given are = elim are [ ]
numbers_alone (word ∷ words) [] given are = elim are [ ]
numbers_alone [] [] given are = refl
numbers_alone (word ∷ words) (number ∷ numbers) given are =
    ap (λ (k : Kind). over (next_option_of given k) [] words) (number_kind word number are.0) ∙ numbers_over words numbers (number ∷ []) given are.1

pub rest_over : (end words : List (List ℕ)) (numbers : List ℕ) (given : Given) → IsEnd end → AreSessionNumbers words numbers →
    goes_over (at_options given) [] (end ++ words) ≡ Some (given, numbers)
rest_over end words numbers given (inl e) are =
    ap (λ (ws : List (List ℕ)). goes_over (at_options given) [] (ws ++ words)) e ∙ numbers_alone words numbers given are
rest_over end words numbers given (inr e) are =
    ap (λ (ws : List (List ℕ)). goes_over (at_options given) [] (ws ++ words)) e ∙ numbers_over words numbers [] given are

pub end_over : (end : List (List ℕ)) (given : Given) → IsEnd end → goes_over (at_options given) [] end ≡ Some (given, [])
end_over end given (inl e) = ap (goes_over (at_options given) []) e
end_over end given (inr e) = ap (goes_over (at_options given) []) e

-- what a mode's words say
abbrev mode_of_found : List ℕ → Option (Given × List ℕ) → Option Words
mode_of_found first found = elim found [ Some all ↦ mode_says all.0 (mode_of first all.0 all.1) | None ↦ None ]

start_says : (first second : List ℕ) (start size : ℕ) → number_up_to LAST_START first ≡ Some start → number_up_to MOST_ROUNDS second ≡ Some size →
    start_words first second ≡ Some (says_mode (mode.Make start size) nothing_given)
start_says first second start size a b =
    ap (λ (o : Option ℕ). elim o [ Some s ↦ elim (number_up_to MOST_ROUNDS second) [ Some r ↦ Some (says_mode (mode.Make s r) nothing_given) | None ↦ None ] | None ↦ None ]) a
    ∙ ap (λ (o : Option ℕ). elim o [ Some r ↦ Some (says_mode (mode.Make start r) nothing_given) | None ↦ None ]) b

made : (end : List (List ℕ)) (first second : List ℕ) (start size : ℕ) → IsEnd end → number_up_to LAST_START first ≡ Some start →
    number_up_to MOST_ROUNDS second ≡ Some size → made_words (end ++ (first ∷ second ∷ [])) ≡ Some (says_mode (mode.Make start size) nothing_given)
made end first second start size (inl e) a b =
    ap (λ (ws : List (List ℕ)). made_words (ws ++ (first ∷ second ∷ []))) e
    ∙ ap (λ (t : Bool). two_words (if t then second ∷ [] else first ∷ second ∷ [])) (number_no_end LAST_START first start a)
    ∙ start_says first second start size a b
made end first second start size (inr e) a b =
    ap (λ (ws : List (List ℕ)). made_words (ws ++ (first ∷ second ∷ []))) e ∙ start_says first second start size a b

pub words_complete : {texts : List (List ℕ)} {said : Words} → IsWords texts said → words_in texts ≡ Some said
words_complete no_word = refl
words_complete (run {options = options} {end = end} {given = given} are last) =
    ap (mode_of_found (codes "run")) (options_over are end ∙ end_over end given last)
words_complete (order {options = options} {end = end} {given = given} words {numbers = numbers} are last all) =
    ap (mode_of_found (codes "order")) (options_over are (end ++ words) ∙ rest_over end words numbers given last all)
words_complete (replay {options = options} {end = end} {given = given} are unlogged last) =
    ap (mode_of_found (codes "replay")) (options_over are end ∙ end_over end given last)
    ∙ ap (λ (b : Bool). mode_says given (if b then None else Some mode.Replay)) unlogged
words_complete (make {end = end} first second {start = start} {size = size} last a b) = made end first second start size last a b
