-- What is read is what the words say.
use Rattle.std.proofs.Common.{◌≡◌, ℕ, List, [], ◌∷◌, ◌++◌, Bool, true, false, Option, Some, None, is_none, not, cond, nat_eq, if◌then◌else◌, codes, refl, sym, ap, subst, ◌∙◌, ◌⊎◌, inl, inr, append_assoc, append-nil}
use Rattle.std.specs.Cmp.{unsigned_Decides}
use Rattle.std.specs.Cmp.Lexicographic.{pointwise, bytes_decides}
use Rattle.mars_script.specs.declared.kinds.Kind.{Kind}
use Rattle.mars_script.specs.declared.kinds.Kind.TheVariants as kind
use Rattle.mars_script.specs.declared.steps.Given.{Given}
use Rattle.mars_script.specs.declared.steps.Phase.{Phase}
use Rattle.mars_script.specs.declared.steps.Phase.TheVariants as phase
use Rattle.mars_script.specs.declared.steps.WordState.{WordState}
use Rattle.mars_script.specs.declared.steps.Step.{Step}
use Rattle.mars_script.specs.declared.steps.Step.TheVariants as step
use Rattle.mars_script.specs.declared.words.Mode.{Mode}
use Rattle.mars_script.specs.declared.words.Mode.TheVariants as mode
use Rattle.mars_script.specs.declared.words.Words.{Words}
use Rattle.mars_script.specs.declared.words.TheConstants.{MOST_STEPS, MOST_ROWS, LAST_SESSION, LAST_START, MOST_ROUNDS}
use Rattle.mars_script.specs.Given.{given_steps, given_rows, given_log}
use Rattle.mars_script.specs.KindsInside.{after, kind_of, kind_of_value}
use Rattle.mars_script.specs.StepsInside.{at_phase, at_options, next_option_of, next_in, goes_over}
use Rattle.mars_script.specs.Words.{AreOptions, no_option, steps, steps_are, rows, rows_are, log, IsEnd, AreSessionNumbers, IsWords, no_word, run, order, replay, make, nothing_given, says_mode}
use Rattle.mars_script.specs.WordsInside.{mode_of, plain_mode, mode_says, mode_words, start_words, two_words, without_end, made_words, words_in}
use Rattle.mars_script.specs.Written.{number_up_to}
use Rattle.mars_script.proofs.Complete.{over}

-- what the kind of a word says of it
data IsKind : List ℕ → Kind → Type 0 where
  is_steps : IsKind (codes "--steps") kind.Steps
  is_rows : IsKind (codes "--rows") kind.Rows
  is_log : IsKind (codes "--log") kind.Log
  is_end : IsKind (codes "--") kind.End
  is_steps_are : (value : List ℕ) (number : ℕ) → number_up_to MOST_STEPS value ≡ Some number → IsKind (codes "--steps=" ++ value) (kind.StepsAre number)
  is_rows_are : (value : List ℕ) (number : ℕ) → number_up_to MOST_ROWS value ≡ Some number → IsKind (codes "--rows=" ++ value) (kind.RowsAre number)
  is_number : (word : List ℕ) (number : ℕ) → number_up_to LAST_SESSION word ≡ Some number → IsKind word (kind.Number number)
  is_other : (word : List ℕ) → IsKind word kind.Other

some_inj : {X : Type 0} (x y : X) → Some x ≡ Some y → x ≡ y
some_inj x y e = cc

no_some : {X : Type 0} {P : Type 0} (x : X) → None ≡ Some x → P
no_some x e = absurd (let no : ⊥ = cc in no)

begins_later : (b : Bool) (byte other : ℕ) (bytes text value : List ℕ) → nat_eq byte other ≡ b →
    (after bytes text ≡ Some value → text ≡ bytes ++ value) → (if b then after bytes text else None) ≡ Some value → other ∷ text ≡ byte ∷ (bytes ++ value)
begins_later true byte other bytes text value same so e = λ i. sym ((unsigned_Decides byte other).0 same) i ∷ so e i
begins_later false byte other bytes text value same so e = no_some value e

-- what was taken off is a beginning
begins : (bytes text value : List ℕ) → after bytes text ≡ Some value → text ≡ bytes ++ value
begins [] text value e = some_inj text value e
begins (byte ∷ bytes) [] value e = no_some value e
begins (byte ∷ bytes) (other ∷ text) value e = begins_later (nat_eq byte other) byte other bytes text value refl (begins bytes text value) e

choose : (b : Bool) (word other : List ℕ) (k l : Kind) → pointwise nat_eq word other ≡ b → IsKind other k → IsKind word l → IsKind word (if b then k else l)
choose true word other k l e first second = subst (λ (w : List ℕ). IsKind w k) (sym ((bytes_decides word other).0 e)) first
choose false word other k l e first second = second

number_is : (word : List ℕ) (found : Option ℕ) → number_up_to LAST_SESSION word ≡ found →
    IsKind word (elim found [ Some number ↦ kind.Number number | None ↦ kind.Other ])
number_is word (Some number) e = is_number word number e
number_is word None e = is_other word

rows_number : (word value : List ℕ) (found : Option ℕ) → word ≡ codes "--rows=" ++ value → number_up_to MOST_ROWS value ≡ found →
    IsKind word (elim found [ Some number ↦ kind.RowsAre number | None ↦ kind.Other ])
rows_number word value (Some number) e f = subst (λ (w : List ℕ). IsKind w (kind.RowsAre number)) (sym e) (is_rows_are value number f)
rows_number word value None e f = is_other word

rows_is : (word : List ℕ) (found : Option (List ℕ)) → after (codes "--rows=") word ≡ found → IsKind word (elim found [
  | Some value ↦ elim (number_up_to MOST_ROWS value) [ Some number ↦ kind.RowsAre number | None ↦ kind.Other ]
  | None ↦ elim (number_up_to LAST_SESSION word) [ Some number ↦ kind.Number number | None ↦ kind.Other ]
])
rows_is word (Some value) e = rows_number word value (number_up_to MOST_ROWS value) (begins (codes "--rows=") word value e) refl
rows_is word None e = number_is word (number_up_to LAST_SESSION word) refl

steps_number : (word value : List ℕ) (found : Option ℕ) → word ≡ codes "--steps=" ++ value → number_up_to MOST_STEPS value ≡ found →
    IsKind word (elim found [ Some number ↦ kind.StepsAre number | None ↦ kind.Other ])
steps_number word value (Some number) e f = subst (λ (w : List ℕ). IsKind w (kind.StepsAre number)) (sym e) (is_steps_are value number f)
steps_number word value None e f = is_other word

value_is : (word : List ℕ) (found : Option (List ℕ)) → after (codes "--steps=") word ≡ found → IsKind word (elim found [
  | Some value ↦ elim (number_up_to MOST_STEPS value) [ Some number ↦ kind.StepsAre number | None ↦ kind.Other ]
  | None ↦ elim (after (codes "--rows=") word) [
    | Some value ↦ elim (number_up_to MOST_ROWS value) [ Some number ↦ kind.RowsAre number | None ↦ kind.Other ]
    | None ↦ elim (number_up_to LAST_SESSION word) [ Some number ↦ kind.Number number | None ↦ kind.Other ]
  ]
])
value_is word (Some value) e = steps_number word value (number_up_to MOST_STEPS value) (begins (codes "--steps=") word value e) refl
value_is word None e = rows_is word (after (codes "--rows=") word) refl

kind_is : (word : List ℕ) → IsKind word (kind_of word)
kind_is word =
    choose (pointwise nat_eq word (codes "--steps")) word (codes "--steps") _ _ refl is_steps
    (choose (pointwise nat_eq word (codes "--rows")) word (codes "--rows") _ _ refl is_rows
    (choose (pointwise nat_eq word (codes "--log")) word (codes "--log") _ _ refl is_log
    (choose (pointwise nat_eq word (codes "--")) word (codes "--") _ _ refl is_end (value_is word (after (codes "--steps=") word) refl))))

-- what comes after `given` options: the rest of them, the word that ends them, and the numbers
data IsRest : Given → List (List ℕ) → Given → List ℕ → Type 0 where
  is_rest : {given later : Given} {options end : List (List ℕ)} (words : List (List ℕ)) (numbers : List ℕ) →
      AreOptions given options later → IsEnd end → AreSessionNumbers words numbers → IsRest given (options ++ (end ++ words)) later numbers

allowed : (b : Bool) (state : WordState) (words : List (List ℕ)) (r : Given × List ℕ) → over (cond b (step.Goes state) step.Refused) [] words ≡ Some r →
    (b ≡ true) × (goes_over state [] words ≡ Some r)
allowed true state words r e = (refl, e)
allowed false state words r e = no_some r e

none_is : (o : Option ℕ) → is_none o ≡ true → o ≡ None
none_is None e = refl
none_is (Some n) e = cc

off_is : (b : Bool) → not b ≡ true → b ≡ false
off_is false e = refl
off_is true e = sym e

-- numbers alone, after those before them
record IsRow (given : Given) (before : List ℕ) (words : List (List ℕ)) (r : Given × List ℕ) : Type 0 where
  numbers : List ℕ
  are : AreSessionNumbers words numbers
  given_is : r.0 ≡ given
  all_is : r.1 ≡ before ++ numbers

row_more : (word : List ℕ) (words : List (List ℕ)) (given : Given) (before : List ℕ) (r : Given × List ℕ) (number : ℕ) →
    number_up_to LAST_SESSION word ≡ Some number → IsRow given (before ++ number ∷ []) words r → IsRow given before (word ∷ words) r
row_more word words given before r number e row =
    record { numbers = number ∷ row.numbers; are = (e, row.are); given_is = row.given_is; all_is = row.all_is ∙ append_assoc before (number ∷ []) row.numbers }

row_step : (word : List ℕ) (words : List (List ℕ)) (given : Given) (before : List ℕ) (r : Given × List ℕ) (found : Option ℕ) →
    number_up_to LAST_SESSION word ≡ found →
    ((before : List ℕ) → goes_over (at_phase phase.Numbers given) before words ≡ Some r → IsRow given before words r) →
    over (elim found [ Some n ↦ step.Counts given n | None ↦ step.Refused ]) before words ≡ Some r → IsRow given before (word ∷ words) r
row_step word words given before r (Some number) e so f = row_more word words given before r number e (so (before ++ number ∷ []) f)
row_step word words given before r None e so f = no_some r f

row_is : (words : List (List ℕ)) (given : Given) (r : Given × List ℕ) (before : List ℕ) → goes_over (at_phase phase.Numbers given) before words ≡ Some r →
    IsRow given before words r
row_is [] given r before e =
    let same : (given, before) ≡ r = some_inj (given, before) r e in
    record { numbers = []; are = tt; given_is = ap (λ (p : Given × List ℕ). p.0) (sym same); all_is = ap (λ (p : Given × List ℕ). p.1) (sym same) ∙ sym (append-nil before) }
row_is (word ∷ words) given r before e = row_step word words given before r (number_up_to LAST_SESSION word) refl (row_is words given r) e

-- the rest, as its parts
abbrev Rest : Given → List (List ℕ) → Given × List ℕ → Type 0
Rest given words r = IsRest given words r.0 r.1

move : (given later : Given) (words : List (List ℕ)) (numbers : List ℕ) (r : Given × List ℕ) → r.0 ≡ later → r.1 ≡ numbers → IsRest given words later numbers →
    Rest given words r
move given later words numbers r e f rest = subst (λ (g : Given). IsRest given words g r.1) (sym e) (subst (λ (ns : List ℕ). IsRest given words later ns) (sym f) rest)

by_end : (given : Given) (words : List (List ℕ)) (r : Given × List ℕ) → IsRow given [] words r → Rest given (codes "--" ∷ words) r
by_end given words r row =
    move given given (codes "--" ∷ words) row.numbers r row.given_is row.all_is (is_rest {options = []} {end = codes "--" ∷ []} words row.numbers no_option (inr refl) row.are)

by_number : (given : Given) (word : List ℕ) (words : List (List ℕ)) (number : ℕ) (r : Given × List ℕ) → number_up_to LAST_SESSION word ≡ Some number →
    IsRow given (number ∷ []) words r → Rest given (word ∷ words) r
by_number given word words number r e row =
    move given given (word ∷ words) (number ∷ row.numbers) r row.given_is row.all_is
    (is_rest {options = []} {end = []} (word ∷ words) (number ∷ row.numbers) no_option (inl refl) (e, row.are))

add_steps : (given later : Given) (text : List ℕ) (words : List (List ℕ)) (numbers : List ℕ) (number : ℕ) → given.steps ≡ None →
    number_up_to MOST_STEPS text ≡ Some number → IsRest (given_steps given number) words later numbers → IsRest given (codes "--steps" ∷ text ∷ words) later numbers
add_steps given later text _ _ number new e (is_rest words numbers are last all) = is_rest words numbers (steps new e are) last all

add_steps_are : (given later : Given) (text : List ℕ) (words : List (List ℕ)) (numbers : List ℕ) (number : ℕ) → given.steps ≡ None →
    number_up_to MOST_STEPS text ≡ Some number → IsRest (given_steps given number) words later numbers → IsRest given ((codes "--steps=" ++ text) ∷ words) later numbers
add_steps_are given later text _ _ number new e (is_rest words numbers are last all) = is_rest words numbers (steps_are new e are) last all

add_rows : (given later : Given) (text : List ℕ) (words : List (List ℕ)) (numbers : List ℕ) (number : ℕ) → given.rows ≡ None →
    number_up_to MOST_ROWS text ≡ Some number → IsRest (given_rows given number) words later numbers → IsRest given (codes "--rows" ∷ text ∷ words) later numbers
add_rows given later text _ _ number new e (is_rest words numbers are last all) = is_rest words numbers (rows new e are) last all

add_rows_are : (given later : Given) (text : List ℕ) (words : List (List ℕ)) (numbers : List ℕ) (number : ℕ) → given.rows ≡ None →
    number_up_to MOST_ROWS text ≡ Some number → IsRest (given_rows given number) words later numbers → IsRest given ((codes "--rows=" ++ text) ∷ words) later numbers
add_rows_are given later text _ _ number new e (is_rest words numbers are last all) = is_rest words numbers (rows_are new e are) last all

add_log : (given later : Given) (words : List (List ℕ)) (numbers : List ℕ) → given.log ≡ false → IsRest (given_log given) words later numbers →
    IsRest given (codes "--log" ∷ words) later numbers
add_log given later _ _ new (is_rest words numbers are last all) = is_rest words numbers (log new are) last all

-- in each phase what was read is what the rest says
record Reads (words : List (List ℕ)) : Type 0 where
  options : (given : Given) (r : Given × List ℕ) → goes_over (at_options given) [] words ≡ Some r → Rest given words r
  after_steps : (given : Given) (r : Given × List ℕ) → given.steps ≡ None → goes_over (at_phase phase.Steps given) [] words ≡ Some r → Rest given (codes "--steps" ∷ words) r
  after_rows : (given : Given) (r : Given × List ℕ) → given.rows ≡ None → goes_over (at_phase phase.Rows given) [] words ≡ Some r → Rest given (codes "--rows" ∷ words) r

by_kind : (word : List ℕ) (words : List (List ℕ)) (given : Given) (r : Given × List ℕ) (k : Kind) → IsKind word k → Reads words →
    over (next_option_of given k) [] words ≡ Some r → Rest given (word ∷ words) r
by_kind _ words given r _ is_steps so e =
    let go = allowed (is_none given.steps) (at_phase phase.Steps given) words r e in
    so.after_steps given r (none_is given.steps go.0) go.1
by_kind _ words given r _ is_rows so e =
    let go = allowed (is_none given.rows) (at_phase phase.Rows given) words r e in
    so.after_rows given r (none_is given.rows go.0) go.1
by_kind _ words given r _ is_log so e =
    let go = allowed (not given.log) (at_options (given_log given)) words r e in
    add_log given r.0 words r.1 (off_is given.log go.0) (so.options (given_log given) r go.1)
by_kind _ words given r _ is_end so e = by_end given words r (row_is words given r [] e)
by_kind _ words given r _ (is_steps_are value number f) so e =
    let go = allowed (is_none given.steps) (at_options (given_steps given number)) words r e in
    add_steps_are given r.0 value words r.1 number (none_is given.steps go.0) f (so.options (given_steps given number) r go.1)
by_kind _ words given r _ (is_rows_are value number f) so e =
    let go = allowed (is_none given.rows) (at_options (given_rows given number)) words r e in
    add_rows_are given r.0 value words r.1 number (none_is given.rows go.0) f (so.options (given_rows given number) r go.1)
by_kind _ words given r _ (is_number word number f) so e = by_number given word words number r f (row_is words given r (number ∷ []) e)
by_kind _ words given r _ (is_other word) so e = no_some r e

steps_found : (word : List ℕ) (words : List (List ℕ)) (given : Given) (r : Given × List ℕ) (found : Option ℕ) → number_up_to MOST_STEPS word ≡ found → Reads words →
    given.steps ≡ None → over (elim found [ Some n ↦ step.Goes (at_options (given_steps given n)) | None ↦ step.Refused ]) [] words ≡ Some r →
    Rest given (codes "--steps" ∷ word ∷ words) r
steps_found word words given r (Some number) f so new e = add_steps given r.0 word words r.1 number new f (so.options (given_steps given number) r e)
steps_found word words given r None f so new e = no_some r e

rows_found : (word : List ℕ) (words : List (List ℕ)) (given : Given) (r : Given × List ℕ) (found : Option ℕ) → number_up_to MOST_ROWS word ≡ found → Reads words →
    given.rows ≡ None → over (elim found [ Some n ↦ step.Goes (at_options (given_rows given n)) | None ↦ step.Refused ]) [] words ≡ Some r →
    Rest given (codes "--rows" ∷ word ∷ words) r
rows_found word words given r (Some number) f so new e = add_rows given r.0 word words r.1 number new f (so.options (given_rows given number) r e)
rows_found word words given r None f so new e = no_some r e

nothing_left : (given : Given) (r : Given × List ℕ) → Some (given, []) ≡ Some r → Rest given [] r
nothing_left given r e =
    let same : (given, []) ≡ r = some_inj (given, []) r e in
    subst (λ (p : Given × List ℕ). Rest given [] p) same (is_rest {options = []} {end = []} [] [] no_option (inl refl) tt)

reads : (words : List (List ℕ)) → Reads words
reads [] = record { options = nothing_left; after_steps = λ given r new e. no_some r e; after_rows = λ given r new e. no_some r e }
reads (word ∷ words) = record {
  options = λ given r e. by_kind word words given r (kind_of word) (kind_is word) (reads words) e;
  after_steps = λ given r new e. steps_found word words given r (number_up_to MOST_STEPS word) refl (reads words) new e;
  after_rows = λ given r new e. rows_found word words given r (number_up_to MOST_ROWS word) refl (reads words) new e;
}

-- two words that are a start and a size
record IsMade (words : List (List ℕ)) (said : Words) : Type 0 where
  first : List ℕ
  second : List ℕ
  start : ℕ
  size : ℕ
  words_are : words ≡ first ∷ second ∷ []
  start_is : number_up_to LAST_START first ≡ Some start
  size_is : number_up_to MOST_ROUNDS second ≡ Some size
  said_is : said ≡ says_mode (mode.Make start size) nothing_given

size_found : (first second : List ℕ) (said : Words) (start : ℕ) (found : Option ℕ) → number_up_to LAST_START first ≡ Some start → number_up_to MOST_ROUNDS second ≡ found →
    elim found [ Some size ↦ Some (says_mode (mode.Make start size) nothing_given) | None ↦ None ] ≡ Some said → IsMade (first ∷ second ∷ []) said
size_found first second said start (Some size) a b e =
    record { first = first; second = second; start = start; size = size; words_are = refl; start_is = a; size_is = b; said_is = sym (some_inj _ said e) }
size_found first second said start None a b e = no_some said e

start_found : (first second : List ℕ) (said : Words) (found : Option ℕ) → number_up_to LAST_START first ≡ found →
    elim found [ Some start ↦ elim (number_up_to MOST_ROUNDS second) [ Some size ↦ Some (says_mode (mode.Make start size) nothing_given) | None ↦ None ] | None ↦ None ] ≡ Some said →
    IsMade (first ∷ second ∷ []) said
start_found first second said (Some start) a e = size_found first second said start (number_up_to MOST_ROUNDS second) a refl e
start_found first second said None a e = no_some said e

two_found : (words : List (List ℕ)) (said : Words) → two_words words ≡ Some said → IsMade words said
two_found [] said e = no_some said e
two_found (first ∷ []) said e = no_some said e
two_found (first ∷ second ∷ []) said e = start_found first second said (number_up_to LAST_START first) refl e
two_found (first ∷ second ∷ third ∷ words) said e = no_some said e

make_is : (end words : List (List ℕ)) (said : Words) → IsEnd end → IsMade words said → IsWords (codes "make" ∷ (end ++ words)) said
make_is end words said last m =
    subst (λ (ws : List (List ℕ)). IsWords (codes "make" ∷ (end ++ ws)) said) (sym m.words_are)
    (subst (IsWords (codes "make" ∷ (end ++ (m.first ∷ m.second ∷ [])))) (sym m.said_is) (make m.first m.second last m.start_is m.size_is))

by_dashes : (b : Bool) (first : List ℕ) (rest : List (List ℕ)) (said : Words) → pointwise nat_eq first (codes "--") ≡ b →
    two_words (if b then rest else first ∷ rest) ≡ Some said → IsWords (codes "make" ∷ first ∷ rest) said
by_dashes true first rest said e f =
    subst (λ (w : List ℕ). IsWords (codes "make" ∷ w ∷ rest) said) (sym ((bytes_decides first (codes "--")).0 e))
    (make_is (codes "--" ∷ []) rest said (inr refl) (two_found rest said f))
by_dashes false first rest said e f = make_is [] (first ∷ rest) said (inl refl) (two_found (first ∷ rest) said f)

make_found : (rest : List (List ℕ)) (said : Words) → made_words rest ≡ Some said → IsWords (codes "make" ∷ rest) said
make_found [] said e = no_some said e
make_found (first ∷ rest) said e = by_dashes (pointwise nat_eq first (codes "--")) first rest said refl e

no_numbers : (words : List (List ℕ)) → AreSessionNumbers words [] → words ≡ []
no_numbers [] are = refl
no_numbers (word ∷ words) are = elim are [ ]

order_is : (later : Given) (rest : List (List ℕ)) (numbers : List ℕ) → IsRest nothing_given rest later numbers →
    IsWords (codes "order" ∷ rest) (says_mode (mode.Order numbers) later)
order_is later _ _ (is_rest words numbers are last all) = order words are last all

-- options and the word that ends them, without numbers
record IsPlain (rest : List (List ℕ)) (later : Given) : Type 0 where
  options : List (List ℕ)
  end : List (List ℕ)
  rest_is : rest ≡ options ++ end
  are : AreOptions nothing_given options later
  last : IsEnd end

plain_is : (later : Given) (rest : List (List ℕ)) → IsRest nothing_given rest later [] → IsPlain rest later
plain_is later _ (is_rest {options = options} {end = end} words _ are last all) =
    record {
      options = options;
      end = end;
      are = are;
      last = last;
      rest_is = ap (λ (ws : List (List ℕ)). options ++ (end ++ ws)) (no_numbers words all) ∙ ap (λ (ws : List (List ℕ)). options ++ ws) (append-nil end);
    }

run_is : (later : Given) (rest : List (List ℕ)) → IsPlain rest later → IsWords (codes "run" ∷ rest) (says_mode mode.Run later)
run_is later rest p = subst (λ (ws : List (List ℕ)). IsWords (codes "run" ∷ ws) (says_mode mode.Run later)) (sym p.rest_is) (run p.are p.last)

replay_is : (later : Given) (rest : List (List ℕ)) → later.log ≡ false → IsPlain rest later → IsWords (codes "replay" ∷ rest) (says_mode mode.Replay later)
replay_is later rest unlogged p =
    subst (λ (ws : List (List ℕ)). IsWords (codes "replay" ∷ ws) (says_mode mode.Replay later)) (sym p.rest_is) (replay p.are unlogged p.last)

named : (first word : List ℕ) (rest : List (List ℕ)) (said : Words) → pointwise nat_eq first word ≡ true → IsWords (word ∷ rest) said → IsWords (first ∷ rest) said
named first word rest said e is = subst (λ (w : List ℕ). IsWords (w ∷ rest) said) (sym ((bytes_decides first word).0 e)) is

by_log : (b : Bool) (later : Given) (rest : List (List ℕ)) (said : Words) → later.log ≡ b → IsPlain rest later →
    mode_says later (if b then None else Some mode.Replay) ≡ Some said → IsWords (codes "replay" ∷ rest) said
by_log true later rest said e p f = no_some said f
by_log false later rest said e p f = subst (IsWords (codes "replay" ∷ rest)) (some_inj _ said f) (replay_is later rest e p)

by_replay : (b : Bool) (later : Given) (first : List ℕ) (rest : List (List ℕ)) (said : Words) → pointwise nat_eq first (codes "replay") ≡ b → IsPlain rest later →
    mode_says later (if b then (if later.log then None else Some mode.Replay) else None) ≡ Some said → IsWords (first ∷ rest) said
by_replay true later first rest said e p f = named first (codes "replay") rest said e (by_log later.log later rest said refl p f)
by_replay false later first rest said e p f = no_some said f

by_run : (b : Bool) (later : Given) (first : List ℕ) (rest : List (List ℕ)) (said : Words) → pointwise nat_eq first (codes "run") ≡ b → IsPlain rest later →
    mode_says later (if b then Some mode.Run else (if pointwise nat_eq first (codes "replay") then (if later.log then None else Some mode.Replay) else None)) ≡ Some said →
    IsWords (first ∷ rest) said
by_run true later first rest said e p f =
    named first (codes "run") rest said e (subst (IsWords (codes "run" ∷ rest)) (some_inj _ said f) (run_is later rest p))
by_run false later first rest said e p f = by_replay (pointwise nat_eq first (codes "replay")) later first rest said refl p f

by_numbers : (numbers : List ℕ) (later : Given) (first : List ℕ) (rest : List (List ℕ)) (said : Words) → IsRest nothing_given rest later numbers →
    mode_says later (elim numbers [ [] ↦ plain_mode first later | _ ↦ None ]) ≡ Some said → IsWords (first ∷ rest) said
by_numbers [] later first rest said is f = by_run (pointwise nat_eq first (codes "run")) later first rest said refl (plain_is later rest is) f
by_numbers (number ∷ numbers) later first rest said is f = no_some said f

by_order : (b : Bool) (numbers : List ℕ) (later : Given) (first : List ℕ) (rest : List (List ℕ)) (said : Words) → pointwise nat_eq first (codes "order") ≡ b →
    IsRest nothing_given rest later numbers →
    mode_says later (if b then Some (mode.Order numbers) else elim numbers [ [] ↦ plain_mode first later | _ ↦ None ]) ≡ Some said → IsWords (first ∷ rest) said
by_order true numbers later first rest said e is f =
    named first (codes "order") rest said e (subst (IsWords (codes "order" ∷ rest)) (some_inj _ said f) (order_is later rest numbers is))
by_order false numbers later first rest said e is f = by_numbers numbers later first rest said is f

mode_found : (found : Option (Given × List ℕ)) (first : List ℕ) (rest : List (List ℕ)) (said : Words) → goes_over (at_options nothing_given) [] rest ≡ found →
    elim found [ Some all ↦ mode_says all.0 (mode_of first all.0 all.1) | None ↦ None ] ≡ Some said → IsWords (first ∷ rest) said
mode_found (Some r) first rest said e f =
    by_order (pointwise nat_eq first (codes "order")) r.1 r.0 first rest said refl ((reads rest).options nothing_given r e) f
mode_found None first rest said e f = no_some said f

by_make : (b : Bool) (first : List ℕ) (rest : List (List ℕ)) (said : Words) → pointwise nat_eq first (codes "make") ≡ b →
    (if b then made_words rest else mode_words first rest) ≡ Some said → IsWords (first ∷ rest) said
by_make true first rest said e f = named first (codes "make") rest said e (make_found rest said f)
by_make false first rest said e f = mode_found (goes_over (at_options nothing_given) [] rest) first rest said refl f

pub words_sound : (texts : List (List ℕ)) (said : Words) → words_in texts ≡ Some said → IsWords texts said
words_sound [] said e = subst (IsWords []) (some_inj _ said e) no_word
words_sound (first ∷ rest) said e = by_make (pointwise nat_eq first (codes "make")) first rest said refl e
