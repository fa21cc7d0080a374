-- Goals never end open: as many names and tuples are open as actions are due that close them.
use Rattle.std.proofs.Common.{◌≡◌, ℕ, ◌+◌, List, [], ◌∷◌, ◌++◌, length, refl, ap, sym, ◌∙◌, subst, Bool, true, false, ◌&&◌, Option, Some, None, arith, ◌==◌, if◌then◌else◌}
use Rattle.std.proofs.lemmas.Bool.Decides.{nat_tests}
use Rattle.mars_grammar.specs.FormTable.{Event, Read, Say, said_events, Derives, nothing, taken, left_out}
use Rattle.mars_grammar.specs.Building.{performs}
use Rattle.mars_grammar.specs.Testing.{all_of, implies}
use Rattle.mars_grammar.specs.Rows.{form_if}
use Rattle.mars_tree.specs.declared.label.NameId.{NameId}
use Rattle.mars_term.specs.declared.term.Term.{Term, Var, Int, Kept, Str}
use Rattle.mars_forms.specs.declared.lexeme.TokenKind.{TokenKind}
use Rattle.mars_forms.specs.declared.lexeme.TokenKind.TheVariants as kind
use Rattle.mars_forms.specs.declared.lexeme.Lexeme.{Lexeme}
use Rattle.mars_forms.specs.declared.symbol.FormSymbol.{FormSymbol}
use Rattle.mars_forms.specs.declared.symbol.FormSymbol.TheVariants as due
use Rattle.mars_forms.specs.declared.symbol.FormAction.{FormAction}
use Rattle.mars_forms.specs.declared.symbol.FormAction.TheVariants as action
use Rattle.mars_forms.specs.declared.symbol.FormMode.{FormMode}
use Rattle.mars_forms.specs.declared.symbol.FormMode.TheVariants as mode
use Rattle.mars_forms.specs.declared.table.TheConstants.{GOALS}
use Rattle.mars_forms.specs.Table.{forms, is_name, begins}
use Rattle.mars_clauses.specs.declared.maker.ValuedToken.{ValuedToken}
use Rattle.mars_clauses.specs.declared.terms.OpenTerm.{OpenTerm}
use Rattle.mars_clauses.specs.declared.making.FinishedClause.TheVariants as finished_clause
use Rattle.mars_clauses.specs.Short.{in_32_bits}
use Rattle.mars_clauses.specs.Terms.{Unfinished, number_of, vars_with, given_in, given, with_open, applied_in, with_part, with_var, with_cut, paired_in, with_kept, ask_made, finished_in, finished_by, finished, headed_in, term_made}
use Rattle.mars_clauses.specs.Lists.{Clauses, clauses, clauses_from, clauses_event}
use Rattle.mars_read.specs.Spellings.{Spellings, meaning_of, role_of, with_token}
use Rattle.mars_read.specs.Spelled.{events_told}
use Rattle.mars_read.specs.ReadGoals.{GoalsAreAsks}
use Rattle.mars_read.proofs.Counting.{all_rows, row-holds, rows_of, left-free}
use Rattle.mars_read.proofs.Told.{same-kind, told-said}

-- an ask, of which so many names and tuples are open
record IsOpen (n : ℕ) (c : Unfinished) : Type 0 where
  pub asking : c.asking ≡ true
  pub head : c.head ≡ None
  pub rows : length c.rows ≡ n

given-open : (rows : List OpenTerm) (term : Term) (n : ℕ) (c : Unfinished) → c.asking ≡ true → c.head ≡ None → c.rows ≡ rows → length rows ≡ n → IsOpen n (given_in rows term c)
given-open [] term n c a h e l = record { asking = a; head = h; rows = ap length e ∙ l }
given-open (row ∷ outer) term n c a h e l = record { asking = a; head = h; rows = l }

given-is : (term : Term) (n : ℕ) (c : Unfinished) → IsOpen n c → IsOpen n (given term c)
given-is term n c o = given-open c.rows term n c o.asking o.head refl o.rows

open-is : (opening : Option NameId) (n : ℕ) (c : Unfinished) → IsOpen n c → IsOpen (n + 1) (with_open opening c)
open-is opening n c o = record { asking = o.asking; head = o.head; rows = (let l = o.rows in omega arith) }

applied-open : (rows : List OpenTerm) (n : ℕ) (c : Unfinished) → c.asking ≡ true → c.head ≡ None → length rows ≡ n + 1 → IsOpen n (applied_in rows c)
applied-open [] n c a h l = absurd (omega (arith, l))
applied-open (row ∷ outer) n c a h l = given-open outer (term_made row.opening row.terms) n (record c { rows = outer }) a h refl (omega (arith, l))

paired-open : (rows : List OpenTerm) (n : ℕ) (c : Unfinished) → c.asking ≡ true → c.head ≡ None → c.rows ≡ rows → length rows ≡ n → IsOpen n (paired_in rows c)
paired-open [] n c a h e l = record { asking = a; head = h; rows = ap length e ∙ l }
paired-open (row ∷ outer) n c a h e l = record { asking = a; head = h; rows = l }

kept-open : (b : Bool) (name : NameId) (n : ℕ) (c : Unfinished) → IsOpen n c → IsOpen n (if b then given (Kept (in_32_bits (length c.kept))) (record c { kept = c.kept ++ name ∷ [] }) else c)
kept-open true name n c o = given-open c.rows (Kept (in_32_bits (length c.kept))) n (record c { kept = c.kept ++ name ∷ [] }) o.asking o.head refl o.rows
kept-open false name n c o = o

-- by a number that is the same
opened-as : (n n' : ℕ) (c : Unfinished) → n ≡ n' → IsOpen n c → IsOpen n' c
opened-as n n' c e o = record { asking = o.asking; head = o.head; rows = o.rows ∙ e }

as-many : (n : ℕ) (c : Unfinished) → IsOpen n c → IsOpen (n + 0) c
as-many n c o = opened-as n (n + 0) c (omega arith) o

-- how many names and tuples a token of a goal or a term opens
abbrev part_opens : TokenKind → ℕ
part_opens kind.Variable = 0
part_opens kind.Integer = 0
part_opens kind.Text = 0
part_opens kind.Slash = 0
part_opens kind.Open = 0
part_opens kind.Hash = 0
part_opens _ = 1

part-open : (k : TokenKind) (t : ValuedToken) (n : ℕ) (c : Unfinished) → IsOpen n c → IsOpen (n + part_opens k) (with_part k t c)
part-open kind.Variable t n c o =
    as-many n (with_var t.name c) (given-open c.rows (Var (in_32_bits (number_of t.name c.vars))) n (record c { vars = vars_with t.name c.vars }) o.asking o.head refl o.rows)
part-open kind.Integer t n c o = as-many n (given (Int t.number) c) (given-is (Int t.number) n c o)
part-open kind.Text t n c o = as-many n (given (Str t.name) c) (given-is (Str t.name) n c o)
part-open kind.Less t n c o = open-is None n c o
part-open kind.Slash t n c o = as-many n (with_cut c) (record { asking = o.asking; head = o.head; rows = o.rows })
part-open kind.Open t n c o = as-many n c o
part-open kind.Hash t n c o = as-many n c o
part-open _ t n c o = open-is (Some t.name) n c o

-- the symbols of goals
abbrev is_of_goals : FormSymbol → Bool
is_of_goals due.AskLimit = true
is_of_goals due.AskGoals = true
is_of_goals due.AskTerm = true
is_of_goals due.AskArguments = true
is_of_goals due.AskRow = true
is_of_goals due.AskTail = true
is_of_goals due.KeptName = true
is_of_goals due.OneClose = true
is_of_goals due.OneGreater = true
is_of_goals due.Apply = true
is_of_goals due.Pair = true
is_of_goals due.Call = true
is_of_goals _ = false

-- how many a token opens that such a symbol takes
abbrev opens : FormSymbol → TokenKind → ℕ
opens due.AskGoals k = part_opens k
opens due.AskTerm k = part_opens k
opens _ k = 0

read-open : (s : FormSymbol) (t : ValuedToken) (n : ℕ) (v : Clauses) → is_of_goals s ≡ true → IsOpen n v.reading → IsOpen (n + opens s t.kind) (clauses_event (Read s t) v).reading
read-open due.AskLimit t n v is o = as-many n (clauses_event (Read due.AskLimit t) v).reading (record { asking = o.asking; head = o.head; rows = o.rows })
read-open due.AskGoals t n v is o = part-open t.kind t n v.reading o
read-open due.AskTerm t n v is o = part-open t.kind t n v.reading o
read-open due.AskArguments t n v is o = as-many n v.reading o
read-open due.AskRow t n v is o = as-many n v.reading o
read-open due.AskTail t n v is o = as-many n v.reading o
read-open due.KeptName t n v is o = as-many n (with_kept t.name v.reading) (kept-open v.reading.asking t.name n v.reading o)
read-open due.OneClose t n v is o = as-many n v.reading o
read-open due.OneGreater t n v is o = as-many n v.reading o
read-open due.Apply t n v is o = as-many n v.reading o
read-open due.Pair t n v is o = as-many n v.reading o
read-open due.Call t n v is o = as-many n v.reading o
read-open _ t n v is o = absurd cc

-- how many a symbol closes, and how many an action
abbrev closes : FormSymbol → ℕ
closes due.Apply = 1
closes due.Call = 1
closes _ = 0

abbrev all_close : List FormSymbol → ℕ
all_close [] = 0
all_close (s ∷ k) = closes s + all_close k

all-close : (form k : List FormSymbol) → all_close (form ++ k) ≡ all_close form + all_close k
all-close [] k = omega arith
all-close (s ∷ form) k = omega (arith, all-close form k)

abbrev action_closes : FormAction → ℕ
action_closes action.Apply = 1
action_closes action.Call = 1
action_closes _ = 0

abbrev actions_close : List FormAction → ℕ
actions_close [] = 0
actions_close (a ∷ as') = action_closes a + actions_close as'

head-open : (b : Bool) (n : ℕ) (c : Unfinished) → IsOpen n c → b ≡ true → IsOpen n (if b then c else headed_in c.rows c)
head-open true n c o is = o
head-open false n c o is = absurd cc

say-open : (a : FormAction) (n : ℕ) (v : Clauses) → IsOpen (action_closes a + n) v.reading → IsOpen n (clauses_event (Say a) v).reading
say-open action.Apply n v o = applied-open v.reading.rows n v.reading o.asking o.head (let l = o.rows in omega arith)
say-open action.Call n v o = applied-open v.reading.rows n v.reading o.asking o.head (let l = o.rows in omega arith)
say-open action.Pair n v o = paired-open v.reading.rows n v.reading o.asking o.head refl (let l = o.rows in omega arith)
say-open action.Head n v o = head-open v.reading.asking n v.reading (opened-as (0 + n) n v.reading (omega arith) o) o.asking
say-open action.Define n v o = opened-as (0 + n) n v.reading (omega arith) o

said-open : (as' : List FormAction) (es : List (Event FormSymbol ValuedToken FormAction)) (n : ℕ) (v : Clauses) → IsOpen (actions_close as' + n) v.reading →
    (goes : (w : Clauses) → IsOpen n w.reading → IsOpen 0 (performs clauses es w).reading) → IsOpen 0 (performs clauses (said_events as' ++ es) v).reading
said-open [] es n v o goes = goes v (opened-as (0 + n) n v.reading (omega arith) o)
said-open (a ∷ as') es n v o goes =
    said-open as' es n (clauses_event (Say a) v) (say-open a (actions_close as' + n) v (record { asking = o.asking; head = o.head; rows = (let l = o.rows in omega arith) })) goes

-- a form closes what its token opens, and has symbols of goals alone
abbrev all_of_goals : List FormSymbol → Bool
all_of_goals k = all_of is_of_goals k

-- symbols whose tokens open nothing
abbrev is_quiet : FormSymbol → Bool
is_quiet due.AskGoals = false
is_quiet due.AskTerm = false
is_quiet s = is_of_goals s

abbrev closes_none : List FormSymbol → Bool
closes_none form = all_of_goals form && (all_close form == 0)

quiet-rows : (s : FormSymbol) → implies (is_quiet s) (all_rows closes_none (rows_of s)) ≡ true
quiet-rows = elim [ due.Input ↦ refl | _ ↦ refl ]

-- what is due after a token of a goal, and of a term
abbrev goal_form : Bool → TokenKind → Option (List FormSymbol)
goal_form two kind.Variable = Some (due.AskGoals ∷ [])
goal_form two kind.Slash = Some (due.AskGoals ∷ [])
goal_form two kind.Hash = Some (due.KeptName ∷ due.AskGoals ∷ [])
goal_form two k = form_if (is_name two k) (due.AskArguments ∷ due.Call ∷ due.AskGoals ∷ []) None

abbrev ask_form : Bool → TokenKind → Option (List FormSymbol)
ask_form two kind.Variable = Some (due.AskTail ∷ [])
ask_form two kind.Integer = Some (due.AskTail ∷ [])
ask_form two kind.Text = form_if (two && true) (due.AskTail ∷ []) None
ask_form two kind.Less = Some (due.AskTerm ∷ due.AskRow ∷ due.OneGreater ∷ due.Apply ∷ due.AskTail ∷ [])
ask_form two kind.Open = Some (due.AskTerm ∷ due.OneClose ∷ due.AskTail ∷ [])
ask_form two kind.Hash = Some (due.KeptName ∷ due.AskTail ∷ [])
ask_form two k = form_if (is_name two k) (due.AskArguments ∷ due.Apply ∷ due.AskTail ∷ []) None

goal-form : (two : Bool) (k : TokenKind) → (forms two).takes due.AskGoals k ≡ goal_form two k
goal-form false = elim [ kind.Rules ↦ refl | _ ↦ refl ]
goal-form true = elim [ kind.Rules ↦ refl | _ ↦ refl ]

ask-form : (two : Bool) (k : TokenKind) → (forms two).takes due.AskTerm k ≡ ask_form two k
ask-form false = elim [ kind.Rules ↦ refl | _ ↦ refl ]
ask-form true = elim [ kind.Rules ↦ refl | _ ↦ refl ]

-- a form closes what its token opens
record Fits (n : ℕ) (form : List FormSymbol) : Type 0 where
  pub goals : all_of_goals form ≡ true
  pub close : all_close form ≡ n

fits-as : (n : ℕ) (form other : List FormSymbol) → Fits n form → ◌≡◌ {A = Option (List FormSymbol)} (Some form) (Some other) → Fits n other
fits-as n form other f e = let same : form ≡ other = cc in subst (λ (l : List FormSymbol). Fits n l) same f

fits-if : (b : Bool) (n : ℕ) (form other : List FormSymbol) → Fits n form → form_if b form None ≡ Some other → Fits n other
fits-if true n form other f e = fits-as n form other f e
fits-if false n form other f e = absurd (let g : ◌≡◌ {A = Option (List FormSymbol)} None (Some other) = e in cc)

goal-fits : (two : Bool) (k : TokenKind) (form : List FormSymbol) → goal_form two k ≡ Some form → Fits (part_opens k) form
goal-fits two kind.Variable form e = fits-as 0 (due.AskGoals ∷ []) form (record { goals = refl; close = refl }) e
goal-fits two kind.Slash form e = fits-as 0 (due.AskGoals ∷ []) form (record { goals = refl; close = refl }) e
goal-fits two kind.Hash form e = fits-as 0 (due.KeptName ∷ due.AskGoals ∷ []) form (record { goals = refl; close = refl }) e
goal-fits two kind.Integer form e = absurd (let g : ◌≡◌ {A = Option (List FormSymbol)} None (Some form) = e in cc)
goal-fits two kind.Text form e = absurd (let g : ◌≡◌ {A = Option (List FormSymbol)} None (Some form) = e in cc)
goal-fits two kind.Open form e = absurd (let g : ◌≡◌ {A = Option (List FormSymbol)} None (Some form) = e in cc)
goal-fits two k form e = fits-if (is_name two k) 1 (due.AskArguments ∷ due.Call ∷ due.AskGoals ∷ []) form (record { goals = refl; close = refl }) e

ask-fits : (two : Bool) (k : TokenKind) (form : List FormSymbol) → ask_form two k ≡ Some form → Fits (part_opens k) form
ask-fits two kind.Variable form e = fits-as 0 (due.AskTail ∷ []) form (record { goals = refl; close = refl }) e
ask-fits two kind.Integer form e = fits-as 0 (due.AskTail ∷ []) form (record { goals = refl; close = refl }) e
ask-fits two kind.Text form e = fits-if (two && true) 0 (due.AskTail ∷ []) form (record { goals = refl; close = refl }) e
ask-fits two kind.Less form e = fits-as 1 (due.AskTerm ∷ due.AskRow ∷ due.OneGreater ∷ due.Apply ∷ due.AskTail ∷ []) form (record { goals = refl; close = refl }) e
ask-fits two kind.Open form e = fits-as 0 (due.AskTerm ∷ due.OneClose ∷ due.AskTail ∷ []) form (record { goals = refl; close = refl }) e
ask-fits two kind.Hash form e = fits-as 0 (due.KeptName ∷ due.AskTail ∷ []) form (record { goals = refl; close = refl }) e
ask-fits two kind.Slash form e = absurd (let g : ◌≡◌ {A = Option (List FormSymbol)} None (Some form) = e in cc)
ask-fits two k form e = fits-if (is_name two k) 1 (due.AskArguments ∷ due.Apply ∷ due.AskTail ∷ []) form (record { goals = refl; close = refl }) e

first-of : (a b : Bool) → a && b ≡ true → a ≡ true
first-of true b e = refl
first-of false b e = cc

second-of : (a b : Bool) → a && b ≡ true → b ≡ true
second-of true b e = e
second-of false b e = cc

implied-by : (a b : Bool) → implies a b ≡ true → a ≡ true → b ≡ true
implied-by true b e f = e
implied-by false b e f = cc

is-none : (a : ℕ) → (a == 0) ≡ true → a ≡ 0
is-none a e = grind (arith, nat_tests)

quiet-fits : (two : Bool) (s : FormSymbol) (k : TokenKind) (form : List FormSymbol) → is_quiet s ≡ true → (forms two).takes s k ≡ Some form → Fits 0 form
quiet-fits two s k form is e =
    let both = row-holds closes_none (λ tr. begins two tr k) (rows_of s) form (implied-by (is_quiet s) _ (quiet-rows s) is) e in
    record { goals = first-of (all_of_goals form) _ both; close = is-none (all_close form) (second-of (all_of_goals form) _ both) }

form-fits : (two : Bool) (s : FormSymbol) (k : TokenKind) (form : List FormSymbol) → is_of_goals s ≡ true → (forms two).takes s k ≡ Some form → Fits (opens s k) form
form-fits two due.AskGoals k form is e = goal-fits two k form (sym (goal-form two k) ∙ e)
form-fits two due.AskTerm k form is e = ask-fits two k form (sym (ask-form two k) ∙ e)
form-fits two s k form is e = quiet-fits two s k form is e

goals-append : (form k : List FormSymbol) → all_of_goals form ≡ true → all_of_goals k ≡ true → all_of_goals (form ++ k) ≡ true
goals-append [] k e f = f
goals-append (s ∷ form) k e f = both (is_of_goals s) (all_of_goals form) (all_of_goals (form ++ k)) e (λ g. goals-append form k g f)
  where
    both : (a b c : Bool) → a && b ≡ true → (b ≡ true → c ≡ true) → a && c ≡ true
    both true b c e f = f e
    both false b c e f = cc

-- a symbol that is left out says what it closes
abbrev left_closes : Option (List FormAction) → ℕ
left_closes None = 0
left_closes (Some as') = actions_close as'

left-closes : (two : Bool) (s : FormSymbol) → left_closes ((forms two).leaves s) ≡ closes s
left-closes false = elim [ due.Input ↦ refl | _ ↦ refl ]
left-closes true = elim [ due.Input ↦ refl | _ ↦ refl ]

-- what takes a token closes nothing by itself
taking-closes : (two : Bool) (s : FormSymbol) (k : TokenKind) (form : List FormSymbol) → (forms two).takes s k ≡ Some form → closes s ≡ 0
taking-closes two due.Apply k form e = absurd (let f : ◌≡◌ {A = Option (List FormSymbol)} None (Some form) = e in cc)
taking-closes two due.Call k form e = absurd (let f : ◌≡◌ {A = Option (List FormSymbol)} None (Some form) = e in cc)
taking-closes two _ k form e = refl

goals-close : (two : Bool) (m : FormMode) (k : List FormSymbol) (ts : List Lexeme) (es : List (Event FormSymbol Lexeme FormAction)) → Derives (forms two) m k ts es → (v : Spellings) (w : Clauses) → all_of_goals k ≡ true →
    IsOpen (all_close k) w.reading → IsOpen 0 (performs clauses (events_told v es) w).reading
goals-close two m _ _ _ nothing v w is o = o
goals-close two m _ _ _ (taken {s} {k} {form} {t} {ts} {es} e d) v w is o =
    let told = meaning_of s t v in
    let first = first-of (is_of_goals s) (all_of_goals k) is in
    let takes : (forms two).takes s told.kind ≡ Some form = ap (λ kd. (forms two).takes s kd) (same-kind (role_of s t.kind) t v) ∙ e in
    let fit = form-fits two s told.kind form first takes in
    let close = fit.close in
    goals-close two ((forms two).pass t.kind m) (form ++ k) ts es d (with_token s t v) (clauses_event (Read s told) w)
    (goals-append form k fit.goals (second-of (is_of_goals s) (all_of_goals k) is))
    (opened-as (all_close k + opens s told.kind) (all_close (form ++ k)) _ (omega (arith, close, all-close form k))
    (read-open s told (all_close k) w first (opened-as (closes s + all_close k) (all_close k) w.reading (omega (arith, taking-closes two s told.kind form takes)) o)))
goals-close two m _ _ _ (left_out {s} {k} {ts} {as'} {es} e d) v w is o =
    let free = left-free two m s as' ((forms two).stays m s) refl e in
    let same : actions_close as' ≡ closes s = sym (ap left_closes free) ∙ left-closes two s in
    subst (λ (l : List (Event FormSymbol ValuedToken FormAction)). IsOpen 0 (performs clauses l w).reading) (sym (told-said as' es v))
    (said-open as' (events_told v es) (all_close k) w (opened-as (closes s + all_close k) (actions_close as' + all_close k) w.reading (omega (arith, same)) o)
    (λ x p. goals-close two m k ts es d v x (second-of (is_of_goals s) (all_of_goals k) is) p))

-- an ask of which nothing is open is whole
none-open : (rows : List OpenTerm) → length rows ≡ 0 → rows ≡ []
none-open [] e = refl
none-open (row ∷ rows) e = absurd (omega (arith, e))

open-ask : (c : Unfinished) → IsOpen 0 c → finished c ≡ finished_clause.Ask (ask_made c)
open-ask c o =
    ap (λ (rows : List OpenTerm). finished_in rows c) (none-open c.rows o.rows) ∙ ap (λ (h : Option Term). finished_by h c.asking c) o.head ∙ ap (λ (b : Bool). finished_by None b c) o.asking

pub goals-are-asks : GoalsAreAsks
goals-are-asks ts es v text =
    let made = performs clauses (events_told v es) (clauses_from true) in
    (ask_made made.reading, open-ask made.reading (goals-close true mode.Free GOALS.now ts es text v (clauses_from true) refl (record { asking = refl; head = refl; rows = refl })))
