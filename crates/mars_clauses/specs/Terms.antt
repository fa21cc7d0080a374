-- What the events of one rule or ask make: its terms and goals so far, its variables by first appearance, its kept names.
use Rattle.std.specs.Prelude.{ℕ, ℤ, pos, negsuc, List, [], ◌∷◌, ◌++◌, ◌==◌, Option, Some, None, Bool, true, false, if◌then◌else◌, length, reverse}
use Rattle.std.specs.List.{list_any, position_or_len}
use Rattle.mars_grammar.specs.FormTable.{Event, Read, Say}
use Rattle.mars_tree.specs.declared.label.NameId.{NameId}
use Rattle.mars_term.specs.declared.term.Term.{Term, Var, Int, Name, Tup, Dot, Kept, Str}
use Rattle.mars_term.specs.declared.clause.Goal.{Goal}
use Rattle.mars_term.specs.declared.clause.Goal.TheVariants.{Call, Cut}
use Rattle.mars_term.specs.declared.clause.Rule.{Rule}
use Rattle.mars_term.specs.declared.clause.Ask.{Ask}
use Rattle.mars_forms.specs.declared.lexeme.TokenKind.{TokenKind}
use Rattle.mars_forms.specs.declared.lexeme.TokenKind.TheVariants as kind
use Rattle.mars_forms.specs.declared.symbol.FormSymbol.{FormSymbol}
use Rattle.mars_forms.specs.declared.symbol.FormSymbol.TheVariants as due
use Rattle.mars_forms.specs.declared.symbol.FormAction.{FormAction}
use Rattle.mars_forms.specs.declared.symbol.FormAction.TheVariants as action
use Rattle.mars_clauses.specs.declared.maker.ValuedToken.{ValuedToken}
use Rattle.mars_clauses.specs.declared.terms.OpenTerm.{OpenTerm}
use Rattle.mars_clauses.specs.declared.making.FinishedClause.{FinishedClause}
use Rattle.mars_clauses.specs.declared.making.FinishedClause.TheVariants as finished_clause
use Rattle.mars_clauses.specs.Short.{in_32_bits}

-- a variable's number: its place among those so far, or the next one
abbrev pub number_of : NameId → List NameId → ℕ
number_of name vars = position_or_len (λ var. name.0 == var.0) vars

-- the variables with this one, which goes last where it is new
abbrev pub vars_with : NameId → List NameId → List NameId
vars_with name vars = if list_any (λ var. name.0 == var.0) vars then vars else vars ++ name ∷ []

-- A rule or an ask that is being read. The innermost open name or tuple comes first; a term that is in none is a goal.
pub record Unfinished : Type 0 where
  pub asking : Bool
  pub most : Option ℕ
  pub vars : List NameId
  pub kept : List NameId
  pub head : Option Term
  pub goals : List Goal
  pub rows : List OpenTerm

-- a name, or nothing for a tuple, and its arguments so far
abbrev pub open_term : Option NameId → List Term → OpenTerm
open_term opening terms = record { opening = opening; terms = terms }

-- the beginning of a rule or an ask
abbrev pub begun : Bool → List OpenTerm → Unfinished
begun asking rows = record { asking = asking; most = None; vars = []; kept = []; head = None; goals = []; rows = rows }

-- an argument more
abbrev pub with_argument : Term → OpenTerm → OpenTerm
with_argument term row = open_term row.opening (row.terms ++ term ∷ [])

-- a term is whole: it is an argument, or a goal where nothing is open
abbrev pub given_in : List OpenTerm → Term → Unfinished → Unfinished
given_in [] term c = record c { goals = c.goals ++ Call term ∷ [] }
given_in (row ∷ outer) term c = record c { rows = with_argument term row ∷ outer }

abbrev pub given : Term → Unfinished → Unfinished
given term c = given_in c.rows term c

-- a name or a tuple begins
abbrev pub with_open : Option NameId → Unfinished → Unfinished
with_open opening c = record c { rows = open_term opening [] ∷ c.rows }

-- the term of a name or a tuple whose arguments are whole
abbrev pub term_made : Option NameId → List Term → Term
term_made (Some name) terms = Name name terms
term_made None terms = Tup terms

abbrev pub applied_in : List OpenTerm → Unfinished → Unfinished
applied_in [] c = c
applied_in (row ∷ outer) c = given (term_made row.opening row.terms) (record c { rows = outer })

abbrev pub with_applied : Unfinished → Unfinished
with_applied c = applied_in c.rows c

-- the last two of these terms, which are listed backwards, as a dot
abbrev pub joined_dot : List Term → List Term
joined_dot (right ∷ left ∷ terms) = Dot left right ∷ terms
joined_dot terms = terms

abbrev pub paired : List Term → List Term
paired terms = reverse (joined_dot (reverse terms))

-- both sides of a dot are whole
abbrev pub paired_in : List OpenTerm → Unfinished → Unfinished
paired_in [] c = c
paired_in (row ∷ outer) c = record c { rows = open_term row.opening (paired row.terms) ∷ outer }

-- a head is whole; an ask has none
abbrev pub head_made : Option NameId → List Term → Option Term
head_made (Some name) terms = Some (Name name terms)
head_made None terms = None

abbrev pub headed_in : List OpenTerm → Unfinished → Unfinished
headed_in [] c = c
headed_in (row ∷ outer) c = record c { head = head_made row.opening row.terms; rows = outer }

-- a variable, by its number among those of this rule or ask; numbers and counts here are in 32 bits
abbrev pub with_var : NameId → Unfinished → Unfinished
with_var name c = given (Var (in_32_bits (number_of name c.vars))) (record c { vars = vars_with name c.vars })

-- a kept name has the next number; a rule has none
abbrev pub with_kept : NameId → Unfinished → Unfinished
with_kept name c = if c.asking then given (Kept (in_32_bits (length c.kept))) (record c { kept = c.kept ++ name ∷ [] }) else c

-- a cut is a goal
abbrev pub with_cut : Unfinished → Unfinished
with_cut c = record c { goals = c.goals ++ Cut ∷ [] }

-- A token of a goal or a term. Round brackets say nothing, and `#` is said by the name after it; every other word is a name.
abbrev pub with_part : TokenKind → ValuedToken → Unfinished → Unfinished
with_part kind.Variable t c = with_var t.name c
with_part kind.Integer t c = given (Int t.number) c
with_part kind.Text t c = given (Str t.name) c
with_part kind.Less t c = with_open None c
with_part kind.Slash t c = with_cut c
with_part kind.Open t c = c
with_part kind.Hash t c = c
with_part _ t c = with_open (Some t.name) c

-- an integer as a number of answers, 0 where it is negative
abbrev pub amount : ℤ → ℕ
amount (pos n) = n
amount (negsuc n) = 0

-- an ask begins with its word
abbrev pub is_ask_word : TokenKind → Bool
is_ask_word kind.AskWord = true
is_ask_word _ = false

-- What is read of a rule or an ask after a token that a symbol takes. Symbols of a `put` say nothing here.
abbrev pub clause_read : FormSymbol → ValuedToken → Unfinished → Unfinished
clause_read due.RuleList t c = begun false (open_term (Some t.name) [] ∷ [])
clause_read due.Commands t c = begun (is_ask_word t.kind) []
clause_read due.Goals t c = with_part t.kind t c
clause_read due.AskGoals t c = with_part t.kind t c
clause_read due.Term t c = with_part t.kind t c
clause_read due.AskTerm t c = with_part t.kind t c
clause_read due.KeptName t c = with_kept t.name c
clause_read due.AskLimit t c = record c { most = Some (amount t.number) }
clause_read _ t c = c

-- likewise after an action
abbrev pub clause_said : FormAction → Unfinished → Unfinished
clause_said action.Apply c = with_applied c
clause_said action.Call c = with_applied c
clause_said action.Pair c = paired_in c.rows c
clause_said action.Head c = if c.asking then c else headed_in c.rows c
clause_said action.Define c = c

-- after an event
abbrev pub clause_event : Event FormSymbol ValuedToken FormAction → Unfinished → Unfinished
clause_event (Read s t) c = clause_read s t c
clause_event (Say a) c = clause_said a c

-- the rule with this head, and the ask, when all is read
abbrev pub rule_made : Term → Unfinished → Rule
rule_made head c = record { head = head; body = c.goals; vars = in_32_bits (length c.vars) }

abbrev pub ask_made : Unfinished → Ask
ask_made c = record { most = c.most; goals = c.goals; vars = c.vars; kept = c.kept }

-- a rule has a head, and an ask was begun by its word
abbrev pub finished_by : Option Term → Bool → Unfinished → FinishedClause
finished_by (Some head) false c = finished_clause.Rule (rule_made head c)
finished_by None true c = finished_clause.Ask (ask_made c)
finished_by _ _ c = finished_clause.Neither

-- nothing may be open
abbrev pub finished_in : List OpenTerm → Unfinished → FinishedClause
finished_in [] c = finished_by c.head c.asking c
finished_in (row ∷ outer) c = finished_clause.Neither

-- The rule or the ask that is whole, if it is one.
abbrev pub finished : Unfinished → FinishedClause
finished c = finished_in c.rows c
