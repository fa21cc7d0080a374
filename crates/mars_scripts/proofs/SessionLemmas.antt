-- A token begins at most one session.
use Rattle.std.proofs.Common.{◌≡◌, ◌≤◌, ◌+◌, ℕ, List, [], ◌∷◌, length, length-append, refl, ap, sym, arith, Option, Some, None}
use Rattle.mars_grammar.specs.FormTable.{Event, Read, Say}
use Rattle.mars_grammar.specs.Building.{performs}
use Rattle.mars_tree.specs.declared.label.NameId.{NameId}
use Rattle.mars_term.specs.declared.clause.Rule.{Rule}
use Rattle.mars_script.specs.declared.script.Command.{Command}
use Rattle.mars_script.specs.declared.script.Command.TheVariants as command
use Rattle.mars_script.specs.declared.script.Script.{Script}
use Rattle.mars_forms.specs.declared.lexeme.TokenKind.{TokenKind}
use Rattle.mars_forms.specs.declared.lexeme.TokenKind.TheVariants as kind
use Rattle.mars_forms.specs.declared.symbol.FormSymbol.{FormSymbol}
use Rattle.mars_forms.specs.declared.symbol.FormSymbol.TheVariants as due
use Rattle.mars_forms.specs.declared.symbol.FormAction.{FormAction}
use Rattle.mars_clauses.specs.declared.maker.ValuedToken.{ValuedToken}
use Rattle.mars_clauses.specs.declared.making.FinishedClause.{FinishedClause}
use Rattle.mars_clauses.specs.declared.making.FinishedClause.TheVariants as finished_clause
use Rattle.mars_clauses.specs.Terms.{clause_read, finished}
use Rattle.mars_scripts.specs.Trees.{tree_event}
use Rattle.mars_scripts.specs.Scripts.{Scripts, nothing_told, sessions_with, with_session_whole, with_next_name, with_rule, session_with, with_command, command_told, with_whole, script_read, scripts_event, scripts_making}
use Rattle.mars_scripts.specs.Sizes.{tokens_in, MakesFewSessions}

-- one where a session is being read
abbrev being_read : Option Script → ℕ
being_read None = 0
being_read (Some session) = 1

-- the sessions so far
abbrev sessions_so_far : Scripts → ℕ
sessions_so_far v = length v.sessions + being_read v.session

-- a session that is whole
sessions-count : (o : Option Script) (sessions : List Script) → length (sessions_with o sessions) ≡ length sessions + being_read o
sessions-count None sessions = omega arith
sessions-count (Some session) sessions = omega (arith, length-append sessions (session ∷ []))

whole-count : (v : Scripts) → sessions_so_far (with_session_whole v) ≡ sessions_so_far v
whole-count v = omega (arith, sessions-count v.session v.sessions)

-- a session that begins
name-count : (k : TokenKind) (name : NameId) (v : Scripts) → sessions_so_far (with_next_name k name v) ≤ sessions_so_far v + 1
name-count kind.Session name v = omega arith
name-count _ name v = omega arith

-- rules and commands
rule-count : (o : Option Script) (rule : Rule) (v : Scripts) → v.session ≡ o → sessions_so_far (with_rule o rule v) ≡ sessions_so_far v
rule-count None rule v e = refl
rule-count (Some session) rule v e = ap (λ (o : Option Script). length v.sessions + being_read o) (sym e)

session-count : (c : Option Command) (o : Option Script) → being_read (session_with c o) ≡ being_read o
session-count None None = refl
session-count None (Some session) = refl
session-count (Some c) None = refl
session-count (Some c) (Some session) = refl

command-count : (c : Option Command) (v : Scripts) → sessions_so_far (with_command c v) ≡ sessions_so_far v
command-count c v = ap (λ n. length v.sessions + n) (session-count c v.session)

end-count : (f : FinishedClause) (v : Scripts) → sessions_so_far (with_whole f v) ≡ sessions_so_far v
end-count (finished_clause.Rule rule) v = rule-count v.session rule v refl
end-count (finished_clause.Ask ask) v = command-count (Some (command.Ask ask)) v
end-count finished_clause.Neither v = command-count (command_told v.word v) v

-- what a token tells
script-count : (s : FormSymbol) (t : ValuedToken) (v : Scripts) → sessions_so_far (script_read s t v) ≤ sessions_so_far v + 1
script-count due.Sessions t v = omega (arith, whole-count v)
script-count due.OneName t v = name-count v.word t.name v
script-count due.OneSemicolon t v = omega (arith, end-count (finished v.clause) v)
script-count due.OneEnd t v = omega (arith, whole-count v)
script-count _ t v = omega arith

events-count : (events : List (Event FormSymbol ValuedToken FormAction)) (v : Scripts) → sessions_so_far (performs scripts_making events v) ≤ sessions_so_far v + tokens_in events
events-count [] v = omega arith
events-count (Read s t ∷ events) v =
    omega (arith, events-count events (scripts_event (Read s t) v), script-count s t (record v { clause = clause_read s t v.clause; tree = tree_event (Read s t) v.tree }))
events-count (Say a ∷ events) v = omega (arith, events-count events (scripts_event (Say a) v))

pub makes-few_sessions : MakesFewSessions
makes-few_sessions names events = omega (arith, events-count events nothing_told)
