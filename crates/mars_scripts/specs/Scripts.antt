-- What the events of an input say, as a fold: its version, its rules, and its sessions with their own rules and commands.
use Rattle.std.specs.Prelude.{ℕ, List, [], ◌∷◌, ◌++◌, Option, Some, None, false}
use Rattle.mars_grammar.specs.FormTable.{Event, Read, Say}
use Rattle.mars_grammar.specs.Building.{Build}
use Rattle.mars_tree.specs.declared.label.NameId.{NameId}
use Rattle.mars_term.specs.declared.clause.Rule.{Rule}
use Rattle.mars_term.specs.declared.clause.Version.{Version}
use Rattle.mars_term.specs.declared.clause.Version.TheVariants as version
use Rattle.mars_script.specs.declared.script.Command.{Command}
use Rattle.mars_script.specs.declared.script.Command.TheVariants as command
use Rattle.mars_script.specs.declared.script.Script.{Script}
use Rattle.mars_script.specs.declared.script.Input.{Input}
use Rattle.mars_forms.specs.declared.lexeme.TokenKind.{TokenKind}
use Rattle.mars_forms.specs.declared.lexeme.TokenKind.TheVariants as kind
use Rattle.mars_forms.specs.declared.symbol.FormSymbol.{FormSymbol}
use Rattle.mars_forms.specs.declared.symbol.FormSymbol.TheVariants as due
use Rattle.mars_forms.specs.declared.symbol.FormAction.{FormAction}
use Rattle.mars_graphs.specs.Making.{made_graph, made_root}
use Rattle.mars_clauses.specs.declared.maker.ValuedToken.{ValuedToken}
use Rattle.mars_clauses.specs.declared.limits.OverLimit.{OverLimit}
use Rattle.mars_clauses.specs.declared.making.FinishedClause.{FinishedClause}
use Rattle.mars_clauses.specs.declared.making.FinishedClause.TheVariants as finished_clause
use Rattle.mars_clauses.specs.Terms.{Unfinished, begun, clause_read, clause_said, finished}
use Rattle.mars_scripts.specs.declared.trees.TreeMaker.{TreeMaker}
use Rattle.mars_scripts.specs.Trees.{no_tree, tree_event, tree_over}

-- What is told so far: the version; the input's own rules; the sessions that are whole, and the one that is being read; the word that
-- began the session or command at hand, and the last two of its names; the rule or ask, and the tree, that is being read.
pub record Scripts : Type 0 where
  pub version : Version
  pub rules : List Rule
  pub sessions : List Script
  pub session : Option Script
  pub word : TokenKind
  pub before : NameId
  pub last : NameId
  pub clause : Unfinished
  pub tree : TreeMaker

-- the name with the first number
abbrev pub first_name : NameId
first_name = record { 0 = 0 }

-- nothing is told yet
abbrev pub nothing_told : Scripts
nothing_told = record {
  version = version.One;
  rules = [];
  sessions = [];
  session = None;
  word = kind.Rules;
  before = first_name;
  last = first_name;
  clause = begun false [];
  tree = no_tree;
}

-- the version of an input, by its first token
abbrev pub version_of : TokenKind → Version
version_of kind.RulesTwo = version.Two
version_of _ = version.One

-- a session that has begun
abbrev pub new_session : NameId → Script
new_session name = record { name = name; rules = []; commands = [] }

-- the session that is being read is whole
abbrev pub sessions_with : Option Script → List Script → List Script
sessions_with None sessions = sessions
sessions_with (Some session) sessions = sessions ++ session ∷ []

abbrev pub with_session_whole : Scripts → Scripts
with_session_whole v = record v { sessions = sessions_with v.session v.sessions; session = None }

-- one more name of a command
abbrev pub collected : NameId → Scripts → Scripts
collected name v = record v { before = v.last; last = name }

-- a name: the session's, or one more of a command
abbrev pub with_next_name : TokenKind → NameId → Scripts → Scripts
with_next_name kind.Session name v = record v { session = Some (new_session name) }
with_next_name _ name v = collected name v

-- a rule: before the first session it is the input's own
abbrev pub with_rule : Option Script → Rule → Scripts → Scripts
with_rule None rule v = record v { rules = v.rules ++ rule ∷ [] }
with_rule (Some session) rule v = record v { session = Some (record session { rules = session.rules ++ rule ∷ [] }) }

-- a command of the session; no text has one before the first session, where it would be dropped
abbrev pub session_with : Option Command → Option Script → Option Script
session_with (Some command) (Some session) = Some (record session { commands = session.commands ++ command ∷ [] })
session_with _ session = session

abbrev pub with_command : Option Command → Scripts → Scripts
with_command command v = record v { session = session_with command v.session }

-- the tree that is read under the last name
abbrev pub put_told : Scripts → Command
put_told v = command.Put v.last (made_graph v.tree.graph) (made_root v.tree.graph)

-- nothing of a tree is read
abbrev pub without_tree : Scripts → Scripts
without_tree v = record v { tree = no_tree }

-- The command that its word began, but for an ask, by its names. In each text it has as many names as its word wants; where it had fewer, earlier
-- names would take their place.
abbrev pub command_told : TokenKind → Scripts → Option Command
command_told kind.PutWord v = Some (put_told v)
command_told kind.KeepWord v = Some (command.Keep v.before v.last)
command_told kind.SameWord v = Some (command.Same v.before v.last)
command_told kind.PinWord v = Some (command.Pin v.before v.last)
command_told kind.ShowWord v = Some (command.Show v.last)
command_told kind.DropWord v = Some (command.Drop v.last)
command_told kind.SweepWord v = Some command.Sweep
command_told kind.CountWord v = Some command.Count
command_told _ v = None

-- a rule or a command is whole
abbrev pub with_whole : FinishedClause → Scripts → Scripts
with_whole (finished_clause.Rule rule) v = with_rule v.session rule v
with_whole (finished_clause.Ask ask) v = with_command (Some (command.Ask ask)) v
with_whole finished_clause.Neither v = with_command (command_told v.word v) v

-- a rule or a command ends with its semicolon
abbrev pub with_ended : Scripts → Scripts
with_ended v = without_tree (record (with_whole (finished v.clause) v) { clause = begun false [] })

-- What a token tells that a symbol takes, beside what it tells of a rule, an ask or a tree.
abbrev pub script_read : FormSymbol → ValuedToken → Scripts → Scripts
script_read due.Input t v = record v { version = version_of t.kind }
script_read due.Sessions t v = record (with_session_whole v) { word = t.kind }
script_read due.Commands t v = record v { word = t.kind }
script_read due.OneName t v = with_next_name v.word t.name v
script_read due.OneVariable t v = collected t.name v
script_read due.OneSemicolon t v = with_ended v
script_read due.OneEnd t v = with_session_whole v
script_read _ t v = v

-- after an event
abbrev pub scripts_event : Event FormSymbol ValuedToken FormAction → Scripts → Scripts
scripts_event (Read s t) v = script_read s t (record v { clause = clause_read s t v.clause; tree = tree_event (Read s t) v.tree })
scripts_event (Say a) v = record v { clause = clause_said a v.clause; tree = tree_event (Say a) v.tree }

-- What an input says, and the limit that a variable of a tree has one definition.
abbrev pub scripts_making : Build (Event FormSymbol ValuedToken FormAction) Scripts OverLimit
scripts_making = record { perform = scripts_event; refuses = λ v. tree_over v.tree }

-- the whole of what is told, with the names of the text
abbrev pub input_told : List (List ℕ) → Scripts → Input
input_told names v = record { version = v.version; names = names; rules = v.rules; sessions = v.sessions }
