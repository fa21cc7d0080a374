-- How many nodes the trees have that an input puts, and how many sessions it has.
use Rattle.std.specs.Prelude.{ℕ, ◌≤◌, ◌+◌, List, [], ◌∷◌, length, sum_by}
use Rattle.mars_grammar.specs.FormTable.{Event, Read, Say}
use Rattle.mars_grammar.specs.Building.{performs}
use Rattle.mars_script.specs.declared.script.Command.{Command}
use Rattle.mars_script.specs.declared.script.Command.TheVariants as command
use Rattle.mars_script.specs.declared.script.Script.{Script}
use Rattle.mars_script.specs.declared.script.Input.{Input}
use Rattle.mars_forms.specs.declared.symbol.FormSymbol.{FormSymbol}
use Rattle.mars_forms.specs.declared.symbol.FormAction.{FormAction}
use Rattle.mars_clauses.specs.declared.maker.ValuedToken.{ValuedToken}
use Rattle.mars_scripts.specs.Scripts.{scripts_making, nothing_told, input_told}

-- how many of the events are tokens
abbrev pub tokens_in : {S T A : Type 0} → List (Event S T A) → ℕ
tokens_in [] = 0
tokens_in (Read s t ∷ events) = tokens_in events + 1
tokens_in (Say a ∷ events) = tokens_in events

-- the nodes of the graph that a command puts
abbrev pub nodes_of_command : Command → ℕ
nodes_of_command (command.Put name graph root) = length graph
nodes_of_command _ = 0

-- likewise of the commands of a session, and of all sessions
abbrev pub nodes_of_script : Script → ℕ
nodes_of_script s = sum_by nodes_of_command s.commands

abbrev pub nodes_put : Input → ℕ
nodes_put input = sum_by nodes_of_script input.sessions

-- whatever the events are, the trees that they put have together at most a node a token
abbrev pub MakesSmallInput : Type 0
MakesSmallInput = (names : List (List ℕ)) (events : List (Event FormSymbol ValuedToken FormAction)) → nodes_put (input_told names (performs scripts_making events nothing_told)) ≤ tokens_in events

-- whatever the events are, there are at most as many sessions as tokens
abbrev pub MakesFewSessions : Type 0
MakesFewSessions = (names : List (List ℕ)) (events : List (Event FormSymbol ValuedToken FormAction)) → length (input_told names (performs scripts_making events nothing_told)).sessions ≤ tokens_in events
