-- What an input says is well formed, and each tree that it puts is made by the steps that its events tell.
use Rattle.std.specs.Prelude.{◌≡◌, ◌<◌, ◌^◌, ℕ, List, length, All}
use Rattle.mars_grammar.specs.FormTable.{Event, Read}
use Rattle.mars_grammar.specs.Building.{performs}
use Rattle.mars_term.specs.Clauses.{IsRule, IsAsk}
use Rattle.mars_script.specs.declared.script.Command.{Command}
use Rattle.mars_script.specs.declared.script.Command.TheVariants as command
use Rattle.mars_script.specs.declared.script.Script.{Script}
use Rattle.mars_script.specs.declared.script.Input.{Input}
use Rattle.mars_forms.specs.declared.symbol.FormSymbol.{FormSymbol}
use Rattle.mars_forms.specs.declared.symbol.FormSymbol.TheVariants as due
use Rattle.mars_forms.specs.declared.symbol.FormAction.{FormAction}
use Rattle.mars_graphs.specs.Making.{makes_all}
use Rattle.mars_clauses.specs.declared.maker.ValuedToken.{ValuedToken}
use Rattle.mars_scripts.specs.declared.trees.TreeMaker.{TreeMaker}
use Rattle.mars_scripts.specs.Trees.{steps_told, tree_making}
use Rattle.mars_scripts.specs.Scripts.{Scripts, scripts_making, nothing_told, input_told}

-- the ask of a command is well formed, and the root of a tree that is put is a node
abbrev pub IsWellFormedCommand : Command → Type 0
IsWellFormedCommand (command.Put name graph root) = root < length graph
IsWellFormedCommand (command.Ask ask) = IsAsk ask
IsWellFormedCommand _ = Unit {0}

pub record IsWellFormedScript (s : Script) : Type 0 where
  pub rules : All IsRule s.rules
  pub commands : All IsWellFormedCommand s.commands

-- so are all rules and commands of an input
pub record IsWellFormedInput (input : Input) : Type 0 where
  pub rules : All IsRule input.rules
  pub sessions : All IsWellFormedScript input.sessions

-- whatever the events are, if there are fewer than 2^32
abbrev pub MakesWellFormedInput : Type 0
MakesWellFormedInput =
    (names : List (List ℕ)) (events : List (Event FormSymbol ValuedToken FormAction)) → length events < 2 ^ 32 → IsWellFormedInput (input_told names (performs scripts_making events nothing_told))

-- the graph of a tree is what its events' steps make
abbrev pub MakesTold : Type 0
MakesTold = (events : List (Event FormSymbol ValuedToken FormAction)) (v : TreeMaker) → (performs tree_making events v).graph ≡ makes_all v.graph (steps_told events)

-- an event that doesn't end a rule or a command
abbrev pub IsNoEnd : Event FormSymbol ValuedToken FormAction → Type 0
IsNoEnd (Read due.OneSemicolon t) = ⊥
IsNoEnd _ = Unit {0}

-- up to its end, the tree of a command is what its events tell
abbrev pub TellsTree : Type 0
TellsTree = (events : List (Event FormSymbol ValuedToken FormAction)) (v : Scripts) → All IsNoEnd events → (performs scripts_making events v).tree ≡ performs tree_making events v.tree
