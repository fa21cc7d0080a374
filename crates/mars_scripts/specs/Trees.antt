-- The steps of a tree that the events of a text tell, and the graph that they make.
use Rattle.std.specs.Prelude.{List, [], ◌∷◌, Option, Some, None}
use Rattle.mars_grammar.specs.FormTable.{Event, Read, Say}
use Rattle.mars_grammar.specs.Building.{Build}
use Rattle.mars_tree.specs.declared.label.Label.TheVariants as label
use Rattle.mars_forms.specs.declared.lexeme.TokenKind.{TokenKind}
use Rattle.mars_forms.specs.declared.lexeme.TokenKind.TheVariants as kind
use Rattle.mars_forms.specs.declared.symbol.FormSymbol.{FormSymbol}
use Rattle.mars_forms.specs.declared.symbol.FormSymbol.TheVariants as due
use Rattle.mars_forms.specs.declared.symbol.FormAction.{FormAction}
use Rattle.mars_forms.specs.declared.symbol.FormAction.TheVariants as action
use Rattle.mars_graphs.specs.declared.maker.Head.TheVariants as head
use Rattle.mars_graphs.specs.Steps.{TreeStep, Variable, Leaf, Open, Close, Equate, Define}
use Rattle.mars_graphs.specs.Making.{Making, nothing_made, makes}
use Rattle.mars_clauses.specs.declared.maker.ValuedToken.{ValuedToken}
use Rattle.mars_clauses.specs.declared.limits.InputLimit.TheVariants as limit
use Rattle.mars_clauses.specs.declared.limits.OverLimit.{OverLimit}
use Rattle.mars_clauses.specs.Limits.{over_if}
use Rattle.mars_scripts.specs.declared.trees.TreeMaker.{TreeMaker}

-- what a token of a term tells: round brackets tell nothing, and every other word is a name
abbrev pub part_told : TokenKind → ValuedToken → Option TreeStep
part_told kind.Variable t = Some (Variable t.name)
part_told kind.Placed t = Some (Variable t.name)
part_told kind.Integer t = Some (Leaf (label.Int t.number))
part_told kind.Text t = Some (Leaf (label.Str t.name))
part_told kind.Less t = Some (Open head.Tuple)
part_told kind.Open t = None
part_told _ t = Some (Open (head.Name t.name))

-- What a token tells that a symbol takes: tokens of terms, dots after a first kid, variables of definitions. Others tell nothing.
abbrev pub token_told : FormSymbol → ValuedToken → Option TreeStep
token_told due.PutTerm t = part_told t.kind t
token_told due.DefinedTerm t = part_told t.kind t
token_told due.PutTail t = Some (Open head.Dot)
token_told due.BracketTail t = Some (Open head.Dot)
token_told due.OneDot t = Some (Open head.Dot)
token_told due.Definition t = Some (Equate t.name)
token_told _ t = None

-- what an action tells: a name, a tuple or a dot is whole, or a definition
abbrev pub action_told : FormAction → Option TreeStep
action_told action.Apply = Some Close
action_told action.Pair = Some Close
action_told action.Define = Some Define
action_told _ = None

-- a step, where there is one, before others
abbrev pub step_before : Option TreeStep → List TreeStep → List TreeStep
step_before None steps = steps
step_before (Some step) steps = step ∷ steps

-- The steps that events tell, in order.
abbrev pub steps_told : List (Event FormSymbol ValuedToken FormAction) → List TreeStep
steps_told [] = []
steps_told (Read s t ∷ events) = step_before (token_told s t) (steps_told events)
steps_told (Say a ∷ events) = step_before (action_told a) (steps_told events)

-- what is made by a step, where there is one
abbrev pub made_by_step : Option TreeStep → Making → Making
made_by_step None m = m
made_by_step (Some step) m = makes m step

-- nothing is read yet
abbrev pub no_tree : TreeMaker
no_tree = record { graph = nothing_made; place = 0 }

-- the tree with what a step makes
abbrev pub with_step : Option TreeStep → TreeMaker → TreeMaker
with_step step v = record { graph = made_by_step step v.graph; place = v.place }

-- after an event
abbrev pub tree_event : Event FormSymbol ValuedToken FormAction → TreeMaker → TreeMaker
tree_event (Read s t) v = with_step (token_told s t) (record { graph = v.graph; place = t.start })
tree_event (Say a) v = with_step (action_told a) v

-- a variable that is defined twice, at the last token: the second definition's variable, where the limit is first passed
abbrev pub tree_over : TreeMaker → Option OverLimit
tree_over v = over_if v.graph.twice limit.Twice v.place

-- Making the graph of a tree, and the limit that a variable has one definition.
abbrev pub tree_making : Build (Event FormSymbol ValuedToken FormAction) TreeMaker OverLimit
tree_making = record { perform = tree_event; refuses = tree_over }
