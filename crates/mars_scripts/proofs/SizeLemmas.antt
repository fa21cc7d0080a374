-- What is told of trees grows by at most a node a token.
use Rattle.std.proofs.Common.{◌≡◌, ◌≤◌, ◌+◌, ℕ, List, [], ◌∷◌, ◌++◌, refl, ap, sym, arith, Option, Some, None}
use Rattle.std.specs.Prelude.{sum_by, fold}
use Rattle.mars_grammar.specs.FormTable.{Event, Read, Say}
use Rattle.mars_grammar.specs.Building.{performs}
use Rattle.mars_tree.specs.declared.label.NameId.{NameId}
use Rattle.mars_term.specs.declared.clause.Rule.{Rule}
use Rattle.mars_script.specs.declared.script.Command.{Command}
use Rattle.mars_script.specs.declared.script.Command.TheVariants as command
use Rattle.mars_script.specs.declared.script.Script.{Script}
use Rattle.mars_forms.specs.declared.lexeme.TokenKind.{TokenKind}
use Rattle.mars_forms.specs.declared.lexeme.TokenKind.TheVariants as kind
use Rattle.mars_forms.specs.declared.symbol.FormSymbol.{FormSymbol}
use Rattle.mars_forms.specs.declared.symbol.FormSymbol.TheVariants as due
use Rattle.mars_forms.specs.declared.symbol.FormAction.{FormAction}
use Rattle.mars_forms.specs.declared.symbol.FormAction.TheVariants as action
use Rattle.mars_graphs.specs.Steps.{TreeStep}
use Rattle.mars_graphs.specs.Making.{Making}
use Rattle.mars_graphs.specs.MakingLaws.{token_count}
use Rattle.mars_graphs.proofs.Sizes.{size_of, all-size, graph-size}
use Rattle.mars_clauses.specs.declared.maker.ValuedToken.{ValuedToken}
use Rattle.mars_clauses.specs.declared.making.FinishedClause.{FinishedClause}
use Rattle.mars_clauses.specs.declared.making.FinishedClause.TheVariants as finished_clause
use Rattle.mars_clauses.specs.Terms.{clause_read, finished}
use Rattle.mars_scripts.specs.Trees.{token_told, action_told, made_by_step, part_told, tree_event}
use Rattle.mars_scripts.specs.Scripts.{Scripts, nothing_told, sessions_with, with_session_whole, with_next_name, with_rule, session_with, with_command, command_told, with_whole, script_read, scripts_event, scripts_making}
use Rattle.mars_scripts.specs.Sizes.{tokens_in, nodes_of_command, nodes_of_script, MakesSmallInput}

-- a sum over a list with one more
fold-push : {X : Type 0} (f : X → ℕ) (a : ℕ) (xs : List X) (x : X) → fold (λ n y. n + f y) a (xs ++ x ∷ []) ≡ fold (λ n y. n + f y) a xs + f x
fold-push f a [] x = refl
fold-push f a (y ∷ xs) x = fold-push f (a + f y) xs x

sum-push : {X : Type 0} (f : X → ℕ) (xs : List X) (x : X) → sum_by f (xs ++ x ∷ []) ≡ sum_by f xs + f x
sum-push f xs x = fold-push f 0 xs x

-- the nodes of the session that is being read, and of a command that there may be
abbrev nodes_read : Option Script → ℕ
nodes_read None = 0
nodes_read (Some session) = nodes_of_script session

abbrev nodes_given : Option Command → ℕ
nodes_given None = 0
nodes_given (Some c) = nodes_of_command c

-- the nodes of all sessions so far
abbrev nodes_so_far : Scripts → ℕ
nodes_so_far v = sum_by nodes_of_script v.sessions + nodes_read v.session

-- a session that is whole
sessions-nodes : (o : Option Script) (sessions : List Script) → sum_by nodes_of_script (sessions_with o sessions) ≡ sum_by nodes_of_script sessions + nodes_read o
sessions-nodes None sessions = omega arith
sessions-nodes (Some session) sessions = sum-push nodes_of_script sessions session

whole-nodes : (v : Scripts) → nodes_so_far (with_session_whole v) ≡ nodes_so_far v
whole-nodes v = omega (arith, sessions-nodes v.session v.sessions)

-- these, and what is made of the tree that is being read
abbrev told_size : Scripts → ℕ
told_size v = nodes_so_far v + size_of v.tree.graph

-- a session that begins
name-size : (k : TokenKind) (name : NameId) (v : Scripts) → told_size (with_next_name k name v) ≤ told_size v
name-size kind.Session name v = omega arith
name-size _ name v = omega arith

-- rules and commands
rule-nodes : (o : Option Script) (rule : Rule) (v : Scripts) → v.session ≡ o → nodes_so_far (with_rule o rule v) ≡ nodes_so_far v
rule-nodes None rule v e = refl
rule-nodes (Some session) rule v e = ap (λ (o : Option Script). sum_by nodes_of_script v.sessions + nodes_read o) (sym e)

session-nodes : (c : Option Command) (o : Option Script) → nodes_read (session_with c o) ≤ nodes_read o + nodes_given c
session-nodes None None = omega arith
session-nodes None (Some session) = omega arith
session-nodes (Some c) None = omega arith
session-nodes (Some c) (Some session) = omega (arith, sum-push nodes_of_command session.commands c)

command-nodes : (c : Option Command) (v : Scripts) → nodes_so_far (with_command c v) ≤ nodes_so_far v + nodes_given c
command-nodes c v = omega (arith, session-nodes c v.session)

told-nodes : (k : TokenKind) (v : Scripts) → nodes_given (command_told k v) ≤ size_of v.tree.graph + 1
told-nodes kind.PutWord v = graph-size v.tree.graph
told-nodes _ v = omega arith

end-nodes : (f : FinishedClause) (v : Scripts) → nodes_so_far (with_whole f v) ≤ nodes_so_far v + (size_of v.tree.graph + 1)
end-nodes (finished_clause.Rule rule) v = omega (arith, rule-nodes v.session rule v refl)
end-nodes (finished_clause.Ask ask) v = omega (arith, command-nodes (Some (command.Ask ask)) v)
end-nodes finished_clause.Neither v = omega (arith, command-nodes (command_told v.word v) v, told-nodes v.word v)

-- a step of a tree, by whether it is a token
abbrev step_cost : Option TreeStep → ℕ
step_cost None = 0
step_cost (Some step) = token_count (step ∷ [])

step-size : (step : Option TreeStep) (m : Making) → size_of (made_by_step step m) ≤ size_of m + step_cost step
step-size None m = omega arith
step-size (Some step) m = all-size (step ∷ []) m

-- a command that ends takes a token
abbrev end_cost : FormSymbol → ℕ
end_cost due.OneSemicolon = 1
end_cost _ = 0

part-cost : (k : TokenKind) (t : ValuedToken) → step_cost (part_told k t) ≤ 1
part-cost kind.Variable t = omega arith
part-cost kind.Placed t = omega arith
part-cost kind.Integer t = omega arith
part-cost kind.Text t = omega arith
part-cost kind.Less t = omega arith
part-cost kind.Open t = omega arith
part-cost _ t = omega arith

token-cost : (s : FormSymbol) (t : ValuedToken) → step_cost (token_told s t) + end_cost s ≤ 1
token-cost due.PutTerm t = omega (arith, part-cost t.kind t)
token-cost due.DefinedTerm t = omega (arith, part-cost t.kind t)
token-cost due.PutTail t = omega arith
token-cost due.BracketTail t = omega arith
token-cost due.OneDot t = omega arith
token-cost due.Definition t = omega arith
token-cost due.OneSemicolon t = omega arith
token-cost _ t = omega arith

action-cost : (a : FormAction) → step_cost (action_told a) ≡ 0
action-cost action.Apply = refl
action-cost action.Pair = refl
action-cost action.Define = refl
action-cost action.Head = refl
action-cost action.Call = refl

-- what a token tells beside a tree
script-size : (s : FormSymbol) (t : ValuedToken) (v : Scripts) → told_size (script_read s t v) ≤ told_size v + end_cost s
script-size due.Sessions t v = omega (arith, whole-nodes v)
script-size due.OneName t v = omega (arith, name-size v.word t.name v)
script-size due.OneSemicolon t v = omega (arith, end-nodes (finished v.clause) v)
script-size due.OneEnd t v = omega (arith, whole-nodes v)
script-size _ t v = omega arith

-- what is told before a token's own part
abbrev with_tree : FormSymbol → ValuedToken → Scripts → Scripts
with_tree s t v = record v { clause = clause_read s t v.clause; tree = tree_event (Read s t) v.tree }

read-size : (s : FormSymbol) (t : ValuedToken) (v : Scripts) → told_size (scripts_event (Read s t) v) ≤ told_size v + 1
read-size s t v = omega (arith, script-size s t (with_tree s t v), step-size (token_told s t) v.tree.graph, token-cost s t)

say-size : (a : FormAction) (v : Scripts) → told_size (scripts_event (Say a) v) ≤ told_size v
say-size a v = omega (arith, step-size (action_told a) v.tree.graph, action-cost a)

events-size : (events : List (Event FormSymbol ValuedToken FormAction)) (v : Scripts) → told_size (performs scripts_making events v) ≤ told_size v + tokens_in events
events-size [] v = omega arith
events-size (Read s t ∷ events) v = omega (arith, events-size events (scripts_event (Read s t) v), read-size s t v)
events-size (Say a ∷ events) v = omega (arith, events-size events (scripts_event (Say a) v), say-size a v)

pub makes-small_input : MakesSmallInput
makes-small_input names events = omega (arith, events-size events nothing_told)
