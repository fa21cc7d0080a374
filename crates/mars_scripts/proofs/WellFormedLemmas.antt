-- What holds of what is told so far goes on to hold.
use Rattle.std.proofs.Common.{◌≡◌, ◌<◌, ◌+◌, ◌^◌, ℕ, List, [], ◌∷◌, ◌++◌, length, refl, ap, sym, ◌∙◌, subst, arith, Option, Some, None, false, slice_get}
use Rattle.std.specs.Prelude.{All}
use Rattle.std.proofs.lemmas.List.{length_push, length-map}
use Rattle.std.proofs.lemmas.List.Elements.{All-nil, All-push, All-get_or, All-head, All-tail}
use Rattle.mars_base.proofs.ListFacts.{All-get}
use Rattle.mars_grammar.specs.FormTable.{Event, Read, Say}
use Rattle.mars_grammar.specs.Building.{Build, performs}
use Rattle.mars_tree.specs.declared.label.NameId.{NameId}
use Rattle.mars_term.specs.declared.clause.Rule.{Rule}
use Rattle.mars_term.specs.Clauses.{IsRule, IsAsk}
use Rattle.mars_script.specs.declared.script.Command.{Command}
use Rattle.mars_script.specs.declared.script.Command.TheVariants as command
use Rattle.mars_script.specs.declared.script.Script.{Script}
use Rattle.mars_forms.specs.declared.lexeme.TokenKind.{TokenKind}
use Rattle.mars_forms.specs.declared.lexeme.TokenKind.TheVariants as kind
use Rattle.mars_forms.specs.declared.symbol.FormSymbol.{FormSymbol}
use Rattle.mars_forms.specs.declared.symbol.FormSymbol.TheVariants as due
use Rattle.mars_forms.specs.declared.symbol.FormAction.{FormAction}
use Rattle.mars_graphs.specs.Nodes.{Nodes, target_at, tied, tied_graph, AreNodes}
use Rattle.mars_graphs.specs.Steps.{TreeStep, no_variable}
use Rattle.mars_graphs.specs.Making.{Making, makes_all, rooted, made_graph, made_root, IsMaking}
use Rattle.mars_graphs.proofs.Building.{slice_get-new}
use Rattle.mars_graphs.proofs.Standing.{nodes-variable}
use Rattle.mars_graphs.proofs.Makes.{making-nothing, making-step, variable-within}
use Rattle.mars_clauses.specs.declared.maker.ValuedToken.{ValuedToken}
use Rattle.mars_clauses.specs.declared.making.FinishedClause.{FinishedClause}
use Rattle.mars_clauses.specs.declared.making.FinishedClause.TheVariants as finished_clause
use Rattle.mars_clauses.specs.Terms.{Unfinished, clause_read, clause_said, finished, begun}
use Rattle.mars_clauses.specs.Lists.{Clauses, clauses, clauses_from, stored, clauses_event}
use Rattle.mars_clauses.specs.WellFormed.{MakesWellFormed, AreWellFormed}
use Rattle.mars_scripts.specs.declared.trees.TreeMaker.{TreeMaker}
use Rattle.mars_scripts.specs.Trees.{token_told, action_told, step_before, steps_told, made_by_step, tree_event, tree_making}
use Rattle.mars_scripts.specs.Scripts.{Scripts, nothing_told, sessions_with, with_session_whole, with_next_name, with_rule, session_with, with_command, command_told, with_whole, with_ended, script_read, scripts_event, scripts_making}
use Rattle.mars_scripts.specs.WellFormed.{IsWellFormedCommand, IsWellFormedScript, MakesWellFormedInput, MakesTold, IsNoEnd, TellsTree}

-- steps one after the other
step-first : (step : Option TreeStep) (m : Making) (steps : List TreeStep) → makes_all (made_by_step step m) steps ≡ makes_all m (step_before step steps)
step-first None m steps = refl
step-first (Some step) m steps = refl

pub makes-told : MakesTold
makes-told [] v = refl
makes-told (Read s t ∷ events) v = makes-told events (tree_event (Read s t) v) ∙ step-first (token_told s t) v.graph (steps_told events)
makes-told (Say a ∷ events) v = makes-told events (tree_event (Say a) v) ∙ step-first (action_told a) v.graph (steps_told events)

-- what is told before a token's own part
abbrev before : FormSymbol → ValuedToken → Scripts → Scripts
before s t v = record v { clause = clause_read s t v.clause; tree = tree_event (Read s t) v.tree }

-- nothing but a semicolon takes a tree away
name-tree : (k : TokenKind) (name : NameId) (v : Scripts) → (with_next_name k name v).tree ≡ v.tree
name-tree kind.Session name v = refl
name-tree _ name v = refl

read-tree : (s : FormSymbol) (t : ValuedToken) (v : Scripts) → IsNoEnd (Read s t) → (script_read s t v).tree ≡ v.tree
read-tree due.OneSemicolon t v ends = absurd ends
read-tree due.OneName t v ends = name-tree v.word t.name v
read-tree _ t v ends = refl

event-tree : (e : Event FormSymbol ValuedToken FormAction) (v : Scripts) → IsNoEnd e → (scripts_event e v).tree ≡ tree_event e v.tree
event-tree (Read s t) v ends = read-tree s t (before s t v) ends
event-tree (Say a) v ends = refl

pub tells-tree : TellsTree
tells-tree [] v none = refl
tells-tree (e ∷ events) v none =
    tells-tree events (scripts_event e v) (All-tail IsNoEnd e events none)
    ∙ ap (λ (tree : TreeMaker). performs tree_making events tree) (event-tree e v (All-head IsNoEnd e events none))

-- the root of a graph that is made
target-within : (b : Nodes) (n : ℕ) → AreNodes b → n < length b.nodes → target_at b n < length (tied_graph b)
target-within b n nodes less =
    let within : target_at b n < length b.nodes = All-get_or (λ target. target < length b.nodes) b.targets n n (omega (arith, less, nodes.size)) nodes.in_range in
    omega (arith, within, length-map b.nodes (tied b.targets))

root-by : (m : Making) (o : Option ℕ) → slice_get m.terms 0 ≡ o → IsMaking m → target_at (rooted m o).0 (rooted m o).1 < length (tied_graph (rooted m o).0)
root-by m None e is = target-within (rooted m None).0 (rooted m None).1 (nodes-variable m.nodes no_variable is.nodes) (variable-within m.nodes no_variable is.nodes)
root-by m (Some root) e is = target-within m.nodes root is.nodes (All-get (λ term. term < length m.nodes.nodes) m.terms 0 root is.terms e)

root-within : (m : Making) → IsMaking m → made_root m < length (made_graph m)
root-within m is = root-by m (slice_get m.terms 0) refl is

-- what holds of what is told so far
abbrev IsSession : Option Script → Type 0
IsSession None = Unit {0}
IsSession (Some session) = IsWellFormedScript session

record IsTold (v : Scripts) : Type 0 where
  pub rules : All IsRule v.rules
  pub sessions : All IsWellFormedScript v.sessions
  pub session : IsSession v.session
  pub tree : IsMaking v.tree.graph

abbrev IsSome : Option Command → Type 0
IsSome None = Unit {0}
IsSome (Some command) = IsWellFormedCommand command

abbrev IsClause : FinishedClause → Type 0
IsClause (finished_clause.Rule rule) = IsRule rule
IsClause (finished_clause.Ask ask) = IsAsk ask
IsClause finished_clause.Neither = Unit {0}

-- sessions
sessions-good : (o : Option Script) (sessions : List Script) → IsSession o → All IsWellFormedScript sessions → All IsWellFormedScript (sessions_with o sessions)
sessions-good None sessions is all = all
sessions-good (Some session) sessions is all = All-push IsWellFormedScript sessions session all is

session-whole : (v : Scripts) → IsTold v → IsTold (with_session_whole v)
session-whole v is = record { rules = is.rules; sessions = sessions-good v.session v.sessions is.session is.sessions; session = tt; tree = is.tree }

name-good : (k : TokenKind) (name : NameId) (v : Scripts) → IsTold v → IsTold (with_next_name k name v)
name-good kind.Session name v is = record { rules = is.rules; sessions = is.sessions; session = record { rules = All-nil IsRule; commands = All-nil IsWellFormedCommand }; tree = is.tree }
name-good _ name v is = record { rules = is.rules; sessions = is.sessions; session = is.session; tree = is.tree }

-- rules and commands
rule-good : (o : Option Script) (rule : Rule) (v : Scripts) → IsRule rule → IsSession o → IsTold v → IsTold (with_rule o rule v)
rule-good None rule v r s is = record { rules = All-push IsRule v.rules rule is.rules r; sessions = is.sessions; session = is.session; tree = is.tree }
rule-good (Some session) rule v r s is = record {
  rules = is.rules;
  sessions = is.sessions;
  session = record { rules = All-push IsRule session.rules rule s.rules r; commands = s.commands };
  tree = is.tree;
}

session-good : (c : Option Command) (o : Option Script) → IsSome c → IsSession o → IsSession (session_with c o)
session-good None None i s = tt
session-good None (Some session) i s = s
session-good (Some c) None i s = tt
session-good (Some c) (Some session) i s = record { rules = s.rules; commands = All-push IsWellFormedCommand session.commands c s.commands i }

command-good : (c : Option Command) (v : Scripts) → IsSome c → IsTold v → IsTold (with_command c v)
command-good c v i is = record { rules = is.rules; sessions = is.sessions; session = session-good c v.session i is.session; tree = is.tree }

told-good : (k : TokenKind) (v : Scripts) → IsTold v → IsSome (command_told k v)
told-good kind.PutWord v is = root-within v.tree.graph is.tree
told-good kind.KeepWord v is = tt
told-good kind.SameWord v is = tt
told-good kind.PinWord v is = tt
told-good kind.ShowWord v is = tt
told-good kind.DropWord v is = tt
told-good kind.SweepWord v is = tt
told-good kind.CountWord v is = tt
told-good _ v is = tt

whole-good : (f : FinishedClause) (v : Scripts) → IsClause f → IsTold v → IsTold (with_whole f v)
whole-good (finished_clause.Rule rule) v i is = rule-good v.session rule v i is.session is
whole-good (finished_clause.Ask ask) v i is = command-good (Some (command.Ask ask)) v i is
whole-good finished_clause.Neither v i is = command-good (command_told v.word v) v (told-good v.word v is) is

end-good : (v : Scripts) → IsClause (finished v.clause) → IsTold v → IsTold (with_ended v)
end-good v i is = let w = whole-good (finished v.clause) v i is in record { rules = w.rules; sessions = w.sessions; session = w.session; tree = making-nothing }

-- what ends at a token
abbrev IsEnd : FormSymbol → Unfinished → Type 0
IsEnd due.OneSemicolon c = IsClause (finished c)
IsEnd _ c = Unit {0}

read-good : (s : FormSymbol) (t : ValuedToken) (v : Scripts) → IsEnd s v.clause → IsTold v → IsTold (script_read s t v)
read-good due.Input t v i is = record { rules = is.rules; sessions = is.sessions; session = is.session; tree = is.tree }
read-good due.Sessions t v i is = let w = session-whole v is in record { rules = w.rules; sessions = w.sessions; session = w.session; tree = w.tree }
read-good due.Commands t v i is = record { rules = is.rules; sessions = is.sessions; session = is.session; tree = is.tree }
read-good due.OneName t v i is = name-good v.word t.name v is
read-good due.OneVariable t v i is = record { rules = is.rules; sessions = is.sessions; session = is.session; tree = is.tree }
read-good due.OneSemicolon t v i is = end-good v i is
read-good due.OneEnd t v i is = session-whole v is
read-good _ t v i is = is

-- the tree
step-good : (step : Option TreeStep) (m : Making) → IsMaking m → IsMaking (made_by_step step m)
step-good None m is = is
step-good (Some step) m is = making-step m step is

-- the rule or ask that is being read is that of all rules and asks
stored-reading : (f : FinishedClause) (c : Clauses) → (stored f c).reading ≡ begun false []
stored-reading (finished_clause.Rule rule) c = refl
stored-reading (finished_clause.Ask ask) c = refl
stored-reading finished_clause.Neither c = refl

name-clause : (k : TokenKind) (name : NameId) (v : Scripts) → (with_next_name k name v).clause ≡ v.clause
name-clause kind.Session name v = refl
name-clause _ name v = refl

clause-alike : (s : FormSymbol) (t : ValuedToken) (v : Scripts) (c : Clauses) → v.clause ≡ c.reading → (scripts_event (Read s t) v).clause ≡ (clauses_event (Read s t) c).reading
clause-alike due.OneSemicolon t v c e = sym (stored-reading (finished c.reading) c)
clause-alike due.OneName t v c e = name-clause v.word t.name (before due.OneName t v) ∙ e
clause-alike s t v c e = ap (λ (u : Unfinished). clause_read s t u) e

-- so it is well formed
stored-whole : (f : FinishedClause) (c : Clauses) → AreWellFormed (stored f c) → IsClause f
stored-whole (finished_clause.Rule rule) c w = All-get IsRule (c.rules ++ rule ∷ []) (length c.rules) rule w.rules (slice_get-new c.rules rule)
stored-whole (finished_clause.Ask ask) c w = All-get IsAsk (c.asks ++ ask ∷ []) (length c.asks) ask w.asks (slice_get-new c.asks ask)
stored-whole finished_clause.Neither c w = tt

end-whole : (s : FormSymbol) (t : ValuedToken) (u : Unfinished) (c : Clauses) → u ≡ c.reading → AreWellFormed (clauses_event (Read s t) c) → IsEnd s (clause_read s t u)
end-whole due.OneSemicolon t u c e w = subst (λ (r : Unfinished). IsClause (finished r)) (sym e) (stored-whole (finished c.reading) c w)
end-whole _ t u c e w = tt

record Alike (v : Scripts) (c : Clauses) : Type 0 where
  pub clause : v.clause ≡ c.reading
  pub told : IsTold v

event-alike : (e : Event FormSymbol ValuedToken FormAction) (v : Scripts) (c : Clauses) → AreWellFormed (clauses_event e c) → Alike v c → Alike (scripts_event e v) (clauses_event e c)
event-alike (Read s t) v c w a =
    let is = a.told in
    record {
      clause = clause-alike s t v c a.clause;
      told = read-good s t (before s t v) (end-whole s t v.clause c a.clause w)
          (record { rules = is.rules; sessions = is.sessions; session = is.session; tree = step-good (token_told s t) v.tree.graph is.tree });
    }
event-alike (Say a) v c w al =
    let is = al.told in
    record {
      clause = ap (λ (u : Unfinished). clause_said a u) al.clause;
      told = record { rules = is.rules; sessions = is.sessions; session = is.session; tree = step-good (action_told a) v.tree.graph is.tree };
    }

-- one event more
performs-push : {E V L : Type 0} (B : Build E V L) (es : List E) (e : E) (v : V) → performs B (es ++ e ∷ []) v ≡ B.perform e (performs B es v)
performs-push B [] e v = refl
performs-push B (d ∷ es) e v = performs-push B es e (B.perform d v)

events-told : MakesWellFormed → (front back : List (Event FormSymbol ValuedToken FormAction)) (v : Scripts) → length front + length back < 2 ^ 32 →
    Alike v (performs clauses front (clauses_from false)) → IsTold (performs scripts_making back v)
events-told w front [] v few a = a.told
events-told w front (e ∷ back) v few a =
    let grown = length_push front e in
    let next = performs-push clauses front e (clauses_from false) in
    let made : AreWellFormed (performs clauses (front ++ e ∷ []) (clauses_from false)) = w false (front ++ e ∷ []) (omega (arith, grown, few)) in
    events-told w (front ++ e ∷ []) back (scripts_event e v) (omega (arith, grown, few))
    (subst (λ (c : Clauses). Alike (scripts_event e v) c) (sym next) (event-alike e v (performs clauses front (clauses_from false)) (subst AreWellFormed next made) a))

pub makes-well_formed_input : MakesWellFormed → MakesWellFormedInput
makes-well_formed_input w names events few =
    let told = events-told w [] events nothing_told (omega (arith, few)) (record { clause = refl; told = record { rules = All-nil IsRule; sessions = All-nil IsWellFormedScript; session = tt; tree = making-nothing } }) in
    record { rules = told.rules; sessions = told.sessions }
