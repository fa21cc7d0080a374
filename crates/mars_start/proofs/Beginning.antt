-- What was loaded and written represents the start of an ask.
use Rattle.std.proofs.Common.{◌≡◌, ℕ, zero, suc, ◌+◌, ◌<◌, List, [], ◌∷◌, ◌++◌, length, map, slice_get, Option, Some, None, option_and_then, All, refl, sym, ap, ◌∙◌, subst, arith, add-one, zero-add}
use Rattle.std.specs.List.{range_with_len, flat_map}
use Rattle.std.proofs.lemmas.List.Elements.{All-weaker, All-cons, All-nil}
use Rattle.mars_tree.specs.Graph.{Node}
use Rattle.mars_store.specs.Valuation.{Valuation, value}
use Rattle.mars_store.specs.System.{System, IsSystem}
use Rattle.mars_store.specs.Solutions.{InSol}
use Rattle.mars_term.specs.declared.term.Term.{Term, Var}
use Rattle.mars_term.specs.declared.clause.Ask.{Ask}
use Rattle.mars_term.specs.declared.clause.Goal.{Goal}
use Rattle.mars_term.specs.declared.clause.Goal.TheVariants as goal
use Rattle.mars_term.specs.Parts.{parts_of, number_of_var}
use Rattle.mars_term.specs.Clauses.{IsAsk, parts_of_goal}
use Rattle.mars_matching.specs.Trees.{Trees}
use Rattle.mars_rules.specs.PairedLists.{AllPaired}
use Rattle.mars_rules.specs.TermTrees.{tree_of_term}
use Rattle.mars_rules.proofs.CopyingSteps.{range-more, range-inside}
use Rattle.mars_rules.proofs.RuleParts.{all-before, all-after}
use Rattle.mars_goals.specs.declared.cells.Pending.{Pending}
use Rattle.mars_goals.specs.declared.cells.Pending.TheVariants as pending
use Rattle.mars_goals.specs.GoalLists.{list_at}
use Rattle.mars_machine.specs.Subjects.{Subject, Renamed, kept_trees}
use Rattle.mars_machine.specs.Equations.{Equations}
use Rattle.mars_machine.specs.Alternatives.{opened_goal}
use Rattle.mars_machine.specs.TermAnswers.{ask_variables}
use Rattle.mars_bridge.specs.Represents.{of_vars, Represents, Denotes, DenoteAll}
use Rattle.mars_bridge.specs.Scoped.{UsesBelow, PairUsesBelow, IsScoped}
use Rattle.mars_bridge.proofs.Parts.{of-var, variable_denoted}
use Rattle.mars_bridge.proofs.Growing.{kept_by, of-none, node-inside}
use Rattle.mars_bridge.proofs.Building.{empty_represented, free_represented}
use Rattle.mars_start.specs.Started.{IsFirstGoal, IsStarted}
use Rattle.mars_start.specs.LoadingInside.{with_frees, HasTree, AreTreesLoaded}
use Rattle.mars_start.specs.WritingInside.{IsAskPart, HasNames, HasMoreNodes, trees_among, ShowsTerm, IsGoalWritten, AreGoalsWritten}
use Rattle.mars_start.proofs.Growing.{trees-grow, inside-grows}
use Rattle.mars_start.proofs.LoadedTrees.{frees-grow, frees-system, frees-count}
use Rattle.mars_start.proofs.AskParts.{ask-parts}

-- equations of no equality, over so many variables
abbrev plain_start : List (List Node) → ℕ → Equations
plain_start kept next = record { kept = kept; next = next; equal = [] }

scoped-start : (kept : List (List Node)) (next : ℕ) → IsScoped (plain_start kept next)
scoped-start kept next = All-nil (PairUsesBelow next)

-- free nodes are variables
frees-represent : (kept : List (List Node)) (s : System) → IsSystem s → (count : ℕ) → Represents (plain_start kept count) (with_frees s count) (range_with_len (length s.nodes) count)
frees-represent kept s sound zero = empty_represented kept s sound
frees-represent kept s sound (suc count) =
    let one = free_represented (plain_start kept count) (with_frees s count) (range_with_len (length s.nodes) count) (frees-represent kept s sound count) (scoped-start kept count) (frees-system s count sound) in
    let more : range_with_len (length s.nodes) (count + 1) ≡ range_with_len (length s.nodes) count ++ length (with_frees s count).nodes ∷ [] =
    range-more (length s.nodes) count (length (with_frees s count).nodes) (sym (frees-count s count)) in
    subst (λ n. Represents (plain_start kept n) (with_frees s (suc count)) (range_with_len (length s.nodes) n)) (add-one count)
    (subst (Represents (plain_start kept (count + 1)) (with_frees s (suc count))) (sym more) one)

-- the trees of kept names' nodes are the kept trees
kept-same : (s : System) (v : Valuation) → InSol s v → (graphs : List (List Node)) (roots : List ℕ) → AllPaired (HasTree s) graphs roots → (number : ℕ) (path : List ℕ) → trees_among v roots number path ≡ kept_trees graphs number path
kept-same s v sol [] [] all number path = refl
kept-same s v sol [] (n ∷ roots) all number path = absurd all
kept-same s v sol (g ∷ graphs) [] all number path = absurd all
kept-same s v sol (g ∷ graphs) (n ∷ roots) all zero path = (all.0).tree v sol path
kept-same s v sol (g ∷ graphs) (n ∷ roots) all (suc number) path = kept-same s v sol graphs roots all.1 number path

-- the trees of variables' nodes are those of the variables
vars-same : (s : System) (v : Valuation) → InSol s v → (vars : List ℕ) → All (λ n. n < length s.nodes) vars → (x : ℕ) (path : List ℕ) → trees_among v vars x path ≡ value (of_vars vars v) (0 + x) path
vars-same s v sol vars inside x path = go (slice_get vars x) refl ∙ ap (λ y. value (of_vars vars v) y path) (sym (zero-add x))
  where
    go : (o : Option ℕ) → slice_get vars x ≡ o → trees_among v vars x path ≡ value (of_vars vars v) x path
    go None e = ap (option_and_then (λ n. value v n path)) e ∙ sym (of-none vars v x e path)
    go (Some n) e =
        let h = node-inside (length s.nodes) vars x n inside e in
        let each = sol.valuation.each in
        ap (option_and_then (λ n. value v n path)) e ∙ sym (of-var vars v x n e (omega arith) path)

one-trees : (f g : Trees) → ((x : ℕ) (path : List ℕ) → f x path ≡ g x path) → f ≡ g
one-trees f g h i x path = h x path i

module _ (kept : List (List Node)) (next : ℕ) (s : System) (vars roots : List ℕ) (inside : All (λ n. n < length s.nodes) vars) (all : AllPaired (HasTree s) kept roots) where
  -- a node with a term's tree denotes it
  term-denoted : (term : Term) (n : ℕ) → ShowsTerm s vars roots term n → Denotes (plain_start kept next) s vars n (Renamed 0 term)
  term-denoted term n shows = record {
    inside = shows.inside;
    tree = λ v sol path.
        shows.tree v sol path
        ∙ ap (λ (t : Trees). tree_of_term t (trees_among v roots) term path) (one-trees (trees_among v vars) (λ x path. value (of_vars vars v) (0 + x) path) (vars-same s v sol vars inside))
        ∙ ap (λ (t : Trees). tree_of_term (λ x path. value (of_vars vars v) (0 + x) path) t term path) (one-trees (trees_among v roots) (kept_trees kept) (kept-same s v sol kept roots all));
  }

  -- its variables are in use
  term-uses : (most : ℕ) (term : Term) → All (IsAskPart next most) (parts_of term) → UsesBelow next (Renamed 0 term)
  term-uses most term parts =
      All-weaker (IsAskPart next most) (λ part. All (λ x. 0 + x < next) (number_of_var part))
      (λ part p. All-weaker (λ x. x < next) (λ x. 0 + x < next) (λ x h. omega arith) (number_of_var part) p.known) (parts_of term) parts

  goal-first : (most : ℕ) (goal : Goal) (pending : Pending) → All (IsAskPart next most) (parts_of_goal goal) → IsGoalWritten s vars roots goal pending
      → IsFirstGoal (plain_start kept next) s vars (opened_goal 0 0 goal) pending
  goal-first most (goal.Call term) (pending.Call n) parts h = (term-denoted term n h, term-uses most term parts)
  goal-first most goal.Cut (pending.Cut depth) parts h = (refl, h)
  goal-first most goal.Cut (pending.Call n) parts h = absurd h
  goal-first most (goal.Call term) (pending.Cut depth) parts h = absurd h

  goals-first : (most : ℕ) (goals : List Goal) (list : List Pending) → All (IsAskPart next most) (flat_map parts_of_goal goals) → AllPaired (IsGoalWritten s vars roots) goals list
      → AllPaired (IsFirstGoal (plain_start kept next) s vars) (map (opened_goal 0 0) goals) list
  goals-first most [] [] parts h = tt
  goals-first most [] (p ∷ list) parts h = absurd h
  goals-first most (g ∷ goals) [] parts h = absurd h
  goals-first most (g ∷ goals) (p ∷ list) parts h = (
    goal-first most g p (all-before (IsAskPart next most) (parts_of_goal g) (flat_map parts_of_goal goals) parts) h.0,
    goals-first most goals list (all-after (IsAskPart next most) (parts_of_goal g) (flat_map parts_of_goal goals) parts) h.1,
  )

-- nodes of variables, in order
variables-paired : (R : ℕ → Subject → Type 0) (nodes : List ℕ) (from : ℕ) → ((x n : ℕ) → slice_get nodes x ≡ Some n → R n (Renamed 0 (Var (from + x))))
    → AllPaired R nodes (map (λ x. Renamed 0 (Var x)) (range_with_len from (length nodes)))
variables-paired R [] from each = tt
variables-paired R (n ∷ nodes) from each = (
  subst (λ x. R n (Renamed 0 (Var x))) same (each 0 n refl),
  variables-paired R nodes (from + 1) (λ x m e. subst (λ y. R m (Renamed 0 (Var y))) (later x) (each (suc x) m e)),
)
  where
    same : from + 0 ≡ from
    same = omega arith

    later : (x : ℕ) → from + suc x ≡ from + 1 + x
    later x = omega arith

variables-denoted : (e : Equations) (s : System) (vars : List ℕ) → Represents e s vars → DenoteAll e s vars vars (ask_variables e.next)
variables-denoted e s vars r =
    subst (λ n. DenoteAll e s vars vars (ask_variables n)) r.one_each
    (variables-paired (Denotes e s vars) vars 0 (λ x n at_x. subst (λ y. Denotes e s vars n (Renamed 0 (Var y))) (sym (zero-add x)) (variable_denoted e s vars r 0 x n (ap (slice_get vars) (zero-add x) ∙ at_x))))

-- nodes of names, after the variables were added
pub names-ready : (s : System) (graphs : List (List Node)) (roots vars : List ℕ) (count : ℕ) → AreTreesLoaded s graphs roots → vars ≡ range_with_len (length s.nodes) count → HasNames (with_frees s count) vars roots
names-ready s graphs roots vars count loaded e = record {
  system = frees-system s count loaded.system;
  vars_in = subst (All (λ n. n < length (with_frees s count).nodes)) (sym e) (range-inside (length s.nodes) count (length (with_frees s count).nodes) (omega (arith, frees-count s count)));
  kept_in = inside-grows s (with_frees s count) (frees-grow s count) roots (roots-in graphs roots loaded.trees);
}
  where
    roots-in : (graphs : List (List Node)) (roots : List ℕ) → AllPaired (HasTree s) graphs roots → All (λ n. n < length s.nodes) roots
    roots-in [] [] all = All-nil (λ n. n < length s.nodes)
    roots-in [] (n ∷ roots) all = absurd all
    roots-in (g ∷ graphs) [] all = absurd all
    roots-in (g ∷ graphs) (n ∷ roots) all = All-cons (λ n. n < length s.nodes) n roots (all.0).inside (roots-in graphs roots all.1)

-- the parts of an ask's goals, over as many nodes as it has names
pub parts-ready : (ask : Ask) (vars roots : List ℕ) (goals : List Goal) → IsAsk ask → length vars ≡ length ask.vars → length roots ≡ length ask.kept → goals ≡ ask.goals
    → All (IsAskPart (length vars) (length roots)) (flat_map parts_of_goal goals)
parts-ready ask vars roots goals is same same_kept e =
    subst (λ gs. All (IsAskPart (length vars) (length roots)) (flat_map parts_of_goal gs)) (sym e)
    (subst (λ n. All (IsAskPart (length vars) n) (flat_map parts_of_goal ask.goals)) (sym same_kept)
    (subst (λ n. All (IsAskPart n (length ask.kept)) (flat_map parts_of_goal ask.goals)) (sym same) (ask-parts ask is)))

-- the whole
pub ask-started : (ask : Ask) (kept : List (List Node)) (s end : System) (roots vars : List ℕ) (list : List Pending) → IsAsk ask → length kept ≡ length ask.kept → AreTreesLoaded s kept roots
    → vars ≡ range_with_len (length s.nodes) (length ask.vars) → HasMoreNodes (with_frees s (length ask.vars)) end → AllPaired (IsGoalWritten end vars roots) ask.goals list → IsStarted ask kept end vars list
ask-started ask kept s end roots vars list is same loaded e more written =
    let count : ℕ = length ask.vars in
    let mid : System = with_frees s (length ask.vars) in
    let r = equations in
    record {
      system = more.system;
      represents = r;
      scoped = scoped-start kept count;
      variables = variables-denoted (plain_start kept count) end vars r;
      goals_are = goals-first kept count end vars roots r.inside
          (trees-grow mid end (frees-system s count loaded.system) more.goes.grows kept roots (trees-grow s mid loaded.system (frees-grow s count) kept roots loaded.trees))
          (length ask.kept) ask.goals list (ask-parts ask is) written;
    }
  where
    equations : Represents (plain_start kept (length ask.vars)) end vars
    equations = subst (Represents (plain_start kept (length ask.vars)) end) (sym e)
        (kept_by (plain_start kept (length ask.vars)) (with_frees s (length ask.vars)) end (range_with_len (length s.nodes) (length ask.vars)) (frees-represent kept s loaded.system (length ask.vars)) more.goes).represents

-- the same, as the calls tell it
pub ask-begun : (ask : Ask) (kept : List (List Node)) (s mid end : System) (roots vars found others : List ℕ) (goals : List Goal) (lists : List (List Pending)) (list count : ℕ) → IsAsk ask → length kept ≡ length ask.kept
    → AreTreesLoaded s kept roots → vars ≡ range_with_len (length s.nodes) count → count ≡ length ask.vars → mid ≡ with_frees s count → found ≡ vars → others ≡ roots → goals ≡ ask.goals
    → AreGoalsWritten mid end found others goals lists list → IsStarted ask kept end vars (list_at lists list)
ask-begun ask kept s mid end roots vars found others goals lists list count is same loaded e counted made own own_kept own_goals written =
    ask-started ask kept s end roots vars (list_at lists list) is same loaded (e ∙ ap (range_with_len (length s.nodes)) counted)
    (subst (λ m. HasMoreNodes m end) (made ∙ ap (with_frees s) counted) written.more) whole
  where
    whole : AllPaired (IsGoalWritten end vars roots) ask.goals (list_at lists list)
    whole =
        subst (λ gs. AllPaired (IsGoalWritten end vars roots) gs (list_at lists list)) own_goals
        (subst (λ ns. AllPaired (IsGoalWritten end vars ns) goals (list_at lists list)) own_kept
        (subst (λ ns. AllPaired (IsGoalWritten end ns others) goals (list_at lists list)) own written.shows))
