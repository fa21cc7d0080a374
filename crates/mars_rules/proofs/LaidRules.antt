-- Goals that are laid out one after the other, and whole rules.
use Rattle.std.proofs.Common.{◌≡◌, ◌⊎◌, ℕ, zero, suc, ◌+◌, ◌<◌, ◌≤◌, List, [], ◌∷◌, ◌++◌, length, take, replicate, get_or, slice_get, Some, None, refl, sym, ap, ◌∙◌, subst, arith, inl, inr}
use Rattle.std.proofs.lemmas.Bool.{cases_lt}
use Rattle.std.proofs.lemmas.List.{length-replicate, get_or_past}
use Rattle.std.proofs.lemmas.Option.{none-some}
use Rattle.mars_tree.specs.declared.label.Label.{Label}
use Rattle.mars_tree.specs.Graph.{Node, label_of, kids_of, free_leaf, label as at_label}
use Rattle.mars_store.proofs.CallerLemmas.{leaf_node}
use Rattle.mars_term.specs.declared.term.Term.{Term}
use Rattle.mars_term.specs.declared.clause.Goal.{Goal}
use Rattle.mars_term.specs.declared.clause.Goal.TheVariants as goal
use Rattle.mars_term.specs.declared.clause.Rule.{Rule}
use Rattle.mars_matching.specs.Trees.{IsTemplate, root_at}
use Rattle.mars_rules.specs.declared.flat.FlatGoal.{FlatGoal}
use Rattle.mars_rules.specs.declared.flat.FlatGoal.TheVariants as flat
use Rattle.mars_rules.specs.PairedLists.{AllPaired}
use Rattle.mars_rules.specs.TermTrees.{label_of_term, no_trees, own_tree}
use Rattle.mars_rules.specs.FlatRules.{IsFlatTerm, IsFlatGoal, IsOwnPlace}
use Rattle.mars_rules.specs.LayingInside.{IsLayout, AddsNodes, IsLaidOut, IsLaidGoal, AreLaidGoals}
use Rattle.mars_rules.proofs.Layouts.{flat-added, adds-more, adds-refl, adds-trans, own-later}
use Rattle.mars_rules.proofs.Paired.{paired-step, paired-all, paired-weaker}

-- a goal that is laid out stays so as nodes are added
goal-kept : (vars from start : ℕ) (now new : List Node) → start ≤ from → IsLayout vars now → AddsNodes vars now new → (g : Goal) (f : FlatGoal) → IsFlatGoal now vars from g f → IsFlatGoal new vars start g f
goal-kept vars from start now new h layout a (goal.Call term) (flat.Call place) is = (flat-added vars now new layout a place term is.0, own-later vars from start place h is.1)
goal-kept vars from start now new h layout a goal.Cut flat.Cut is = tt
goal-kept vars from start now new h layout a goal.Cut (flat.Call place) is = absurd is
goal-kept vars from start now new h layout a (goal.Call term) flat.Cut is = absurd is

goal-later : (vars from start : ℕ) (now : List Node) → start ≤ from → (g : Goal) (f : FlatGoal) → IsFlatGoal now vars from g f → IsFlatGoal now vars start g f
goal-later vars from start now h (goal.Call term) (flat.Call place) is = (is.0, own-later vars from start place h is.1)
goal-later vars from start now h goal.Cut flat.Cut is = tt
goal-later vars from start now h goal.Cut (flat.Call place) is = absurd is
goal-later vars from start now h (goal.Call term) flat.Cut is = absurd is

pub no-goals : (vars : ℕ) (nodes : List Node) → IsLayout vars nodes → AreLaidGoals vars nodes nodes [] []
no-goals vars nodes layout = record { adds = adds-refl vars nodes layout; flat_goals = tt }

-- one goal more
pub goals-next : (vars : ℕ) (start now new : List Node) (goals : List Goal) (i : ℕ) (d : Goal) (flats after : List FlatGoal) (f : FlatGoal) → i < length goals
    → AreLaidGoals vars start now (take i goals) flats → IsLaidGoal vars now new (get_or goals i d) f → after ≡ flats ++ f ∷ [] → AreLaidGoals vars start new (take (i + 1) goals) after
goals-next vars start now new goals i d flats after f h all g same = record {
  adds = adds-trans vars start now new all.adds g.adds;
  flat_goals =
      paired-step (IsFlatGoal new vars (length start)) goals flats after i d f h same
      (paired-weaker (IsFlatGoal now vars (length start)) (IsFlatGoal new vars (length start))
      (λ x y is. goal-kept vars (length start) (length start) now new (omega arith) all.adds.layout g.adds x y is) (take i goals) flats all.flat_goals)
      (goal-later vars (length now) (length start) new (adds-more vars start now all.adds) (get_or goals i d) f g.flat_goal);
}

pub goals-end : (vars : ℕ) (start now : List Node) (goals : List Goal) (i : ℕ) (flats : List FlatGoal) → length goals ≤ i → AreLaidGoals vars start now (take i goals) flats → AreLaidGoals vars start now goals flats
goals-end vars start now goals i flats h all = record { adds = all.adds; flat_goals = paired-all (IsFlatGoal now vars (length start)) goals flats i h all.flat_goals }

pub call-laid : (vars : ℕ) (now new : List Node) (g : Goal) (term : Term) (place : ℕ) → g ≡ goal.Call term → IsLaidOut vars now new term place → IsLaidGoal vars now new g (flat.Call place)
call-laid vars now new g term place e f = rw e (record { adds = f.adds; flat_goal = (f.flat, f.own) })

pub cut-laid : (vars : ℕ) (now : List Node) (g : Goal) → g ≡ goal.Cut → IsLayout vars now → IsLaidGoal vars now now g flat.Cut
cut-laid vars now g e layout = rw e (record { adds = adds-refl vars now layout; flat_goal = tt })

-- the variables alone
leaves : (count i : ℕ) → get_or (replicate count free_leaf) i free_leaf ≡ free_leaf
leaves zero i = refl
leaves (suc count) zero = refl
leaves (suc count) (suc i) = leaves count i

pub vars-layout : (vars : ℕ) (nodes : List Node) → nodes ≡ replicate vars free_leaf → IsLayout vars nodes
vars-layout vars nodes e = rw e (record {
  older = λ place. rw (leaves vars place) (leaf_node place);
  first = λ x h. ap (λ (node : Node). node.label) (leaves vars x);
  labelled = λ place h w. absurd (omega (arith, length-replicate vars free_leaf));
  size = omega (arith, length-replicate vars free_leaf);
})

-- a head that is laid out is no variable
head-late : (vars : ℕ) (now new : List Node) (term : Term) (label : Label) (place : ℕ) → label_of_term term ≡ Some label → IsLaidOut vars now new term place → length now ≡ vars → vars ≤ place
head-late vars now new term label place is f size = go f.own
  where
    go : IsOwnPlace vars (length now) place → vars ≤ place
    go (inr h) = omega arith
    go (inl h) =
        let free : label_of new place ≡ None = f.adds.layout.first place h in
        let shows : None ≡ Some (at_label label) =
        sym (ap (λ o. root_at o None) free) ∙ f.flat.tree no_trees [] ∙ ap (λ o. root_at o (own_tree no_trees no_trees term [])) is in
        absurd (none-some (at_label label) shows)

-- head and body, laid out one after the other, are the rule
pub rule-laid : (rule : Rule) (label : Label) (start now new : List Node) (head : ℕ) (goals : List FlatGoal) (body : List Goal) → label_of_term rule.head ≡ Some label → length start ≡ rule.vars
    → IsLaidOut rule.vars start now rule.head head → AreLaidGoals rule.vars now new body goals → body ≡ rule.body
    → IsTemplate (record { nodes = new; vars = rule.vars; head = head }) × IsFlatTerm new head rule.head × AllPaired (IsFlatGoal new rule.vars (head + 1)) rule.body goals
rule-laid rule label start now new head goals body is size f g same =
    let last : head + 1 ≡ length now = f.last (λ none. none-some label (sym none ∙ is)) in
    let more = adds-more rule.vars now new g.adds in (
      record {
        older = g.adds.layout.older;
        first = g.adds.layout.first;
        labelled = g.adds.layout.labelled;
        vars_in = head-late rule.vars start now rule.head label head is f size;
        head_in = omega arith;
        body = λ place k p h e. go place k p h e last (cases_lt place (length new));
      },
      flat-added rule.vars now new f.adds.layout g.adds head rule.head f.flat,
      subst (λ n. AllPaired (IsFlatGoal new rule.vars n) rule.body goals) (sym last) (subst (λ b. AllPaired (IsFlatGoal new rule.vars (length now)) b goals) same g.flat_goals),
    )
  where
    go : (place k p : ℕ) → head < place → slice_get (kids_of new place) k ≡ Some p → head + 1 ≡ length now → (place < length new) ⊎ (length new ≤ place) → (p < rule.vars) ⊎ (head < p)
    go place k p h e last (inl w) = elim (g.adds.kids place k p (omega arith) w e) [ inl l ↦ inl l | inr l ↦ inr (omega arith) ]
    go place k p h e last (inr w) = absurd (none-some p (sym (ap (λ (node : Node). slice_get node.kids k) (get_or_past new place free_leaf w)) ∙ e))
