-- A rule's nodes in a store are a copy of the rule.
use Rattle.std.proofs.Common.{◌≡◌, ℕ, ◌+◌, List, [], ◌∷◌, length, get_or, Some, refl, sym, ap, ◌∙◌, subst, arith, All}
use Rattle.std.specs.List.{range_with_len, AllByRecursion}
use Rattle.std.proofs.lemmas.List.Elements.{All-from_recursion}
use Rattle.std.proofs.lemmas.List.FromFn.{length-range_with_len, get_or-range_with_len}
use Rattle.std.proofs.lemmas.Option.{slice_get-get_or, same_Some}
use Rattle.mars_tree.specs.Graph.{Node, IsNode, free_leaf}
use Rattle.mars_term.specs.declared.term.Term.{Term}
use Rattle.mars_term.specs.declared.clause.Goal.{Goal}
use Rattle.mars_term.specs.declared.clause.Goal.TheVariants as goal
use Rattle.mars_term.specs.declared.clause.Rule.{Rule}
use Rattle.mars_store.specs.System.{System, IsSystem}
use Rattle.mars_rules.specs.declared.flat.FlatGoal.{FlatGoal}
use Rattle.mars_rules.specs.declared.flat.FlatGoal.TheVariants as flat
use Rattle.mars_rules.specs.declared.flat.FlatRule.{FlatRule}
use Rattle.mars_rules.specs.declared.goals.BodyGoal.{BodyGoal}
use Rattle.mars_rules.specs.declared.goals.BodyGoal.TheVariants as copied
use Rattle.mars_rules.specs.PairedLists.{AllPaired}
use Rattle.mars_rules.specs.FlatRules.{IsFlatTerm, IsFlatGoal, IsFlatRule}
use Rattle.mars_rules.specs.CopyingInside.{shifted, with_nodes, IsCopiedGoal, IsGoalBelow}
use Rattle.mars_rules.specs.Instances.{HasTermTree, IsGoalOf, IsInstance, trees_at, new_variable, TakeAnyTrees}
use Rattle.mars_rules.proofs.Copies.{copied-system, copied-size, copy-tree, copy-free, grows-nodes}

-- goals that are below a count
pub goals-below : (nodes : List Node) (vars from : ℕ) (goals : List Goal) (flats : List FlatGoal) → AllPaired (IsFlatGoal nodes vars from) goals flats
    → All (IsGoalBelow (length nodes)) flats
goals-below nodes vars from goals flats h = All-from_recursion _ _ (go goals flats h)
  where
    go : (goals : List Goal) (flats : List FlatGoal) → AllPaired (IsFlatGoal nodes vars from) goals flats → AllByRecursion (IsGoalBelow (length nodes)) flats
    go [] [] h = tt
    go [] (f ∷ flats) h = absurd h
    go (g ∷ goals) [] h = absurd h
    go (goal.Call term ∷ goals) (flat.Call place ∷ flats) h = (h.0.0.inside, go goals flats h.1)
    go (goal.Cut ∷ goals) (flat.Cut ∷ flats) h = (tt, go goals flats h.1)
    go (goal.Call term ∷ goals) (flat.Cut ∷ flats) h = absurd h.0
    go (goal.Cut ∷ goals) (flat.Call place ∷ flats) h = absurd h.0

module _ (s : System) (sound : IsSystem s) (nodes : List Node) (older : (place : ℕ) → IsNode place (get_or nodes place free_leaf)) where
  abbrev here : System
  here = with_nodes s (shifted (length s.nodes) nodes)

  pub has-tree : (place : ℕ) (term : Term) → IsFlatTerm nodes place term → HasTermTree here (new_variable s) term (length s.nodes + place)
  has-tree place term f = record {
    inside = let h = f.inside in omega (arith, copied-size s sound nodes older);
    tree = λ v sol path. copy-tree s sound nodes older v sol place f.inside path ∙ f.tree (trees_at v (new_variable s)) path;
  }

  one-goal : (vars from : ℕ) (g : Goal) (f : FlatGoal) (b : BodyGoal) → IsFlatGoal nodes vars from g f → IsCopiedGoal (range_with_len (length s.nodes) (length nodes)) f b
      → IsGoalOf here (new_variable s) g b
  one-goal vars from (goal.Call term) (flat.Call place) (copied.Call node) h k =
      let w = h.0.inside in
      let base : ℕ = length s.nodes in
      let size : length (range_with_len base (length nodes)) ≡ length nodes = length-range_with_len base (length nodes) in
      let there : Some (base + place) ≡ Some node =
      ap (λ n. Some n) (sym (get_or-range_with_len base (length nodes) place 0 w)) ∙ sym (slice_get-get_or (range_with_len base (length nodes)) place 0 (omega arith)) ∙ k in
      subst (λ n. HasTermTree here (new_variable s) term n) (same_Some (base + place) node there) (has-tree place term h.0)
  one-goal vars from goal.Cut flat.Cut copied.Cut h k = tt
  one-goal vars from (goal.Call term) (flat.Call place) copied.Cut h k = absurd k
  one-goal vars from goal.Cut flat.Cut (copied.Call node) h k = absurd k
  one-goal vars from (goal.Call term) flat.Cut b h k = absurd h
  one-goal vars from goal.Cut (flat.Call place) b h k = absurd h

  pub all-goals : (vars from : ℕ) (goals : List Goal) (flats : List FlatGoal) (body : List BodyGoal) → AllPaired (IsFlatGoal nodes vars from) goals flats
      → AllPaired (IsCopiedGoal (range_with_len (length s.nodes) (length nodes))) flats body → AllPaired (IsGoalOf here (new_variable s)) goals body
  all-goals vars from [] [] [] h k = tt
  all-goals vars from [] [] (b ∷ body) h k = absurd k
  all-goals vars from [] (f ∷ flats) body h k = absurd h
  all-goals vars from (g ∷ goals) [] body h k = absurd h
  all-goals vars from (g ∷ goals) (f ∷ flats) [] h k = absurd k
  all-goals vars from (g ∷ goals) (f ∷ flats) (b ∷ body) h k = (one-goal vars from g f b h.0 k.0, all-goals vars from goals flats body h.1 k.1)

pub instance-is : (s : System) → IsSystem s → (rule : Rule) (flat : FlatRule) → IsFlatRule rule flat → (body : List BodyGoal)
    → AllPaired (IsCopiedGoal (range_with_len (length s.nodes) (length flat.template.nodes))) flat.goals.items body
    → IsInstance s (with_nodes s (shifted (length s.nodes) flat.template.nodes)) rule (record { head = length s.nodes + flat.template.head; body = body })
instance-is s sound rule flat is body copies =
    let nodes : List Node = flat.template.nodes in
    let older = is.template.older in
    let vars_in = is.template.vars_in in
    let head_in = is.template.head_in in
    record {
      grows = grows-nodes (shifted (length s.nodes) nodes) s;
      system = copied-system s sound nodes older;
      bound = refl;
      vars = omega (arith, copied-size s sound nodes older, is.vars);
      head = has-tree s sound nodes older flat.template.head rule.head is.head;
      body = all-goals s sound nodes older flat.template.vars (flat.template.head + 1) rule.body flat.goals.items body is.goals copies;
      free = subst (λ n. TakeAnyTrees s (with_nodes s (shifted (length s.nodes) nodes)) n (new_variable s)) is.vars
          (copy-free s sound nodes older flat.template.vars (omega arith) is.template.first);
    }
