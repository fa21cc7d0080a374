-- A rule whose head was matched and whose body was built.
use Rattle.std.proofs.Common.{◌≡◌, ◌⊎◌, ℕ, ◌+◌, ◌<◌, ◌≤◌, List, [], ◌∷◌, length, take, get_or, slice_get, Option, Some, None, option_and_then, refl, sym, ap, ◌∙◌, arith, inl, inr, All}
use Rattle.std.specs.List.{AllByRecursion}
use Rattle.std.proofs.lemmas.Bool.{cases_lt}
use Rattle.std.proofs.lemmas.List.{take-take, take_all}
use Rattle.std.proofs.lemmas.List.Elements.{All-get_or, All-from_recursion}
use Rattle.std.proofs.lemmas.Option.{slice_get-get_or, slice_get_within, same_Some}
use Rattle.mars_tree.specs.Graph.{Node, IsNode, at, label_of, kids_of, free_leaf}
use Rattle.mars_term.specs.declared.term.Term.{Term}
use Rattle.mars_term.specs.declared.clause.Goal.{Goal}
use Rattle.mars_term.specs.declared.clause.Goal.TheVariants as written
use Rattle.mars_term.specs.declared.clause.Rule.{Rule}
use Rattle.mars_store.specs.Growing.{Continues, cut}
use Rattle.mars_store.specs.Valuation.{Valuation, IsValuation, value}
use Rattle.mars_store.specs.System.{System, IsSystem}
use Rattle.mars_store.specs.Solutions.{InSol}
use Rattle.mars_store.proofs.CallerLemmas.{restricted, older-value, older_solved, trees_stay, grows-trans, cases-label}
use Rattle.mars_matching.specs.Trees.{Trees, tree_at, Matches}
use Rattle.mars_matching.specs.Matched.{HasNode, HoldAll, IsLater, IsThere, AreThere, IsMatched, IsBodyBuilt}
use Rattle.mars_matching.proofs.Steps.{tree-free, tree-labelled, matches-back, one-node}
use Rattle.mars_rules.specs.declared.flat.FlatGoal.{FlatGoal}
use Rattle.mars_rules.specs.declared.flat.FlatGoal.TheVariants as laid
use Rattle.mars_rules.specs.declared.flat.FlatRule.{FlatRule}
use Rattle.mars_rules.specs.declared.goals.BodyGoal.{BodyGoal}
use Rattle.mars_rules.specs.declared.goals.BodyGoal.TheVariants as copied
use Rattle.mars_rules.specs.PairedLists.{AllPaired}
use Rattle.mars_rules.specs.FlatRules.{IsFlatTerm, IsFlatGoal, IsFlatRule, IsOwnPlace}
use Rattle.mars_rules.specs.CopyingInside.{shifted, with_nodes}
use Rattle.mars_rules.specs.Instances.{HasTermTree, IsGoalOf, trees_at, new_variable}
use Rattle.mars_rules.specs.TakenRules.{IsRegisterGoal, HasGoalNode, HasHeadTree, TakesRule, MatchedIsTaken, BuiltHasNodes, RefusedIsNever}
use Rattle.mars_rules.proofs.Copies.{copied-size, copy-tree, copy-free, grows-nodes, continues-trans}

-- trees that are the same for the variables are the same for all places
module _ (nodes : List Node) (older : (place : ℕ) → IsNode place (get_or nodes place free_leaf)) (one other : Trees)
    (same : (x : ℕ) → x < length nodes → label_of nodes x ≡ None → (path : List ℕ) → one x path ≡ other x path) where
  kids-same : (p : ℕ) (path : List ℕ) (k : ℕ) → ((kid : ℕ) → kid < p → tree_at nodes one kid path ≡ tree_at nodes other kid path) → (o : Option ℕ) → slice_get (kids_of nodes p) k ≡ o
      → option_and_then (λ kid. tree_at nodes one kid path) o ≡ option_and_then (λ kid. tree_at nodes other kid path) o
  kids-same p path k earlier None e = refl
  kids-same p path k earlier (Some kid) e =
      let w = slice_get_within (kids_of nodes p) k kid e in
      let is : get_or (kids_of nodes p) k 0 ≡ kid = same_Some (get_or (kids_of nodes p) k 0) kid (sym (slice_get-get_or (kids_of nodes p) k 0 w) ∙ e) in
      earlier kid (rw (← is) (All-get_or (λ n. n < p) (kids_of nodes p) k 0 w (older p).in_range))

  pub places-same : (p : ℕ) → p < length nodes → (path : List ℕ) → tree_at nodes one p path ≡ tree_at nodes other p path
  places-same p h [] = elim (cases-label (label_of nodes p)) [
    | inl none ↦ tree-free nodes one p none [] ∙ same p h none [] ∙ sym (tree-free nodes other p none [])
    | inr (label, some) ↦ tree-labelled nodes one p label some [] ∙ sym (tree-labelled nodes other p label some [])
  ]
  places-same p h (k ∷ path) = elim (cases-label (label_of nodes p)) [
    | inl none ↦ tree-free nodes one p none (k ∷ path) ∙ same p h none (k ∷ path) ∙ sym (tree-free nodes other p none (k ∷ path))
    | inr (label, some) ↦
        tree-labelled nodes one p label some (k ∷ path)
        ∙ kids-same p path k (λ kid l. places-same kid (omega arith) path) (slice_get (kids_of nodes p) k) refl
        ∙ sym (tree-labelled nodes other p label some (k ∷ path))
  ]

-- a place without a label is a variable
free-place : (flat : FlatRule) (rule : Rule) → IsFlatRule rule flat → (x : ℕ) → x < length flat.template.nodes → label_of flat.template.nodes x ≡ None → x < rule.vars
free-place flat rule is x h none = elim (cases_lt x flat.template.vars) [
  | inl l ↦ let e = is.vars in omega arith
  | inr l ↦ absurd (is.template.labelled x l h none)
]

module _ (old mid new : System) (rule : Rule) (flat : FlatRule) (goal : ℕ) (matched built : List (Option ℕ)) (vars : ℕ → ℕ) (sound : IsSystem old) (goal_in : goal < length old.nodes)
    (is : IsFlatRule rule flat) (m : IsMatched flat.template old mid goal matched) (b : IsBodyBuilt flat.template mid new matched built)
    (has : (x : ℕ) → x < rule.vars → HasNode built x (vars x)) where
  abbrev nodes : List Node
  nodes = flat.template.nodes

  variable-is : (x n : ℕ) → label_of nodes x ≡ None → HasNode built x n → n ≡ vars x
  variable-is x n none h =
      let w = slice_get_within built x (Some n) h in
      let size = b.size in
      one-node built x n (vars x) h (has x (free-place flat rule is x (omega arith) none))

  -- in each new solution all registers have the trees of their places
  all-hold : (v : Valuation) → InSol new v → HoldAll nodes built v (trees_at v vars)
  all-hold v sol =
      let c : Valuation = cut (length mid.nodes) v in
      let trees : Trees = trees_at v vars in
      let before : HoldAll nodes matched c trees =
      m.only c (restricted mid new m.system b.grows v sol) trees
      (λ x n none h path. older-value mid new m.system b.grows v sol n (m.inside x n h) path ∙ ap (λ k. value v k path) (variable-is x n none (b.kept x n h))) in
      b.only v sol trees (λ x n none h path. ap (λ k. value v k path) (variable-is x n none h))
      (λ p n h. matches-back nodes trees mid new m.system b.grows v sol p n (m.inside p n h) (before p n h))

  place-tree : (place node : ℕ) (term : Term) → IsFlatTerm nodes place term → HasNode built place node → HasTermTree new vars term node
  place-tree place node term f h = record {
    inside = b.inside place node h;
    tree = λ v sol path. (all-hold v sol place node h).along path ∙ f.tree (trees_at v vars) path;
  }

  one-taken : (from : ℕ) (g : Goal) (f : FlatGoal) (d : BodyGoal) → IsFlatGoal nodes flat.template.vars from g f → IsRegisterGoal built f d → IsGoalOf new vars g d
  one-taken from (written.Call term) (laid.Call place) (copied.Call node) h k = place-tree place node term h.0 k
  one-taken from written.Cut laid.Cut copied.Cut h k = tt
  one-taken from (written.Call term) (laid.Call place) copied.Cut h k = absurd k
  one-taken from written.Cut laid.Cut (copied.Call node) h k = absurd k
  one-taken from (written.Call term) laid.Cut d h k = absurd h
  one-taken from written.Cut (laid.Call place) d h k = absurd h

  all-taken : (from : ℕ) (goals : List Goal) (flats : List FlatGoal) (body : List BodyGoal) → AllPaired (IsFlatGoal nodes flat.template.vars from) goals flats
      → AllPaired (IsRegisterGoal built) flats body → AllPaired (IsGoalOf new vars) goals body
  all-taken from [] [] [] h k = tt
  all-taken from [] [] (d ∷ body) h k = absurd k
  all-taken from [] (f ∷ flats) body h k = absurd h
  all-taken from (g ∷ goals) [] body h k = absurd h
  all-taken from (g ∷ goals) (f ∷ flats) [] h k = absurd k
  all-taken from (g ∷ goals) (f ∷ flats) (d ∷ body) h k = (one-taken from g f d h.0 k.0, all-taken from goals flats body h.1 k.1)

  -- a solution goes on over a graph that has the trees of all places
  goes-on : (v w : Valuation) → InSol old v → IsValuation rule.vars w → HasHeadTree rule v goal w
      → (u : Valuation) × InSol new u × Continues v u × ((x : ℕ) → x < rule.vars → (path : List ℕ) → value u (vars x) path ≡ value w x path)
  goes-on v w sol valid given =
      let base : ℕ = length old.nodes in
      let older = is.template.older in
      let vars_in = is.template.vars_in in
      let head_in = is.template.head_in in
      let more : System = with_nodes old (shifted base nodes) in
      let few : rule.vars ≤ length nodes = let e = is.vars in omega arith in
      let k = copy-free old sound nodes older rule.vars few (λ x h. is.template.first x (let e = is.vars in omega arith)) v w sol valid in
      let large : Valuation = k.0 in
      let here : Valuation = cut base large in
      let solves : InSol old here = older_solved old more sound (grows-nodes (shifted base nodes) old) large k.1 in
      let on : Continues v here = record {
        graph = k.2.graph;
        nodes = take-take (length v.nodes) base large.nodes (omega (arith, sol.valuation.each)) ∙ k.2.nodes;
      } in
      let there : AreThere nodes here (value w) = λ p h. place-there large w k.1 k.3 p h in
      let matches : Matches nodes (value w) here flat.template.head goal = record {
        along = λ path. trees_stay base v here sol.valuation on goal goal_in path ∙ given path ∙ sym (is.head.tree (value w) path);
      } in
      let one = m.all here solves (value w) matches in
      let two = b.all one.u one.solves (value w) one.hold (λ p h. let t = there p h in record { node = t.node; inside = rw one.later.graph t.inside; same = λ path. rw one.later.graph (t.same path) }) in (
        two.u,
        two.solves,
        continues-trans v here two.u on (continues-trans here one.u two.u (later-on here one.u one.later) (later-on one.u two.u two.later)),
        λ x h path. let l = is.template.first x (let e = is.vars in omega arith) in
            (two.hold x (vars x) (has x h)).along path ∙ tree-free nodes (value w) x l path,
      )
    where
      later-on : (v u : Valuation) → IsLater v u → Continues v u
      later-on v u l = record { graph = ap (take (length v.graph)) l.graph ∙ take_all (length v.graph) v.graph (omega arith); nodes = l.nodes }

      place-there : (large w : Valuation) → InSol (with_nodes old (shifted (length old.nodes) nodes)) large
          → ((x : ℕ) → x < rule.vars → (path : List ℕ) → value large (new_variable old x) path ≡ value w x path)
          → (p : ℕ) → p < length nodes → IsThere large.graph (tree_at nodes (value w) p)
      place-there large w sol trees p h =
          let at_in : length old.nodes + p < length large.nodes = let size = copied-size old sound nodes is.template.older in omega (arith, sol.valuation.each) in
          let n : ℕ = get_or large.nodes (length old.nodes + p) 0 in
          record {
            node = n;
            inside = All-get_or (λ n. n < length large.graph) large.nodes (length old.nodes + p) 0 at_in sol.valuation.inside;
            same = λ path.
                sym (ap (option_and_then (λ n. at large.graph n path)) (slice_get-get_or large.nodes (length old.nodes + p) 0 at_in))
                ∙ copy-tree old sound nodes is.template.older large sol p h path
                ∙ places-same nodes is.template.older (trees_at large (new_variable old)) (value w) (λ x l none path. trees x (free-place flat rule is x l none) path) p h path;
          }

  pub taken : (body : List BodyGoal) → AllPaired (IsRegisterGoal built) flat.goals.items body → TakesRule old new rule goal vars body
  taken body goals = record {
    grows = grows-trans old mid new m.grows b.grows;
    system = b.system;
    head = place-tree flat.template.head goal rule.head is.head (b.kept flat.template.head goal m.head);
    body = all-taken (flat.template.head + 1) rule.body flat.goals.items body is.goals goals;
    all = goes-on;
  }

pub matched-taken : MatchedIsTaken
matched-taken old mid new rule flat goal matched built vars body sound goal_in is m b has goals = taken old mid new rule flat goal matched built vars sound goal_in is m b has body goals

pub built-nodes : BuiltHasNodes
built-nodes mid new rule flat matched built is b = (
  λ x h. let vars_in = is.template.vars_in in let head_in = is.template.head_in in let e = is.vars in b.filled x (omega arith) (inl (omega arith)),
  All-from_recursion _ _ (go rule.body flat.goals.items is.goals),
)
  where
    go : (goals : List Goal) (flats : List FlatGoal) → AllPaired (IsFlatGoal flat.template.nodes flat.template.vars (flat.template.head + 1)) goals flats → AllByRecursion (HasGoalNode built) flats
    go [] [] h = tt
    go [] (f ∷ flats) h = absurd h
    go (g ∷ goals) [] h = absurd h
    go (written.Call term ∷ goals) (laid.Call place ∷ flats) h = (b.filled place h.0.0.inside (own place h.0.1), go goals flats h.1)
      where
        own : (place : ℕ) → IsOwnPlace flat.template.vars (flat.template.head + 1) place → (place < flat.template.vars) ⊎ (flat.template.head < place)
        own place (inl l) = inl l
        own place (inr l) = inr (omega arith)
    go (written.Cut ∷ goals) (laid.Cut ∷ flats) h = (tt, go goals flats h.1)
    go (written.Call term ∷ goals) (laid.Cut ∷ flats) h = absurd h.0
    go (written.Cut ∷ goals) (laid.Call place ∷ flats) h = absurd h.0

pub refused-never : RefusedIsNever
refused-never system rule flat goal is none v w sol given =
    none v sol (value w) (record { along = λ path. given path ∙ sym (is.head.tree (value w) path) })
