-- A head that was matched, and a body that was built, represent a call by a rule.
use Rattle.std.proofs.Common.{◌≡◌, ℕ, ◌+◌, ◌<◌, ◌≤◌, List, [], ◌∷◌, ◌++◌, length, take, get_or, slice_get, Option, Some, None, option_and_then, All, refl, sym, ap, ◌∙◌, subst, arith, inl, inr}
use Rattle.std.specs.Prelude.{unwrap_or}
use Rattle.std.specs.List.{flat_map}
use Rattle.std.proofs.lemmas.Bool.{cases_lt}
use Rattle.std.proofs.lemmas.List.{take_all, take-append-le, take-take}
use Rattle.std.proofs.lemmas.List.FromFn.{get_or-map-range_with_len, length-map-range_with_len}
use Rattle.std.proofs.lemmas.Option.{same_Some, slice_get-get_or, slice_get_within, get_or_from_slice_get}
use Rattle.std.proofs.lemmas.List.Elements.{All-push, All-take, All-contains, Contains-push, All-get_or, All-from_get_or}
use Rattle.mars_tree.specs.Graph.{Node, IsNode, label_of, kids_of, at, free_leaf}
use Rattle.mars_store.specs.Valuation.{Valuation, IsValuation, value}
use Rattle.mars_store.specs.System.{System, IsSystem, Grows}
use Rattle.mars_store.specs.Solutions.{InSol}
use Rattle.mars_store.specs.Growing.{Continues, cut}
use Rattle.mars_store.proofs.CallerLemmas.{grows-trans, older-value, restricted, trees_stay, cases-label}
use Rattle.mars_term.specs.declared.term.Term.{Term}
use Rattle.mars_term.specs.declared.clause.Goal.{Goal}
use Rattle.mars_term.specs.declared.clause.Goal.TheVariants as goal
use Rattle.mars_term.specs.declared.clause.Rule.{Rule}
use Rattle.mars_term.specs.Clauses.{IsRule, parts_of_goal}
use Rattle.mars_term.specs.Parts.{parts_of}
use Rattle.mars_matching.specs.Trees.{Trees, tree_at, Matches}
use Rattle.mars_matching.specs.Matched.{HasNode, Hold, HoldAll, IsLater, IsCarried, IsMatched, AreThere, IsBodyBuilt, IsRefused}
use Rattle.mars_matching.proofs.Steps.{tree-free, tree-labelled, matches-back}
use Rattle.mars_rules.specs.PairedLists.{AllPaired}
use Rattle.mars_rules.specs.TermTrees.{rule_tree}
use Rattle.mars_rules.specs.LayingInside.{IsRulePart}
use Rattle.mars_rules.specs.declared.flat.FlatGoal.{FlatGoal}
use Rattle.mars_rules.specs.declared.flat.FlatGoal.TheVariants as laid
use Rattle.mars_rules.specs.declared.flat.FlatRule.{FlatRule}
use Rattle.mars_rules.specs.FlatRules.{IsFlatRule, IsFlatGoal}
use Rattle.mars_rules.specs.Instances.{trees_at, new_variable}
use Rattle.mars_rules.specs.CopyingInside.{shifted}
use Rattle.mars_rules.proofs.RuleParts.{head-parts, body-parts, all-before, all-after}
use Rattle.mars_rules.proofs.Copies.{copied, copied-size, copy-tree, copy-free, grows-nodes, continues-trans}
use Rattle.mars_machine.specs.Subjects.{Subject, Renamed, subject_value}
use Rattle.mars_machine.specs.Equations.{Equations, Solves, HaveOneTree, AreSolvable}
use Rattle.mars_machine.specs.Children.{called_equations}
use Rattle.mars_bridge.specs.Represents.{of_vars, Represents, Denotes}
use Rattle.mars_bridge.specs.Scoped.{UsesBelow, IsScoped, IsTermOver}
use Rattle.mars_bridge.specs.MatchedLaws.{register_at, register_nodes, IsHeldGoal, IsCalledBy}
use Rattle.mars_bridge.proofs.Growing.{denotes_more}
use Rattle.mars_bridge.proofs.Variables.{within_value, cut-same, cut_solves, last_trees, last_valid, last_value, rule_value, represents_variables, denotes_still, still-value, new-value, earlier-hold}
use Rattle.mars_bridge.proofs.Copied.{over-parts}

pub split-last : {X : Type 0} (P : X → Type 0) (xs : List X) (x : X) → All P (xs ++ x ∷ []) → All P xs × P x
split-last P xs x h =
    let front = All-take P (length xs) (xs ++ x ∷ []) h in
    let same : take (length xs) (xs ++ x ∷ []) ≡ xs = take-append-le (length xs) xs (x ∷ []) (omega arith) ∙ take_all (length xs) xs (omega arith) in
    (subst (All P) same front, All-contains P (xs ++ x ∷ []) x h (Contains-push xs x))

-- a register's node
pub register-is : (registers : List (Option ℕ)) (place n : ℕ) → HasNode registers place n → register_at registers place ≡ n
register-is registers place n h = ap (λ o. unwrap_or o 0) (get_or_from_slice_get registers place (Some n) None h)

later-continues : (v u : Valuation) → IsLater v u → Continues v u
later-continues v u l = record { graph = ap (take (length v.graph)) l.graph ∙ take_all (length v.graph) v.graph (omega arith); nodes = l.nodes }

module _ (nodes : List Node) (older : (place : ℕ) → IsNode place (get_or nodes place free_leaf)) (trees others : Trees)
    (same : (x : ℕ) → x < length nodes → label_of nodes x ≡ None → (path : List ℕ) → trees x path ≡ others x path) where
  kid-trees : (path : List ℕ) (p : ℕ) → ((q : ℕ) → q < p → tree_at nodes trees q path ≡ tree_at nodes others q path) → (k : ℕ) (o : Option ℕ) → slice_get (kids_of nodes p) k ≡ o
      → option_and_then (λ kid. tree_at nodes trees kid path) o ≡ option_and_then (λ kid. tree_at nodes others kid path) o
  kid-trees path p earlier k None e = refl
  kid-trees path p earlier k (Some kid) e =
      earlier kid (subst (λ n. n < p) (get_or_from_slice_get (kids_of nodes p) k kid 0 e)
      (All-get_or (λ n. n < p) (kids_of nodes p) k 0 (slice_get_within (kids_of nodes p) k kid e) (older p).in_range))

  -- the tree of a place is told by those of the variables
  tree-at-same : (path : List ℕ) (p : ℕ) → p < length nodes → tree_at nodes trees p path ≡ tree_at nodes others p path
  tree-at-same [] p h = elim (cases-label (label_of nodes p)) [
    | inl none ↦ tree-free nodes trees p none [] ∙ same p h none [] ∙ sym (tree-free nodes others p none [])
    | inr (label, some) ↦ tree-labelled nodes trees p label some [] ∙ sym (tree-labelled nodes others p label some [])
  ]
  tree-at-same (k ∷ path) p h = elim (cases-label (label_of nodes p)) [
    | inl none ↦ tree-free nodes trees p none (k ∷ path) ∙ same p h none (k ∷ path) ∙ sym (tree-free nodes others p none (k ∷ path))
    | inr (label, some) ↦
        tree-labelled nodes trees p label some (k ∷ path)
        ∙ kid-trees path p (λ q below. tree-at-same path q (omega arith)) k (slice_get (kids_of nodes p) k) refl
        ∙ sym (tree-labelled nodes others p label some (k ∷ path))
  ]

-- a call by a rule, of which the head was matched and the body built
module _ (e : Equations) (old : System) (vars : List ℕ) (r : Represents e old vars) (scoped : IsScoped e) (call : Subject) (node : ℕ) (uses : UsesBelow e.next call) (st : Denotes e old vars node call)
    (rule : Rule) (flat : FlatRule) (is : IsRule rule) (fl : IsFlatRule rule flat) where
  abbrev nodes : List Node
  nodes = flat.template.nodes

  abbrev pair : Subject × Subject
  pair = (call, Renamed e.next rule.head)

  head-over : IsTermOver rule.vars rule.head
  head-over = over-parts rule.vars rule.head (head-parts rule is)

  -- the trees that a solution of the call's equations gives the rule's variables
  abbrev given : Valuation → Trees
  given w x path = value w (e.next + x) path

  -- what a solution of the call's equations says of the node of the call
  head-matches : (w : Valuation) → Solves (called_equations e call rule) w → (v : Valuation) → InSol old v → ((x : ℕ) (path : List ℕ) → value (of_vars vars v) x path ≡ value (cut e.next w) x path)
      → Matches nodes (given w) v flat.template.head node
  head-matches w k v sol same = record {
    along = λ path.
        st.tree v sol path
        ∙ within_value e.kept (of_vars vars v) w e.next (λ x h p. same x p ∙ cut-same e.next w x h p) call uses path
        ∙ (split-last (HaveOneTree e.kept w) e.equal pair k.equal).1.along path
        ∙ sym (rule_value e.kept w e.next rule.vars (given w) (λ x h p. refl) rule.head head-over path)
        ∙ sym (fl.head.tree (given w) path);
  }

  -- a head that is refused has no solution
  pub refused_unsolvable : IsRefused flat.template old node → AreSolvable (called_equations e call rule) [] → ⊥
  refused_unsolvable refused k =
      let v = r.solved (cut e.next k.v) (cut_solves e rule.vars scoped k.v k.solves.valuation (split-last (HaveOneTree e.kept k.v) e.equal pair k.solves.equal).0) in
      refused v.0 v.1 (given k.v) (head-matches k.v k.solves v.0 v.1 v.2.along)

  module _ (mid new : System) (sound : IsSystem old) (before after : List (Option ℕ)) (m : IsMatched flat.template old mid node before) (b : IsBodyBuilt flat.template mid new before after) where
    abbrev more : List ℕ
    more = register_nodes after rule.vars

    grows : Grows old new
    grows = grows-trans old mid new m.grows b.grows

    size : length more ≡ rule.vars
    size = length-map-range_with_len (register_at after) 0 rule.vars

    known : (x : ℕ) → x < rule.vars → slice_get more x ≡ Some (register_at after x)
    known x h =
        let few = size in
        slice_get-get_or more x 0 (omega arith) ∙ ap Some (get_or-map-range_with_len (register_at after) 0 rule.vars x x 0 h (omega arith))

    var-inside : (x : ℕ) → x < rule.vars → x < flat.template.vars
    var-inside x h = let e = fl.vars in omega arith

    -- each variable has a register
    var-node : (x : ℕ) → x < rule.vars → HasNode after x (register_at after x)
    var-node x h =
        let t = fl.template in
        let e = fl.vars in
        let a = t.vars_in in
        let c = t.head_in in
        let n = b.filled x (omega arith) (inl (var-inside x h)) in
        subst (HasNode after x) (sym (register-is after x n.0 n.1)) n.1

    within : All (λ n. n < length new.nodes) more
    within = All-from_get_or (λ n. n < length new.nodes) more 0 (λ x h.
        let few = size in
        let here : x < rule.vars = omega arith in
        subst (λ n. n < length new.nodes) (sym (get_or-map-range_with_len (register_at after) 0 rule.vars x x 0 here (omega arith))) (b.inside x (register_at after x) (var-node x here)))

    abbrev now : Valuation → Trees
    now v x path = value v (register_at after x) path

    -- in a solution each register has the tree of its place
    hold-vars : (v : Valuation) → Hold nodes after v (now v)
    hold-vars v x n free has path = ap (λ k. value v k path) (sym (register-is after x n has))

    hold-before : (v : Valuation) → InSol new v → HoldAll nodes before v (now v)
    hold-before v sol place n has =
        let inside = m.inside place n has in
        matches-back nodes (now v) mid new m.system b.grows v sol place n inside
        (m.only (cut (length mid.nodes) v) (restricted mid new m.system b.grows v sol) (now v)
        (λ x k free there path. older-value mid new m.system b.grows v sol k (m.inside x k there) path ∙ hold-vars v x k free (b.kept x k there) path) place n has)

    hold-all : (v : Valuation) → InSol new v → HoldAll nodes after v (now v)
    hold-all v sol = b.only v sol (now v) (hold-vars v) (hold-before v sol)

    -- a term of the rule has the tree that the registers give it
    now-value : (v : Valuation) → InSol new v → (term : Term) → IsTermOver rule.vars term → (path : List ℕ)
        → rule_tree (now v) term path ≡ subject_value e.kept (of_vars (vars ++ more) v) (Renamed e.next term) path
    now-value v sol term over path =
        rule_value e.kept (of_vars (vars ++ more) v) e.next rule.vars (now v)
        (λ x h p. sym (new-value e old new vars r sound grows scoped rule.vars more size within (e.equal ++ pair ∷ []) v sol x (register_at after x) (known x h) p)) term over path

    holds : (v : Valuation) → InSol new v → All (HaveOneTree e.kept (of_vars (vars ++ more) v)) (e.equal ++ pair ∷ [])
    holds v sol = All-push (HaveOneTree e.kept (of_vars (vars ++ more) v)) e.equal pair
        (earlier-hold e old new vars r sound grows scoped rule.vars more size within (e.equal ++ pair ∷ []) v sol)
        (record {
          along = λ path.
              sym (still-value e old new vars r sound grows scoped rule.vars more size within (e.equal ++ pair ∷ []) v sol call uses path)
              ∙ sym ((denotes_more e old new vars r sound grows node call st).tree v sol path)
              ∙ (hold-all v sol flat.template.head node (b.kept flat.template.head node m.head)).along path
              ∙ fl.head.tree (now v) path
              ∙ now-value v sol rule.head head-over path;
        })

    -- a valuation's graph is made larger, so that it has the trees of all places
    record IsEnlarged (v : Valuation) (trees : Trees) : Type 0 where
      u : Valuation
      solves : InSol mid u
      on : Continues v u
      there : AreThere nodes u trees

    few-vars : flat.template.vars ≤ length nodes
    few-vars = let t = fl.template in let a = t.vars_in in let c = t.head_in in omega arith

    free-place : (x : ℕ) → x < length nodes → label_of nodes x ≡ None → x < flat.template.vars
    free-place x h none = elim (cases_lt x flat.template.vars) [
      | inl few ↦ few
      | inr many ↦ absurd (fl.template.labelled x many h none)
    ]

    enlarged : (v : Valuation) → InSol mid v → (w : Valuation) → IsValuation rule.vars w → IsEnlarged v (λ x path. value w x path)
    enlarged v sol w valid =
        let t = fl.template in
        let big = copied mid m.system nodes t.older in
        let valid_too : IsValuation flat.template.vars w = subst (λ n. IsValuation n w) (sym fl.vars) valid in
        let c = copy-free mid m.system nodes t.older flat.template.vars few-vars (λ x h. t.first x h) v w sol valid_too in
        let more_nodes = grows-nodes (shifted (length mid.nodes) nodes) mid in
        let count = sol.valuation.each in
        let u : Valuation = cut (length mid.nodes) c.0 in
        record {
          u = u;
          solves = restricted mid big m.system more_nodes c.0 c.1;
          on = record {
            graph = c.2.graph;
            nodes = ap (λ n. take (length v.nodes) (take n c.0.nodes)) (sym count) ∙ take-take (length v.nodes) (length v.nodes) c.0.nodes (omega arith) ∙ c.2.nodes;
          };
          there = λ p h.
              let all = copied-size mid m.system nodes t.older in
              let each = c.1.valuation.each in
              let place : length mid.nodes + p < length c.0.nodes = omega arith in
              record {
                node = get_or c.0.nodes (length mid.nodes + p) 0;
                inside = All-get_or (λ n. n < length c.0.graph) c.0.nodes (length mid.nodes + p) 0 place c.1.valuation.inside;
                same = λ path.
                    sym (ap (option_and_then (λ n. at c.0.graph n path)) (slice_get-get_or c.0.nodes (length mid.nodes + p) 0 place))
                    ∙ copy-tree mid m.system nodes t.older c.0 c.1 p h path
                    ∙ tree-at-same nodes t.older (trees_at c.0 (new_variable mid)) (λ x path. value w x path) (λ x k none q. c.3 x (free-place x k none) q) path p h;
              };
        }

    -- a solution of the call's equations goes on as one of the new system
    free : (w : Valuation) → Solves (called_equations e call rule) w → (v : Valuation) → InSol old v → ((x : ℕ) (path : List ℕ) → value (of_vars vars v) x path ≡ value (cut e.next w) x path)
        → (u : Valuation) × InSol new u × Continues v u × ((x n : ℕ) → slice_get more x ≡ Some n → (path : List ℕ) → value u n path ≡ value (last_trees e.next w) x path)
    free w k v sol same = go (m.all v sol (given w) (head-matches w k v sol same))
      where
        go : IsCarried nodes v mid before (given w)
            → (u : Valuation) × InSol new u × Continues v u × ((x n : ℕ) → slice_get more x ≡ Some n → (path : List ℕ) → value u n path ≡ value (last_trees e.next w) x path)
        go c =
            let big = enlarged c.u c.solves (last_trees e.next w) (last_valid e.next rule.vars w k.valuation) in
            let older = (fl.template).older in
            let alike : (x : ℕ) → x < length nodes → label_of nodes x ≡ None → (path : List ℕ) → value (last_trees e.next w) x path ≡ given w x path = λ x h none path. last_value e.next w x path in
            let there : AreThere nodes big.u (given w) = λ p h.
            let t = big.there p h in
            record { node = t.node; inside = t.inside; same = λ path. t.same path ∙ tree-at-same nodes older (λ x q. value (last_trees e.next w) x q) (given w) alike path p h } in
            let hold : HoldAll nodes before big.u (given w) = λ place n has.
            record {
              along = λ path.
                  trees_stay (length mid.nodes) c.u big.u c.solves.valuation big.on n (m.inside place n has) path ∙ (c.hold place n has).along path;
            } in
            let d = b.all big.u big.solves (given w) hold there in (
              d.u,
              d.solves,
              continues-trans v c.u d.u (later-continues v c.u c.later) (continues-trans c.u big.u d.u big.on (later-continues big.u d.u d.later)),
              λ x n at_x path.
                  let few = size in
                  let inside = slice_get_within more x n at_x in
                  let h : x < rule.vars = omega arith in
                  let own : register_at after x ≡ n = same_Some (register_at after x) n (sym (known x h) ∙ at_x) in
                  let free : label_of nodes x ≡ None = (fl.template).first x (var-inside x h) in
                  ap (λ n. value d.u n path) (sym own)
                  ∙ (d.hold x (register_at after x) (var-node x h)).along path
                  ∙ tree-free nodes (given w) x free path
                  ∙ sym (last_value e.next w x path),
            )

    goals-denoted : (goals : List Goal) (places : List FlatGoal) → All (IsRulePart rule.vars) (flat_map parts_of_goal goals)
        → AllPaired (IsFlatGoal nodes flat.template.vars (flat.template.head + 1)) goals places
        → AllPaired (IsHeldGoal (called_equations e call rule) new (vars ++ more) e.next after) goals places
    goals-denoted [] [] parts h = tt
    goals-denoted [] (c ∷ places) parts h = absurd h
    goals-denoted (g ∷ goals) [] parts h = absurd h
    goals-denoted (goal.Call term ∷ goals) (laid.Call place ∷ places) parts h = (
      λ n has. record {
        inside = b.inside place n has;
        tree = λ v sol path. (hold-all v sol place n has).along path ∙ h.0.0.tree (now v) path
            ∙ now-value v sol term (over-parts rule.vars term (all-before (IsRulePart rule.vars) (parts_of term) (flat_map parts_of_goal goals) parts)) path;
      },
      goals-denoted goals places (all-after (IsRulePart rule.vars) (parts_of term) (flat_map parts_of_goal goals) parts) h.1,
    )
    goals-denoted (goal.Cut ∷ goals) (laid.Cut ∷ places) parts h = (tt, goals-denoted goals places parts h.1)
    goals-denoted (goal.Cut ∷ goals) (laid.Call place ∷ places) parts h = absurd h.0
    goals-denoted (goal.Call term ∷ goals) (laid.Cut ∷ places) parts h = absurd h.0

    pub called_by : IsCalledBy e old new vars call rule flat after
    called_by = record {
      represents = represents_variables e old new vars r sound grows scoped rule.vars more size within (e.equal ++ pair ∷ [])
          (λ w h. (split-last (HaveOneTree e.kept w) e.equal pair h).0) holds free;
      denotes = denotes_still e old new vars r sound grows scoped rule.vars more size within (e.equal ++ pair ∷ []);
      body = goals-denoted rule.body flat.goals.items (body-parts rule is) fl.goals;
    }
