-- A rule's nodes in a store: their trees, and solutions in which the variables have any trees.
use Rattle.std.proofs.Common.{◌≡◌, ℕ, zero, suc, ◌+◌, ◌<◌, ◌≤◌, List, [], ◌∷◌, ◌++◌, length, map, take, get_or, slice_get, Option, Some, None, option_and_then, option_map, refl, sym, ap, ◌∙◌, subst, arith, All, inl, inr, length-append, append_assoc, append-nil, add-zero}
use Rattle.std.proofs.lemmas.List.{length-map, get_or-append-add, get_or-map, take_all, take-append-le, take-take}
use Rattle.std.proofs.lemmas.List.Elements.{All-get_or, All-weaker, All-map, All-head, All-tail}
use Rattle.std.proofs.lemmas.Option.{slice_get-get_or, slice_get_within, slice_get-map, same_Some, none-some}
use Rattle.mars_tree.specs.declared.label.Label.{Label}
use Rattle.mars_tree.specs.Graph.{Node, IsNode, at, label_of, kids_of, free_leaf}
use Rattle.mars_store.specs.Valuation.{Valuation, IsValuation, value}
use Rattle.mars_store.specs.System.{System, IsSystem, Grows, with_node}
use Rattle.mars_store.specs.Solutions.{InSol, over}
use Rattle.mars_store.specs.Growing.{Continues, FitsNode, with_start}
use Rattle.mars_store.proofs.CallerLemmas.{system-node, node_continued, start-solves, start-new, grows-node, grows-refl, grows-trans, trees_stay, cases-label}
use Rattle.mars_matching.specs.Trees.{tree_at}
use Rattle.mars_matching.proofs.Steps.{tree-free, tree-labelled}
use Rattle.mars_rules.specs.CopyingInside.{shifted, shifted_node, with_nodes}
use Rattle.mars_rules.specs.Instances.{trees_at, new_variable, TakeAnyTrees}
use Rattle.mars_rules.proofs.Enlarged.{joined, joined-on, joined-solves, joined-tree}

-- the nodes follow so many others: each is over older ones
abbrev pub Follow : ℕ → List Node → Type 0
Follow count [] = Unit {0}
Follow count (node ∷ nodes) = IsNode count node × Follow (count + 1) nodes

pub follow-push : (count : ℕ) (nodes : List Node) (node : Node) → Follow count nodes → IsNode (count + length nodes) node → Follow count (nodes ++ node ∷ [])
follow-push count [] node f is = (subst (λ n. IsNode n node) (add-zero count) is, tt)
follow-push count (x ∷ nodes) node f is = (f.0, follow-push (count + 1) nodes node f.1 (subst (λ n. IsNode n node) (omega arith) is))

same-system : (s : System) (node : Node) (nodes : List Node) → with_nodes (with_node s node) nodes ≡ with_nodes s (node ∷ nodes)
same-system s node nodes = ap (λ ns. record s { nodes = ns }) (append_assoc s.nodes (node ∷ []) nodes)

pub none-added : (s : System) → s ≡ with_nodes s []
none-added s = ap (λ ns. record s { nodes = ns }) (sym (append-nil s.nodes))

next-follow : (s : System) (node : Node) (nodes : List Node) → Follow (length s.nodes + 1) nodes → Follow (length (with_node s node).nodes) nodes
next-follow s node nodes f = subst (λ n. Follow n nodes) (sym (length-append s.nodes (node ∷ []))) f

pub system-nodes : (nodes : List Node) (s : System) → IsSystem s → Follow (length s.nodes) nodes → IsSystem (with_nodes s nodes)
system-nodes [] s sound f = subst IsSystem (none-added s) sound
system-nodes (node ∷ nodes) s sound f =
    subst IsSystem (same-system s node nodes) (system-nodes nodes (with_node s node) (system-node s node sound f.0) (next-follow s node nodes f.1))

pub grows-nodes : (nodes : List Node) (s : System) → Grows s (with_nodes s nodes)
grows-nodes [] s = subst (Grows s) (none-added s) (grows-refl s)
grows-nodes (node ∷ nodes) s =
    subst (Grows s) (same-system s node nodes) (grows-trans s (with_node s node) (with_nodes (with_node s node) nodes) (grows-node s node) (grows-nodes nodes (with_node s node)))

pub continues-refl : (v : Valuation) → Continues v v
continues-refl v = record { graph = take_all (length v.graph) v.graph (omega arith); nodes = take_all (length v.nodes) v.nodes (omega arith) }

short : {X : Type 0} (n : ℕ) (xs : List X) → length (take n xs) ≤ length xs
short zero xs = omega arith
short (suc n) [] = omega arith
short (suc n) (x ∷ xs) = omega (arith, short n xs)

front-trans : {X : Type 0} (a b c : List X) → take (length a) b ≡ a → take (length b) c ≡ b → take (length a) c ≡ a
front-trans a b c e f =
    let few : length a ≤ length b = omega (arith, ap length e, short (length a) b) in
    sym (take-take (length a) (length b) c few) ∙ ap (take (length a)) f ∙ e

pub continues-trans : (v w u : Valuation) → Continues v w → Continues w u → Continues v u
continues-trans v w u f g = record { graph = front-trans v.graph w.graph u.graph f.graph g.graph; nodes = front-trans v.nodes w.nodes u.nodes f.nodes g.nodes }

start-on : (v : Valuation) (start : ℕ) → Continues v (with_start v start)
start-on v start = record {
  graph = take_all (length v.graph) v.graph (omega arith);
  nodes = take-append-le (length v.nodes) v.nodes (start ∷ []) (omega arith) ∙ take_all (length v.nodes) v.nodes (omega arith);
}

-- each solution continues to one with the nodes
pub continued-nodes : (nodes : List Node) (s : System) → IsSystem s → Follow (length s.nodes) nodes → (v : Valuation) → InSol s v
    → (u : Valuation) × InSol (with_nodes s nodes) u × Continues v u
continued-nodes [] s sound f v sol = (v, subst (λ t. InSol t v) (none-added s) sol, continues-refl v)
continued-nodes (node ∷ nodes) s sound f v sol =
    let w = node_continued s node sound f.0 v sol in
    let u = continued-nodes nodes (with_node s node) (system-node s node sound f.0) (next-follow s node nodes f.1) w.0 w.1 in
    (u.0, subst (λ t. InSol t u.0) (same-system s node nodes) u.1, continues-trans v w.0 u.0 w.2 u.2)

-- the first of these nodes are variables
abbrev pub AreVariables : ℕ → List Node → Type 0
AreVariables count nodes = (x : ℕ) → x < count → label_of nodes x ≡ None

-- a solution in which the first nodes have the trees of these nodes of the graph
pub record IsStarted (s : System) (nodes : List Node) (starts : List ℕ) (v : Valuation) : Type 0 where
  pub u : Valuation
  pub solves : InSol (with_nodes s nodes) u
  pub on : Continues v u
  pub trees : (x start : ℕ) → slice_get starts x ≡ Some start → (path : List ℕ) → value u (length s.nodes + x) path ≡ at v.graph start path

pub started-nodes : (nodes : List Node) (s : System) → IsSystem s → Follow (length s.nodes) nodes → (starts : List ℕ) → length starts ≤ length nodes → AreVariables (length starts) nodes
    → (v : Valuation) → InSol s v → All (λ start. start < length v.graph) starts → IsStarted s nodes starts v
started-nodes nodes s sound f [] few free v sol inside =
    let u = continued-nodes nodes s sound f v sol in
    record { u = u.0; solves = u.1; on = u.2; trees = λ x start e. absurd (none-some start e) }
started-nodes [] s sound f (start ∷ starts) few free v sol inside = absurd (omega arith)
started-nodes (node ∷ nodes) s sound f (start ∷ starts) few free v sol inside =
    let t : System = with_node s node in
    let fits : FitsNode v start node = record {
      inside = All-head (λ n. n < length v.graph) start starts inside;
      tree = λ label e path. let none : None ≡ Some label = sym (free 0 (omega arith)) ∙ e in absurd (none-some label none);
    } in
    let w : Valuation = with_start v start in
    let solved : InSol t w = start-solves s node sound f.0 v start sol fits in
    let rest = started-nodes nodes t (system-node s node sound f.0) (next-follow s node nodes f.1) starts (omega arith) (λ x h. free (suc x) (omega arith)) w solved
    (All-tail (λ n. n < length v.graph) start starts inside) in
    let more = length-append s.nodes (node ∷ []) in
    record {
      u = rest.u;
      solves = subst (λ r. InSol r rest.u) (same-system s node nodes) rest.solves;
      on = continues-trans v w rest.u (start-on v start) rest.on;
      trees = λ x. go rest x;
    }
  where
    go : (rest : IsStarted (with_node s node) nodes starts (with_start v start)) → (x first : ℕ) → slice_get (start ∷ starts) x ≡ Some first → (path : List ℕ)
        → value rest.u (length s.nodes + x) path ≡ at v.graph first path
    go rest zero first e path =
        let size : length v.nodes ≡ length s.nodes = sol.valuation.each in
        let many = length-append s.nodes (node ∷ []) in
        let valid : IsValuation (length (with_node s node).nodes) (with_start v start) = (start-solves s node sound f.0 v start sol (record {
          inside = All-head (λ n. n < length v.graph) start starts inside;
          tree = λ label e path. let none : None ≡ Some label = sym (free 0 (omega arith)) ∙ e in absurd (none-some label none);
        })).valuation in
        ap (λ n. value rest.u n path) (add-zero (length s.nodes))
        ∙ trees_stay (length (with_node s node).nodes) (with_start v start) rest.u valid rest.on (length s.nodes) (omega (arith, many)) path
        ∙ start-new v start (length s.nodes) (sym size) path
        ∙ ap (λ n. at v.graph n path) (same_Some start first e)
    go rest (suc x) first e path =
        ap (λ n. value rest.u n path) (omega (arith, length-append s.nodes (node ∷ []))) ∙ rest.trees x first e path

follow-shifted : (base first : ℕ) (nodes : List Node) → ((i : ℕ) → i < length nodes → IsNode (first + i) (get_or nodes i free_leaf)) → Follow (base + first) (shifted base nodes)
follow-shifted base first [] each = tt
follow-shifted base first (node ∷ nodes) each = (
  record {
    kids = length-map node.kids (λ kid. base + kid) ∙ (each 0 (omega arith)).kids;
    in_range = All-map (λ kid. kid < base + first) (λ kid. base + kid) node.kids
        (All-weaker (λ kid. kid < first + 0) (λ kid. base + kid < base + first) (λ kid h. omega arith) node.kids (each 0 (omega arith)).in_range);
  },
  subst (λ n. Follow n (shifted base nodes)) (omega arith)
      (follow-shifted base (first + 1) nodes (λ i h. subst (λ n. IsNode n (get_or nodes i free_leaf)) (omega arith) (each (suc i) (omega arith)))),
)

pub follows : (base : ℕ) (nodes : List Node) → ((place : ℕ) → IsNode place (get_or nodes place free_leaf)) → Follow base (shifted base nodes)
follows base nodes older = subst (λ n. Follow n (shifted base nodes)) (add-zero base) (follow-shifted base 0 nodes (λ i h. let e : i ≡ 0 + i = omega arith in subst (λ n. IsNode n (get_or nodes i free_leaf)) e (older i)))

module _ (s : System) (sound : IsSystem s) (nodes : List Node) (older : (place : ℕ) → IsNode place (get_or nodes place free_leaf)) where
  abbrev pub copied : System
  copied = with_nodes s (shifted (length s.nodes) nodes)

  pub copied-system : IsSystem copied
  copied-system = system-nodes (shifted (length s.nodes) nodes) s sound (follows (length s.nodes) nodes older)

  pub copied-size : length copied.nodes ≡ length s.nodes + length nodes
  copied-size = length-append s.nodes (shifted (length s.nodes) nodes) ∙ ap (λ n. length s.nodes + n) (length-map nodes (shifted_node (length s.nodes)))

  copy-is : (p : ℕ) → p < length nodes → get_or copied.nodes (length s.nodes + p) free_leaf ≡ shifted_node (length s.nodes) (get_or nodes p free_leaf)
  copy-is p h = get_or-append-add s.nodes (shifted (length s.nodes) nodes) p free_leaf ∙ get_or-map (shifted_node (length s.nodes)) nodes p free_leaf free_leaf h

  copy-step : (v : Valuation) → InSol copied v → (p : ℕ) → p < length nodes → (label : Label) → label_of nodes p ≡ Some label → (k : ℕ) (path : List ℕ)
      → ((kid : ℕ) → kid < p → value v (length s.nodes + kid) path ≡ tree_at nodes (trees_at v (new_variable s)) kid path)
      → value v (length s.nodes + p) (k ∷ path) ≡ tree_at nodes (trees_at v (new_variable s)) p (k ∷ path)
  copy-step v sol p h label some k path earlier =
      sol.labelled (length s.nodes + p) label (ap (λ (node : Node). node.label) (copy-is p h) ∙ some) (k ∷ path)
      ∙ ap (λ (node : Node). over label node.kids (value v) (k ∷ path)) (copy-is p h)
      ∙ ap (option_and_then (λ kid. value v kid path)) (slice_get-map (λ kid. length s.nodes + kid) (kids_of nodes p) k)
      ∙ each (slice_get (kids_of nodes p) k) refl
      ∙ sym (tree-labelled nodes (trees_at v (new_variable s)) p label some (k ∷ path))
    where
      each : (o : Option ℕ) → slice_get (kids_of nodes p) k ≡ o
          → option_and_then (λ kid. value v kid path) (option_map (λ kid. length s.nodes + kid) o) ≡ option_and_then (λ kid. tree_at nodes (trees_at v (new_variable s)) kid path) o
      each None e = refl
      each (Some kid) e =
          let w = slice_get_within (kids_of nodes p) k kid e in
          let same : get_or (kids_of nodes p) k 0 ≡ kid = same_Some (get_or (kids_of nodes p) k 0) kid (sym (slice_get-get_or (kids_of nodes p) k 0 w) ∙ e) in
          earlier kid (rw (← same) (All-get_or (λ n. n < p) (kids_of nodes p) k 0 w (older p).in_range))

  -- in each solution the copy of a place has its tree, where the variables' copies are the variables
  pub copy-tree : (v : Valuation) → InSol copied v → (p : ℕ) → p < length nodes → (path : List ℕ)
      → value v (length s.nodes + p) path ≡ tree_at nodes (trees_at v (new_variable s)) p path
  copy-tree v sol p h [] = elim (cases-label (label_of nodes p)) [
    | inl none ↦ sym (tree-free nodes (trees_at v (new_variable s)) p none [])
    | inr (label, some) ↦
        sol.labelled (length s.nodes + p) label (ap (λ (node : Node). node.label) (copy-is p h) ∙ some) [] ∙ sym (tree-labelled nodes (trees_at v (new_variable s)) p label some [])
  ]
  copy-tree v sol p h (k ∷ path) = elim (cases-label (label_of nodes p)) [
    | inl none ↦ sym (tree-free nodes (trees_at v (new_variable s)) p none (k ∷ path))
    | inr (label, some) ↦ copy-step v sol p h label some k path (λ kid l. copy-tree v sol kid (omega arith) path)
  ]

  -- each solution of before goes on to one in which the variables have any trees
  pub copy-free : (vars : ℕ) → vars ≤ length nodes → AreVariables vars nodes → TakeAnyTrees s copied vars (new_variable s)
  copy-free vars few free v w sol valid =
      let j : Valuation = joined v w in
      let move : ℕ → ℕ = λ n. length v.graph + n in
      let starts : List ℕ = map move w.nodes in
      let size : length starts ≡ vars = length-map w.nodes move ∙ valid.each in
      let solves : InSol s j = joined-solves v w (length s.nodes) sol.valuation vars valid s sound sol refl in
      let many = length-append v.graph (shifted (length v.graph) w.graph) ∙ ap move (length-map w.graph (shifted_node (length v.graph))) in
      let inside : All (λ n. n < length j.graph) starts =
      All-map (λ n. n < length j.graph) move w.nodes (All-weaker (λ n. n < length w.graph) (λ n. move n < length j.graph) (λ n h. omega (arith, many)) w.nodes valid.inside) in
      let k = started-nodes (shifted (length s.nodes) nodes) s sound (follows (length s.nodes) nodes older) starts
      (omega (arith, size, length-map nodes (shifted_node (length s.nodes)))) (λ x h. shifted-free x (omega (arith, size))) j solves inside in (
        k.u,
        k.solves,
        continues-trans v j k.u (joined-on v w (length s.nodes) sol.valuation vars valid) k.on,
        λ x h path.
            let l : x < length w.nodes = omega (arith, valid.each) in
            let n : ℕ = get_or w.nodes x 0 in
            let there : slice_get w.nodes x ≡ Some n = slice_get-get_or w.nodes x 0 l in
            k.trees x (move n) (slice_get-map move w.nodes x ∙ ap (option_map move) there) path
            ∙ joined-tree v w (length s.nodes) sol.valuation vars valid n (All-get_or (λ m. m < length w.graph) w.nodes x 0 l valid.inside) path
            ∙ sym (ap (option_and_then (λ m. at w.graph m path)) there),
      )
    where
      shifted-free : (x : ℕ) → x < vars → label_of (shifted (length s.nodes) nodes) x ≡ None
      shifted-free x h = ap (λ (node : Node). node.label) (get_or-map (shifted_node (length s.nodes)) nodes x free_leaf free_leaf (omega arith)) ∙ free x h
