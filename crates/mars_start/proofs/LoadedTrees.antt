-- Kept trees, as they are loaded.
use Rattle.std.proofs.Common.{◌≡◌, ◌≢◌, ◌⊎◌, ℕ, zero, suc, ◌+◌, ◌<◌, ◌≤◌, List, [], ◌∷◌, ◌++◌, length, length-append, map, take, get_or, slice_get, slice_index, Some, None, option_and_then, All, refl, sym, ap, ◌∙◌, subst, arith, inl, inr, add-one}
use Rattle.std.specs.List.{range_with_len}
use Rattle.std.proofs.lemmas.Bool.{cases_lt, lt-ltb}
use Rattle.std.proofs.lemmas.List.{length-map, get_or_append_left, get_or_at}
use Rattle.std.proofs.lemmas.List.Elements.{All-get_or, All-map, All-weaker, All-push, All-head, All-tail}
use Rattle.std.proofs.lemmas.List.FromFn.{length-range_with_len, get_or-range_with_len}
use Rattle.mars_tree.specs.declared.label.Label.{Label}
use Rattle.mars_tree.specs.Graph.{Node, IsNode, IsGraph, IsGround, label_of, kids_of, free_leaf, at}
use Rattle.mars_store.specs.Valuation.{Valuation, value}
use Rattle.mars_store.specs.System.{System, IsSystem, IsLink, IsUnbound, Grows, rank, rank_of, equation_of, with_node}
use Rattle.mars_store.specs.Solutions.{InSol, over}
use Rattle.mars_store.specs.Growing.{cut}
use Rattle.mars_store.proofs.CallerLemmas.{grows-refl, grows-trans, grows-node, grows-linked, system-node, leaf_node, older-value, restricted, over-same, equation_solved, at-labelled, cases-label}
use Rattle.mars_rules.proofs.Paired.{paired-step}
use Rattle.mars_rules.proofs.CopyingSteps.{range-inside}
use Rattle.mars_start.specs.LoadingInside.{with_frees, node_among, with_value, ShowsNode, IsFreeNode, AreNodesLoaded, HasTree, IsTreeLoaded, AreTreesLoaded}
use Rattle.mars_start.proofs.Growing.{inside-grows, trees-grow}

-- variables more
pub frees-next : (s : System) (count : ℕ) → with_frees s (count + 1) ≡ with_node (with_frees s count) free_leaf
frees-next s count = ap (with_frees s) (add-one count)

pub frees-count : (s : System) (count : ℕ) → length (with_frees s count).nodes ≡ length s.nodes + count
frees-count s zero = omega arith
frees-count s (suc count) = omega (arith, frees-count s count, length-append (with_frees s count).nodes (free_leaf ∷ []))

pub frees-grow : (s : System) (count : ℕ) → Grows s (with_frees s count)
frees-grow s zero = grows-refl s
frees-grow s (suc count) = grows-trans s (with_frees s count) (with_frees s (suc count)) (frees-grow s count) (grows-node (with_frees s count) free_leaf)

pub frees-system : (s : System) (count : ℕ) → IsSystem s → IsSystem (with_frees s count)
frees-system s zero sound = sound
frees-system s (suc count) sound = system-node (with_frees s count) free_leaf (frees-system s count sound) (leaf_node (length (with_frees s count).nodes))

frees-bound : (s : System) (count : ℕ) → (with_frees s count).bound ≡ s.bound
frees-bound s zero = refl
frees-bound s (suc count) = frees-bound s count

frees-free : (s : System) (count i : ℕ) → i < count → label_of (with_frees s count).nodes (length s.nodes + i) ≡ None
frees-free s zero i h = absurd (omega arith)
frees-free s (suc count) i h = go (cases_lt i count) (frees-free s count i)
  where
    go : (i < count) ⊎ (count ≤ i) → (i < count → label_of (with_frees s count).nodes (length s.nodes + i) ≡ None) → label_of (with_frees s (suc count)).nodes (length s.nodes + i) ≡ None
    go (inl l) before =
        let size = frees-count s count in
        ap (λ (n : Node). n.label) (get_or_append_left (with_frees s count).nodes (free_leaf ∷ []) free_leaf (length s.nodes + i) (omega arith)) ∙ before l
    go (inr l) before =
        let size = frees-count s count in
        ap (λ (n : Node). n.label) (get_or_at (with_frees s count).nodes free_leaf [] free_leaf (length s.nodes + i) (omega arith))

-- a variable that was added is unbound
frees-unbound : (s : System) (count i : ℕ) → IsSystem s → IsUnbound (with_frees s count).bound (length s.nodes + i)
frees-unbound s count i sound =
    subst (λ (b : List (ℕ × ℕ)). IsUnbound b (length s.nodes + i)) (sym (frees-bound s count))
    (All-weaker (IsLink s.nodes) (λ equation. equation.0 ≢ length s.nodes + i) (λ equation link e. let h = link.variable.inside in absurd (omega arith)) s.bound sound.links)

-- no node was loaded yet
pub loading-starts : (s : System) (graph : List Node) (nodes : List ℕ) → IsSystem s → nodes ≡ range_with_len (length s.nodes) (length graph)
    → AreNodesLoaded s nodes graph (with_frees s (length graph)) 0
loading-starts s graph nodes sound is = record {
  grows = frees-grow s (length graph);
  system = frees-system s (length graph) sound;
  size = ap length is ∙ length-range_with_len (length s.nodes) (length graph);
  inside = rw is (range-inside (length s.nodes) (length graph) (length (with_frees s (length graph)).nodes) (omega (arith, frees-count s (length graph))));
  apart = λ i j h w e. let a = at_place i (omega arith) in let b = at_place j w in absurd (omega arith);
  done = λ i h. absurd (omega arith);
  left = λ i h w. rw (at_place i w) (record { free = frees-free s (length graph) i w; unbound = frees-unbound s (length graph) i sound });
}
  where
    at_place : (i : ℕ) → i < length graph → get_or nodes i 0 ≡ length s.nodes + i
    at_place i h = ap (λ ns. get_or ns i 0) is ∙ get_or-range_with_len (length s.nodes) (length graph) i 0 h

-- a kid's node is a node of the store
kid-inside : (graph : List Node) (nodes : List ℕ) (size kid : ℕ) → length nodes ≡ length graph → All (λ n. n < size) nodes → kid < length graph → slice_index nodes kid < size
kid-inside graph nodes size kid same inside h = All-get_or (λ n. n < size) nodes kid 0 (omega arith) inside

graph-node : (graph : List Node) (k : ℕ) → IsGraph graph → k < length graph → IsNode (length graph) (get_or graph k free_leaf)
graph-node graph k is h = All-get_or (IsNode (length graph)) graph k free_leaf h is

-- the next node, over nodes of the store
pub node-is : (graph : List Node) (nodes : List ℕ) (size k : ℕ) → IsGraph graph → length nodes ≡ length graph → All (λ n. n < size) nodes → k < length graph
    → IsNode size (node_among nodes (get_or graph k free_leaf))
node-is graph nodes size k is same inside h =
    let node = graph-node graph k is h in record {
      kids = length-map (kids_of graph k) (slice_index nodes) ∙ node.kids;
      in_range = All-map (λ n. n < size) (slice_index nodes) (kids_of graph k)
          (All-weaker (λ kid. kid < length graph) (λ kid. slice_index nodes kid < size) (λ kid l. kid-inside graph nodes size kid same inside l) (kids_of graph k) node.in_range);
    }

-- what a node shows it still shows after more was added
shows-grows : (old new : System) → IsSystem old → Grows old new → (graph : List Node) (nodes : List ℕ) → IsGraph graph → length nodes ≡ length graph → All (λ n. n < length old.nodes) nodes
    → (i : ℕ) → i < length graph → ShowsNode old nodes graph i → ShowsNode new nodes graph i
shows-grows old new sound grows graph nodes is same inside i h shows label at_label v sol path =
    let size : ℕ = length old.nodes in
    let node = node-is graph nodes size i is same inside h in
    sym (older-value old new sound grows v sol (slice_index nodes i) (kid-inside graph nodes size i same inside h) path)
    ∙ shows label at_label (cut size v) (restricted old new sound grows v sol) path
    ∙ over-same label (map (slice_index nodes) (kids_of graph i)) (value (cut size v)) (value v) size node.in_range (λ kid k path. older-value old new sound grows v sol kid k path) path

-- the node that was bound last shows its own
module _ (now : System) (sound : IsSystem now) (graph : List Node) (nodes : List ℕ) (k : ℕ) (is : IsGraph graph) (same : length nodes ≡ length graph)
    (inside : All (λ n. n < length now.nodes) nodes) (h : k < length graph) where
  abbrev node : Node
  node = node_among nodes (get_or graph k free_leaf)

  abbrev mid : System
  mid = with_node now node

  abbrev new : System
  new = with_value now (slice_index nodes k) node

  last-node : get_or mid.nodes (length now.nodes) free_leaf ≡ node
  last-node = get_or_at now.nodes node [] free_leaf (length now.nodes) refl

  pub last-shows : ShowsNode new nodes graph k
  last-shows label at_label v sol path =
      let both = (equation_solved mid (slice_index nodes k) (length now.nodes) v).0 sol in
      both.1.along path
      ∙ both.0.labelled (length now.nodes) label (ap (λ (n : Node). n.label) last-node ∙ at_label) path
      ∙ ap (λ (n : Node). over label n.kids (value v) path) last-node

  pub value-grows : Grows now new
  value-grows = grows-trans now mid new (grows-node now node) (grows-linked mid (slice_index nodes k) (length now.nodes))

  -- a variable that wasn't bound, of a labelled node: it is bound to that
  value-bound : (label : Label) → label_of graph k ≡ Some label → label_of now.nodes (slice_index nodes k) ≡ None → new.bound ≡ now.bound ++ (slice_index nodes k, length now.nodes) ∷ []
  value-bound label at_label free = ap (λ (e : ℕ × ℕ). now.bound ++ e ∷ []) turned
    where
      var : ℕ
      var = slice_index nodes k

      low : rank mid.nodes (length now.nodes) ≡ 0
      low = ap (λ (n : Node). rank_of n.label (length now.nodes)) last-node ∙ ap (λ o. rank_of o (length now.nodes)) at_label

      high : rank mid.nodes (slice_index nodes k) ≡ slice_index nodes k + 1
      high =
          let here = kid-inside graph nodes (length now.nodes) k same inside h in
          ap (λ (n : Node). rank_of n.label (slice_index nodes k)) (get_or_append_left now.nodes (node ∷ []) free_leaf (slice_index nodes k) here) ∙ ap (λ o. rank_of o (slice_index nodes k)) free

      turned : equation_of mid.nodes (slice_index nodes k) (length now.nodes) ≡ (slice_index nodes k, length now.nodes)
      turned = rw (lt-ltb (rank mid.nodes (length now.nodes)) (rank mid.nodes (slice_index nodes k)) (omega (arith, low, high))) refl

  -- another variable is free still
  value-frees : (label : Label) → label_of graph k ≡ Some label → label_of now.nodes (slice_index nodes k) ≡ None → (n : ℕ) → n < length now.nodes → slice_index nodes k ≢ n → IsFreeNode now n → IsFreeNode new n
  value-frees label at_label free n here other is_free = record {
    free = ap (λ (m : Node). m.label) (get_or_append_left now.nodes (node ∷ []) free_leaf n here) ∙ is_free.free;
    unbound = subst (λ (b : List (ℕ × ℕ)). IsUnbound b n) (sym (value-bound label at_label free))
        (All-push (λ equation. equation.0 ≢ n) now.bound (slice_index nodes k, length now.nodes) is_free.unbound other);
  }

-- one node more
pub loading-next : (start now new : System) (graph : List Node) (nodes : List ℕ) (k : ℕ) → IsGraph graph → IsGround graph → k < length graph → AreNodesLoaded start nodes graph now k → IsSystem new
    → new ≡ with_value now (slice_index nodes k) (node_among nodes (get_or graph k free_leaf)) → AreNodesLoaded start nodes graph new (k + 1)
loading-next start now new graph nodes k is ground h f sound made = subst (λ s. AreNodesLoaded start nodes graph s (k + 1)) (sym made) (go (cases-label (label_of graph k)))
  where
    after : System
    after = with_value now (slice_index nodes k) (node_among nodes (get_or graph k free_leaf))

    grows : Grows now (with_value now (slice_index nodes k) (node_among nodes (get_or graph k free_leaf)))
    grows = value-grows now f.system graph nodes k is f.size f.inside h

    go : (label_of graph k ≡ None) ⊎ ((label : Label) × (label_of graph k ≡ Some label))
        → AreNodesLoaded start nodes graph (with_value now (slice_index nodes k) (node_among nodes (get_or graph k free_leaf))) (k + 1)
    go (inl none) = absurd (All-get_or (λ node. node.label ≢ None) graph k free_leaf h ground none)
    go (inr (label, at_label)) = record {
      grows = grows-trans start now (with_value now (slice_index nodes k) (node_among nodes (get_or graph k free_leaf))) f.grows grows;
      system = subst IsSystem made sound;
      size = f.size;
      inside = inside-grows now (with_value now (slice_index nodes k) (node_among nodes (get_or graph k free_leaf))) grows nodes f.inside;
      apart = f.apart;
      done = λ i w. elim (cases_lt i k) [
        | inl l ↦ shows-grows now (with_value now (slice_index nodes k) (node_among nodes (get_or graph k free_leaf))) f.system grows graph nodes is f.size f.inside i (omega arith) (f.done i l)
        | inr l ↦ let same : k ≡ i = omega arith in
            subst (ShowsNode (with_value now (slice_index nodes k) (node_among nodes (get_or graph k free_leaf))) nodes graph) same (last-shows now f.system graph nodes k is f.size f.inside h)
      ];
      left = λ i w l.
          value-frees now f.system graph nodes k is f.size f.inside h label at_label (f.left k (omega arith) h).free (slice_index nodes i) (kid-inside graph nodes (length now.nodes) i f.size f.inside l)
          (f.apart k i (omega arith) l) (f.left i (omega arith) l);
    }

-- all nodes were loaded: each has the tree of its own
module _ (start : System) (nodes : List ℕ) (graph : List Node) (s : System) (is : IsGraph graph) (ground : IsGround graph) (f : AreNodesLoaded start nodes graph s (length graph)) (v : Valuation) (sol : InSol s v) where
  loaded-kids : (path : List ℕ) → ((i : ℕ) → i < length graph → value v (slice_index nodes i) path ≡ at graph i path) → (kids : List ℕ) → All (λ kid. kid < length graph) kids → (place : ℕ)
      → option_and_then (λ kid. value v kid path) (slice_get (map (slice_index nodes) kids) place) ≡ option_and_then (λ kid. at graph kid path) (slice_get kids place)
  loaded-kids path same [] all place = refl
  loaded-kids path same (kid ∷ kids) all zero = same kid (All-head (λ kid. kid < length graph) kid kids all)
  loaded-kids path same (kid ∷ kids) all (suc place) = loaded-kids path same kids (All-tail (λ kid. kid < length graph) kid kids all) place

  labels : (i : ℕ) → i < length graph → (label : Label) × (label_of graph i ≡ Some label)
  labels i h = elim (cases-label (label_of graph i)) [
    | inl none ↦ absurd (All-get_or (λ node. node.label ≢ None) graph i free_leaf h ground none)
    | inr some ↦ some
  ]

  loaded-tree : (path : List ℕ) (i : ℕ) → i < length graph → value v (slice_index nodes i) path ≡ at graph i path
  loaded-tree [] i h =
      let own = labels i h in
      f.done i h own.0 own.1 v sol [] ∙ sym (at-labelled graph i own.0 own.1 [])
  loaded-tree (place ∷ path) i h =
      let own = labels i h in
      f.done i h own.0 own.1 v sol (place ∷ path) ∙ loaded-kids path (loaded-tree path) (kids_of graph i) (graph-node graph i is h).in_range place ∙ sym (at-labelled graph i own.0 own.1 (place ∷ path))

pub loading-ends : (start : System) (nodes : List ℕ) (graph : List Node) (s : System) (count : ℕ) → IsGraph graph → IsGround graph → 0 < length graph → length graph ≤ count
    → AreNodesLoaded start nodes graph s count → IsTreeLoaded start s graph (slice_index nodes 0)
loading-ends start nodes graph s count is ground some most f = record {
  grows = f.grows;
  system = f.system;
  tree = record {
    inside = kid-inside graph nodes (length s.nodes) 0 f.size f.inside some;
    tree = λ v sol path. loaded-tree start nodes graph s is ground whole v sol path 0 some;
  };
}
  where
    whole : AreNodesLoaded start nodes graph s (length graph)
    whole = record {
      grows = f.grows;
      system = f.system;
      size = f.size;
      inside = f.inside;
      apart = f.apart;
      done = λ i h. f.done i (omega arith);
      left = λ i h w. absurd (omega arith);
    }

-- one tree more
pub trees-next : (old new : System) (graphs : List (List Node)) (roots after : List ℕ) (i : ℕ) (d : List Node) (root : ℕ) → i < length graphs → AreTreesLoaded old (take i graphs) roots
    → IsTreeLoaded old new (get_or graphs i d) root → after ≡ roots ++ root ∷ [] → AreTreesLoaded new (take (i + 1) graphs) after
trees-next old new graphs roots after i d root h all loaded e = record {
  system = loaded.system;
  trees = paired-step (HasTree new) graphs roots after i d root h e (trees-grow old new all.system loaded.grows (take i graphs) roots all.trees) loaded.tree;
}
