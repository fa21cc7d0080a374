-- The solutions of a system to which nodes and equations are added.
use Rattle.std.proofs.Common.{◌≡◌, ◌≢◌, ◌⊎◌, ℕ, zero, suc, ◌+◌, ◌<◌, ◌≤◌, List, [], ◌∷◌, ◌++◌, length, map, take, get_or, slice_get, slice_index, Option, Some, None, option_and_then, refl, sym, ap, ◌∙◌, subst, arith, All, inl, inr, length-append}
use Rattle.std.proofs.Common.{lt-ltb, le-ltb, option_map}
use Rattle.std.proofs.lemmas.Bool.{cases_lt, cases_eq}
use Rattle.std.proofs.lemmas.List.{length-take-le, get_or-take, get_or_append_left, get_or_at, get_or_past, take-append-le, take_all, length-map}
use Rattle.std.proofs.lemmas.List.Elements.{All-weaker, All-push, All-get_or, All-from_get_or, All-take, All-contains, All-map, Contains-push}
use Rattle.std.proofs.lemmas.Option.{slice_get-get_or, slice_get_within, get_or_from_slice_get, slice_get-map}
use Rattle.mars_tree.specs.declared.label.Label.{Label}
use Rattle.mars_tree.specs.Graph.{Node, Shown, IsNode, IsGraph, at, stands, label_of, kids_of, free_leaf}
use Rattle.mars_store.specs.Valuation.{Valuation, value, Agree, IsValuation}
use Rattle.mars_store.specs.System.{System, IsSystem, IsLink, Grows, rank, equation_of, linked, with_node}
use Rattle.mars_store.specs.Solutions.{InSol, over, plain_label}
use Rattle.mars_store.specs.Growing.{cut, with_start, FitsNode, Continues, EquationSolved, NodeSystem, NodeSolved, NodeLast, NodeContinued, OlderSolved, LargerSolved, TreesStay}
use Rattle.mars_store.proofs.Links.{leaf_node, link-moved}
use Rattle.mars_store.proofs.Marks.{grows-node}
use Rattle.mars_store.proofs.Solving.{at-kid, at-labelled, label-within, plain-arity}

-- what a list that was only added to has at an old place
front-get : {X : Type 0} (xs ys : List X) (n : ℕ) (d : X) → take (length xs) ys ≡ xs → n < length xs → get_or ys n d ≡ get_or xs n d
front-get xs ys n d front h = sym (get_or-take (length xs) ys n d h) ∙ ap (λ zs. get_or zs n d) front

front-few : {X : Type 0} (xs ys : List X) → take (length xs) ys ≡ xs → length xs ≤ length ys
front-few xs ys front = omega (arith, ap length front, short (length xs) ys)
  where
    short : {X : Type 0} (n : ℕ) (zs : List X) → length (take n zs) ≤ length zs
    short zero zs = omega arith
    short (suc n) [] = omega arith
    short (suc n) (z ∷ zs) = omega (arith, short n zs)

front-slice_get : (xs ys : List ℕ) (x : ℕ) → take (length xs) ys ≡ xs → x < length xs → slice_get ys x ≡ slice_get xs x
front-slice_get xs ys x front h =
    slice_get-get_or ys x 0 (omega (arith, front-few xs ys front))
    ∙ ap (λ z. Some z) (front-get xs ys x 0 front h) ∙ sym (slice_get-get_or xs x 0 h)

append-front : {X : Type 0} (xs : List X) (x : X) → take (length xs) (xs ++ x ∷ []) ≡ xs
append-front xs x = take-append-le (length xs) xs (x ∷ []) (omega arith) ∙ take_all (length xs) xs (omega arith)

kid-in : (size : ℕ) (kids : List ℕ) (place kid : ℕ) → All (λ kid. kid < size) kids → slice_get kids place ≡ Some kid → kid < size
kid-in size kids place kid inside e =
    subst (λ n. n < size) (get_or_from_slice_get kids place kid 0 e) (All-get_or (λ kid. kid < size) kids place 0 (slice_get_within kids place kid e) inside)

-- below a place of kids that two families of trees agree on
kid-same : (kids : List ℕ) (f g : ℕ → List ℕ → Option Shown) (size : ℕ) (path : List ℕ) → All (λ kid. kid < size) kids
    → ((kid : ℕ) → kid < size → f kid path ≡ g kid path) → (place : ℕ)
    → option_and_then (λ kid. f kid path) (slice_get kids place) ≡ option_and_then (λ kid. g kid path) (slice_get kids place)
kid-same kids f g size path inside same place = go (slice_get kids place) refl
  where
    go : (o : Option ℕ) → slice_get kids place ≡ o → option_and_then (λ kid. f kid path) o ≡ option_and_then (λ kid. g kid path) o
    go None e = refl
    go (Some kid) e = same kid (kid-in size kids place kid inside e)

-- over kids that two families of trees agree on
pub over-same : (label : Label) (kids : List ℕ) (f g : ℕ → List ℕ → Option Shown) (size : ℕ) → All (λ kid. kid < size) kids
    → ((kid : ℕ) → kid < size → (path : List ℕ) → f kid path ≡ g kid path) → (path : List ℕ) → over label kids f path ≡ over label kids g path
over-same label kids f g size inside same [] = refl
over-same label kids f g size inside same (place ∷ path) = kid-same kids f g size path inside (λ kid h. same kid h path) place

-- a node that was there before
pub front-node : (old new : System) → Grows old new → (n : ℕ) → n < length old.nodes → get_or old.nodes n free_leaf ≡ get_or new.nodes n free_leaf
front-node old new grows n h = sym (front-get old.nodes new.nodes n free_leaf grows.nodes h)

module _ (old new : System) (sound : IsSystem old) (grows : Grows old new) (v : Valuation) (sol : InSol new v) where
  abbrev count : ℕ
  count = length old.nodes

  few : count ≤ length v.nodes
  few = let more = grows.more_nodes in omega (arith, sol.valuation.each)

  -- a node of before has the tree that it has after the cut
  pub older-value : (x : ℕ) → x < count → (path : List ℕ) → value (cut count v) x path ≡ value v x path
  older-value x h path =
      let there : slice_get (take count v.nodes) x ≡ slice_get v.nodes x =
      slice_get-get_or (take count v.nodes) x 0 (rw (length-take-le count v.nodes few) h)
      ∙ ap (λ z. Some z) (get_or-take count v.nodes x 0 h) ∙ sym (slice_get-get_or v.nodes x 0 (omega (arith, few))) in
      ap (option_and_then (λ m. at v.graph m path)) there

  pub restricted : InSol old (cut count v)
  restricted = record {
    valuation = record {
      graph = sol.valuation.graph;
      ground = sol.valuation.ground;
      each = length-take-le count v.nodes few;
      inside = All-take (λ n. n < length v.graph) count v.nodes sol.valuation.inside;
    };
    labelled = λ n label e path.
        let h = label-within old.nodes n label e in
        let node = front-node old new grows n h in
        older-value n h path
        ∙ sol.labelled n label (ap (λ (m : Node). m.label) (sym node) ∙ e) path
        ∙ ap (λ (m : Node). over label m.kids (value v) path) (sym node)
        ∙ over-same label (kids_of old.nodes n) (value v) (value (cut count v)) n (sound.older n).in_range (λ kid k path. sym (older-value kid (omega arith) path)) path;
    bound = All-from_get_or (λ q. Agree (cut count v) q.0 q.1) old.bound (0, 0) (λ i h.
        let link = All-get_or (IsLink old.nodes) old.bound i (0, 0) h sound.links in
        let more = grows.more_bound in
        let agree : Agree v (get_or old.bound i (0, 0)).0 (get_or old.bound i (0, 0)).1 =
        subst (λ (q : ℕ × ℕ). Agree v q.0 q.1) (front-get old.bound new.bound i (0, 0) grows.bound h)
        (All-get_or (λ q. Agree v q.0 q.1) new.bound i (0, 0) (omega arith) sol.bound) in
        record { along = λ path. older-value _ link.variable.inside path ∙ agree.along path ∙ sym (older-value _ link.inside path) });
  }

  pub agree-cut : (a b : ℕ) → a < count → b < count → Agree v a b → Agree (cut count v) a b
  agree-cut a b ha hb agree = record { along = λ path. older-value a ha path ∙ agree.along path ∙ sym (older-value b hb path) }

  pub agree-back : (a b : ℕ) → a < count → b < count → Agree (cut count v) a b → Agree v a b
  agree-back a b ha hb agree = record { along = λ path. sym (older-value a ha path) ∙ agree.along path ∙ older-value b hb path }

pub older_solved : OlderSolved
older_solved old new sound grows v sol = restricted old new sound grows v sol

-- a larger graph has the same trees at the old nodes
larger-at : (g h : List Node) → IsGraph g → take (length g) h ≡ g → (path : List ℕ) (n : ℕ) → n < length g → at h n path ≡ at g n path
larger-at g h graph front [] n w = ap (λ (m : Node). Some (stands m.label n)) (front-get g h n free_leaf front w)
larger-at g h graph front (place ∷ path) n w =
    at-kid h path (slice_get (kids_of h n) place)
    ∙ ap (λ (m : Node). option_and_then (λ kid. at h kid path) (slice_get m.kids place)) (front-get g h n free_leaf front w)
    ∙ kid-same (kids_of g n) (at h) (at g) (length g) path (All-get_or (IsNode (length g)) g n free_leaf w graph).in_range (larger-at g h graph front path) place
    ∙ sym (at-kid g path (slice_get (kids_of g n) place))

pub trees_stay : TreesStay
trees_stay count v w valid on x h path =
    let n : ℕ = get_or v.nodes x 0 in
    let size = valid.each in
    let here : slice_get v.nodes x ≡ Some n = slice_get-get_or v.nodes x 0 (omega arith) in
    let inside : n < length v.graph = All-get_or (λ n. n < length v.graph) v.nodes x 0 (omega arith) valid.inside in
    ap (option_and_then (λ m. at w.graph m path)) (front-slice_get v.nodes w.nodes x on.nodes (omega arith) ∙ here)
    ∙ larger-at v.graph w.graph valid.graph on.graph path n inside
    ∙ ap (option_and_then (λ m. at v.graph m path)) (sym here)

-- a valuation that gives the nodes the trees of a solution is one
same-solves : (s : System) → IsSystem s → (v w : Valuation) → InSol s v → IsValuation (length s.nodes) w
    → ((x : ℕ) → x < length s.nodes → (path : List ℕ) → value w x path ≡ value v x path) → InSol s w
same-solves s sound v w sol valid same = record {
  valuation = valid;
  labelled = λ n label e path.
      let h = label-within s.nodes n label e in
      same n h path ∙ sol.labelled n label e path
      ∙ over-same label (kids_of s.nodes n) (value v) (value w) n (sound.older n).in_range (λ kid l path. sym (same kid (omega arith) path)) path;
  bound = All-from_get_or (λ q. Agree w q.0 q.1) s.bound (0, 0) (λ i h.
      let link = All-get_or (IsLink s.nodes) s.bound i (0, 0) h sound.links in
      let agree = All-get_or (λ q. Agree v q.0 q.1) s.bound i (0, 0) h sol.bound in
      record { along = λ path. same _ link.variable.inside path ∙ agree.along path ∙ sym (same _ link.inside path) });
}

pub larger_solved : LargerSolved
larger_solved s sound v w sol valid on = same-solves s sound v w sol valid (λ x h path. trees_stay (length s.nodes) v w sol.valuation on x h path)

-- an equation of two nodes, in either order
equation-to : (nodes : List Node) (v : Valuation) (x y : ℕ) → Agree v x y → Agree v (equation_of nodes x y).0 (equation_of nodes x y).1
equation-to nodes v x y agree =
    elim (cases_lt (rank nodes y) (rank nodes x)) [
      | inl h ↦ rw (lt-ltb _ _ h) agree
      | inr h ↦ rw (le-ltb _ _ h) (record { along = λ path. sym (agree.along path) })
    ]

equation-from : (nodes : List Node) (v : Valuation) (x y : ℕ) → Agree v (equation_of nodes x y).0 (equation_of nodes x y).1 → Agree v x y
equation-from nodes v x y agree =
    elim (cases_lt (rank nodes y) (rank nodes x)) [
      | inl h ↦ rw (lt-ltb _ _ h) at agree
      | inr h ↦ let back : Agree v y x = rw (le-ltb _ _ h) at agree in record { along = λ path. sym (back.along path) }
    ]

pub equation_solved : EquationSolved
equation_solved s x y v = (to, from)
  where
    P : ℕ × ℕ → Type 0
    P e = Agree v e.0 e.1

    to : InSol (linked s x y) v → InSol s v × Agree v x y
    to sol = (
      record {
        valuation = sol.valuation;
        labelled = sol.labelled;
        bound = subst (All P) (append-front s.bound (equation_of s.nodes x y)) (All-take P (length s.bound) (linked s x y).bound sol.bound);
      },
      equation-from s.nodes v x y (All-contains P (linked s x y).bound (equation_of s.nodes x y) sol.bound (Contains-push s.bound (equation_of s.nodes x y))),
    )

    from : InSol s v × Agree v x y → InSol (linked s x y) v
    from both = record {
      valuation = both.0.valuation;
      labelled = both.0.labelled;
      bound = All-push P s.bound (equation_of s.nodes x y) both.0.bound (equation-to s.nodes v x y both.1);
    }

-- with one node more
pub system-node : NodeSystem
system-node s node sound is = record {
  older = λ n. older n (cases_lt n (length s.nodes)) (cases_eq n (length s.nodes));
  links = All-weaker (IsLink s.nodes) (IsLink (s.nodes ++ node ∷ []))
      (λ e l. let h = l.variable.inside in let k = l.inside in
      link-moved s.nodes (s.nodes ++ node ∷ []) e (omega (arith, more)) (omega (arith, more))
      (get_or_append_left s.nodes (node ∷ []) free_leaf e.0 h) (get_or_append_left s.nodes (node ∷ []) free_leaf e.1 k) l)
      s.bound sound.links;
  triangular = sound.triangular;
}
  where
    more : length (s.nodes ++ node ∷ []) ≡ length s.nodes + 1
    more = length-append s.nodes (node ∷ [])

    older : (n : ℕ) → (n < length s.nodes) ⊎ (length s.nodes ≤ n) → (n ≡ length s.nodes) ⊎ (n ≢ length s.nodes) → IsNode n (get_or (s.nodes ++ node ∷ []) n free_leaf)
    older n (inl h) c = rw (get_or_append_left s.nodes (node ∷ []) free_leaf n h) (sound.older n)
    older n (inr h) (inl e) = rw (get_or_at s.nodes node [] free_leaf n (sym e)) (rw e is)
    older n (inr h) (inr ne) = rw (get_or_past (s.nodes ++ node ∷ []) n free_leaf (omega (arith, more))) (leaf_node n)

pub start-old : (v : Valuation) (start x : ℕ) → x < length v.nodes → (path : List ℕ) → value (with_start v start) x path ≡ value v x path
start-old v start x h path =
    ap (option_and_then (λ k. at v.graph k path)) (front-slice_get v.nodes (v.nodes ++ start ∷ []) x (append-front v.nodes start) h)

pub start-new : (v : Valuation) (start n : ℕ) → n ≡ length v.nodes → (path : List ℕ) → value (with_start v start) n path ≡ at v.graph start path
start-new v start n e path =
    let there : slice_get (v.nodes ++ start ∷ []) n ≡ Some start =
    slice_get-get_or (v.nodes ++ start ∷ []) n 0 (omega (arith, length-append v.nodes (start ∷ [])))
    ∙ ap (λ z. Some z) (get_or_at v.nodes start [] 0 n (sym e)) in
    ap (option_and_then (λ k. at v.graph k path)) there

module _ (s : System) (node : Node) (sound : IsSystem s) (is : IsNode (length s.nodes) node) (v : Valuation) (start : ℕ) where
  abbrev more : List Node
  more = s.nodes ++ node ∷ []

  one-more : length more ≡ length s.nodes + 1
  one-more = length-append s.nodes (node ∷ [])

  node-last : get_or more (length s.nodes) free_leaf ≡ node
  node-last = get_or_at s.nodes node [] free_leaf (length s.nodes) refl

  pub start-solves : InSol s v → FitsNode v start node → InSol (with_node s node) (with_start v start)
  start-solves sol fits = record {
    valuation = record {
      graph = sol.valuation.graph;
      ground = sol.valuation.ground;
      each = omega (arith, length-append v.nodes (start ∷ []), sol.valuation.each, one-more);
      inside = All-push (λ n. n < length v.graph) v.nodes start sol.valuation.inside fits.inside;
    };
    labelled = λ n label e path. go n label (cases_lt n (length s.nodes)) (cases_eq n (length s.nodes)) e path;
    bound = All-from_get_or (λ q. Agree (with_start v start) q.0 q.1) s.bound (0, 0) (λ i h.
        let link = All-get_or (IsLink s.nodes) s.bound i (0, 0) h sound.links in
        let agree = All-get_or (λ q. Agree v q.0 q.1) s.bound i (0, 0) h sol.bound in
        record { along = λ path. old _ link.variable.inside path ∙ agree.along path ∙ sym (old _ link.inside path) });
  }
    where
      old : (x : ℕ) → x < length s.nodes → (path : List ℕ) → value (with_start v start) x path ≡ value v x path
      old x h path = start-old v start x (omega (arith, sol.valuation.each)) path

      go : (n : ℕ) (label : Label) → (n < length s.nodes) ⊎ (length s.nodes ≤ n) → (n ≡ length s.nodes) ⊎ (n ≢ length s.nodes)
          → label_of more n ≡ Some label → (path : List ℕ)
          → value (with_start v start) n path ≡ over label (kids_of more n) (value (with_start v start)) path
      go n label (inl h) c e path =
          let same : get_or more n free_leaf ≡ get_or s.nodes n free_leaf = get_or_append_left s.nodes (node ∷ []) free_leaf n h in
          old n h path
          ∙ sol.labelled n label (ap (λ (k : Node). k.label) (sym same) ∙ e) path
          ∙ over-same label (kids_of s.nodes n) (value v) (value (with_start v start)) n (sound.older n).in_range (λ kid l path. sym (old kid (omega arith) path)) path
          ∙ ap (λ (k : Node). over label k.kids (value (with_start v start)) path) (sym same)
      go n label (inr h) (inl p) e path =
          let same : get_or more n free_leaf ≡ node = get_or_at s.nodes node [] free_leaf n (sym p) in
          start-new v start n (p ∙ sym sol.valuation.each) path
          ∙ fits.tree label (ap (λ (k : Node). k.label) (sym same) ∙ e) path
          ∙ over-same label node.kids (value v) (value (with_start v start)) (length s.nodes) is.in_range (λ kid l path. sym (old kid l path)) path
          ∙ ap (λ (k : Node). over label k.kids (value (with_start v start)) path) (sym same)
      go n label (inr h) (inr ne) e path =
          let w = label-within more n label e in absurd (omega (arith, one-more))

  start-solved : InSol (with_node s node) (with_start v start) → InSol s v × FitsNode v start node
  start-solved sol = (
    subst (λ ns. InSol s (record { graph = v.graph; nodes = ns }))
        (ap (λ k. take k (v.nodes ++ start ∷ [])) (sym size) ∙ append-front v.nodes start)
        (restricted s (with_node s node) sound (grows-node s node) (with_start v start) sol),
    record {
      inside = All-contains (λ n. n < length v.graph) (v.nodes ++ start ∷ []) start sol.valuation.inside (Contains-push v.nodes start);
      tree = λ label e path.
          sym (start-new v start (length s.nodes) (sym size) path)
          ∙ sol.labelled (length s.nodes) label (ap (λ (k : Node). k.label) node-last ∙ e) path
          ∙ ap (λ (k : Node). over label k.kids (value (with_start v start)) path) node-last
          ∙ over-same label node.kids (value (with_start v start)) (value v) (length s.nodes) is.in_range (λ kid l path. start-old v start kid (omega (arith, size)) path) path;
    },
  )
    where
      size : length v.nodes ≡ length s.nodes
      size = omega (arith, length-append v.nodes (start ∷ []), sol.valuation.each, one-more)

pub node_solved : NodeSolved
node_solved s node sound is v start = (start-solved s node sound is v start, λ both. start-solves s node sound is v start both.0 both.1)

last-of : (xs : List ℕ) (n : ℕ) → length xs ≡ n + 1 → (ys : List ℕ) × (y : ℕ) × (xs ≡ ys ++ y ∷ [])
last-of [] n e = absurd (omega arith)
last-of (x ∷ []) n e = ([], x, refl)
last-of (x ∷ y ∷ xs) n e = let rest = last-of (y ∷ xs) (length xs) (omega arith) in (x ∷ rest.0, rest.1, ap (λ zs. x ∷ zs) rest.2)

pub node_last : NodeLast
node_last s node w sol =
    let last = last-of w.nodes (length s.nodes) (sol.valuation.each ∙ length-append s.nodes (node ∷ [])) in
    (record { graph = w.graph; nodes = last.0 }, last.1, ap (λ ns. record { graph = w.graph; nodes = ns }) last.2)

-- a node of the graph for a node of the system: a variable is given a name
module _ (s : System) (node : Node) (sound : IsSystem s) (is : IsNode (length s.nodes) node) (v : Valuation) (sol : InSol s v) where
  abbrev start_node : Node
  start_node = record { label = Some (plain_label 0 node.label); kids = map (slice_index v.nodes) node.kids }

  abbrev larger : Valuation
  larger = record { graph = v.graph ++ start_node ∷ []; nodes = v.nodes }

  larger-size : length larger.graph ≡ length v.graph + 1
  larger-size = length-append v.graph (start_node ∷ [])

  begins : (kid : ℕ) → kid < length s.nodes → slice_index v.nodes kid < length v.graph
  begins kid h = All-get_or (λ n. n < length v.graph) v.nodes kid 0 (omega (arith, sol.valuation.each)) sol.valuation.inside

  node-more : (m : Node) → IsNode (length v.graph) m → IsNode (length v.graph + 1) m
  node-more m k = record { kids = k.kids; in_range = All-weaker (λ kid. kid < length v.graph) (λ kid. kid < length v.graph + 1) (λ kid h. omega arith) m.kids k.in_range }

  start-is : IsNode (length v.graph) start_node
  start-is = record {
    kids = length-map node.kids (slice_index v.nodes) ∙ is.kids ∙ sym (plain-arity 0 node.label);
    in_range = All-map (λ n. n < length v.graph) (slice_index v.nodes) node.kids
        (All-weaker (λ kid. kid < length s.nodes) (λ kid. slice_index v.nodes kid < length v.graph) begins node.kids is.in_range);
  }

  larger-valid : IsValuation (length s.nodes) larger
  larger-valid = record {
    graph = subst (λ n. All (IsNode n) larger.graph) (sym larger-size)
        (All-push (IsNode (length v.graph + 1)) v.graph start_node
        (All-weaker (IsNode (length v.graph)) (IsNode (length v.graph + 1)) node-more v.graph sol.valuation.graph) (node-more start_node start-is));
    ground = All-push (λ (m : Node). m.label ≢ None) v.graph start_node sol.valuation.ground some;
    each = sol.valuation.each;
    inside = All-weaker (λ n. n < length v.graph) (λ n. n < length larger.graph) (λ n h. omega (arith, larger-size)) v.nodes sol.valuation.inside;
  }
    where
      some : Some (plain_label 0 node.label) ≢ None
      some e = cc

  larger-on : Continues v larger
  larger-on = record { graph = append-front v.graph start_node; nodes = take_all (length v.nodes) v.nodes (omega arith) }

  begin-same : (label : Label) (path : List ℕ) → over label (map (slice_index v.nodes) node.kids) (at larger.graph) path ≡ over label node.kids (value larger) path
  begin-same label [] = refl
  begin-same label (place ∷ path) = rw (slice_get-map (slice_index v.nodes) node.kids place) (go (slice_get node.kids place) refl)
    where
      go : (o : Option ℕ) → slice_get node.kids place ≡ o
          → option_and_then (λ kid. at larger.graph kid path) (option_map (slice_index v.nodes) o) ≡ option_and_then (λ kid. value larger kid path) o
      go None e = refl
      go (Some kid) e =
          let h = kid-in (length s.nodes) node.kids place kid is.in_range e in
          ap (option_and_then (λ m. at larger.graph m path)) (sym (slice_get-get_or v.nodes kid 0 (omega (arith, sol.valuation.each))))

  larger-fits : FitsNode larger (length v.graph) node
  larger-fits = record {
    inside = omega (arith, larger-size);
    tree = λ label e path.
        let here : get_or larger.graph (length v.graph) free_leaf ≡ start_node = get_or_at v.graph start_node [] free_leaf (length v.graph) refl in
        at-labelled larger.graph (length v.graph) label (ap (λ (m : Node). m.label) here ∙ ap (λ o. Some (plain_label 0 o)) e) path
        ∙ ap (λ (m : Node). over label m.kids (at larger.graph) path) here
        ∙ begin-same label path;
  }

pub node_continued : NodeContinued
node_continued s node sound is v sol =
    let big : Valuation = larger s node sound is v sol in (
      with_start big (length v.graph),
      start-solves s node sound is big (length v.graph)
          (larger_solved s sound v big sol (larger-valid s node sound is v sol) (larger-on s node sound is v sol)) (larger-fits s node sound is v sol),
      record { graph = append-front v.graph (start_node s node sound is v sol); nodes = append-front v.nodes (length v.graph) },
    )
