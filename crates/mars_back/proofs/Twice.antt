-- A variable is seen to be defined twice exactly where it is written twice: what steps make follows what they write. The lemmas are those by
-- which the graph is shown to be the solution, which their crate keeps to itself.
use Rattle.std.proofs.Common.{◌≡◌, ℕ, ◌-◌, List, [], ◌∷◌, ◌++◌, length, take, drop, refl, ap, sym, ◌∙◌, subst, Option, Some, None, Bool, true, false, slice_get, append-nil}
use Rattle.std.specs.Prelude.{All, ◌||◌, if◌then◌else◌}
use Rattle.std.specs.Option.{option_map_or}
use Rattle.std.specs.List.{AllZip}
use Rattle.std.proofs.lemmas.Option.{get_or_from_slice_get}
use Rattle.std.proofs.lemmas.List.Elements.{All-head, All-tail}
use Rattle.mars_tree.specs.declared.label.Label.{Label}
use Rattle.mars_tree.specs.declared.label.NameId.{NameId}
use Rattle.mars_tree.specs.Graph.{Node, label_of, free_leaf}
use Rattle.mars_tree.specs.Graph as graph
use Rattle.mars_graphs.specs.declared.maker.Head.{Head}
use Rattle.mars_graphs.specs.Systems.{same_variable, Side, variable, labelled, Sides, side_row, Equation, equal_to}
use Rattle.mars_graphs.specs.Steps.{TreeStep, Variable, Leaf, Open, Close, Equate, Define, label_over, terms_before, Writing, nothing_written, has_equation, written_over, closed_writing, with_equation, defined_writing, writes, writes_all}
use Rattle.mars_graphs.specs.Nodes.{Nodes, leaf_of_variable, nodes_with, nodes_with_variable, nodes_with_target, gives_way, has_target, StandsFor, StandForRow, HasLabel, Holds, NodesGrow, AreNodes}
use Rattle.mars_graphs.specs.Making.{Making, nothing_made, with_leaf, made_over, closed_making, tied_nodes, defined_making, makes, makes_all, IsMaking}
use Rattle.mars_graphs.proofs.Zips.{zip-take, zip-drop, zip-push, zip-length, BothAre, zip-get, zip-weaker}
use Rattle.mars_graphs.proofs.Standing.{grows-node, grows-variable, grows-target, stands-grown, stands-labelled, holds-nothing, holds-node, holds-variable, holds-target, target-label, no-target-variable, leaf-grown, nodes-variable}
use Rattle.mars_graphs.proofs.Makes.{making-nothing, making-step, variable-found}

-- the leaf of the variable that is to be equal to the next term
abbrev LeftAre : Nodes → Option ℕ → Option NameId → Type 0
LeftAre b None None = Unit {0}
LeftAre b (Some leaf) (Some x) = leaf_of_variable b x ≡ Some leaf
LeftAre b None (Some x) = ⊥
LeftAre b (Some leaf) None = ⊥

-- what is made is what is written
record Tells (w : Writing) (m : Making) : Type 0 where
  making : IsMaking m
  terms : AllZip (StandsFor m.nodes) m.terms w.terms
  heads : m.heads ≡ w.heads
  left : LeftAre m.nodes m.left w.left
  holds : Holds m.nodes w.equations
  twice : m.twice ≡ w.twice

terms-grown : (b c : Nodes) (terms : List ℕ) (sides : List Side) → NodesGrow b c → AllZip (StandsFor b) terms sides → AllZip (StandsFor c) terms sides
terms-grown b c terms sides grows zip = zip-weaker (StandsFor b) (StandsFor c) (λ n t s. stands-grown b c n t grows s) terms sides zip

left-after : (b c : Nodes) (left : Option ℕ) (x : Option NameId) → NodesGrow b c → LeftAre b left x → LeftAre c left x
left-after b c None None grows are = tt
left-after b c (Some leaf) (Some x) grows are = leaf-grown b c x leaf grows are
left-after b c None (Some x) grows are = absurd are
left-after b c (Some leaf) None grows are = absurd are

-- a row of nodes of a list of terms
row-of : (b : Nodes) (kids : List ℕ) (sides : List Side) → AllZip (StandsFor b) kids sides → StandForRow b kids (side_row sides)
row-of b [] [] zip = refl
row-of b [] (t ∷ sides) zip = absurd zip
row-of b (kid ∷ kids) [] zip = absurd zip
row-of b (kid ∷ kids) (t ∷ sides) zip = (kid, kids, refl, zip.0, row-of b kids sides zip.1)

tells-nothing : Tells nothing_written nothing_made
tells-nothing = record { making = making-nothing; terms = tt; heads = refl; left = tt; holds = holds-nothing; twice = refl }

tells-variable : (w : Writing) (m : Making) (x : NameId) → Tells w m → Tells (writes w (Variable x)) (makes m (Variable x))
tells-variable w m x t =
    let b = m.nodes in
    let c = nodes_with_variable b x in
    record {
      making = making-step m (Variable x) t.making;
      terms = zip-push (StandsFor c) m.terms w.terms (with_leaf b x).1 (variable x) (terms-grown b c m.terms w.terms (grows-variable b x) t.terms) (variable-found b x);
      heads = t.heads;
      left = left-after b c m.left w.left (grows-variable b x) t.left;
      holds = holds-variable b x w.equations t.making.nodes t.holds;
      twice = t.twice;
    }

-- a node over the last terms
tells-node : (w : Writing) (m : Making) (l : Label) (kids terms : List ℕ) (sides before : List Side) (heads : List (Head × ℕ)) → Tells w m → IsMaking (record m { nodes = nodes_with m.nodes (graph.labelled l kids); terms = terms ++ length m.nodes.nodes ∷ []; heads = heads }) →
    AllZip (StandsFor m.nodes) kids sides → AllZip (StandsFor m.nodes) terms before →
    Tells (record w { terms = before ++ labelled l (side_row sides) ∷ []; heads = heads }) (record m { nodes = nodes_with m.nodes (graph.labelled l kids); terms = terms ++ length m.nodes.nodes ∷ []; heads = heads })
tells-node w m l kids terms sides before heads t making under others =
    let b = m.nodes in
    let node = graph.labelled l kids in
    let c = nodes_with b node in
    record {
      making = making;
      terms = zip-push (StandsFor c) terms before (length b.nodes) (labelled l (side_row sides)) (terms-grown b c terms before (grows-node b node) others) (stands-labelled b l kids (side_row sides) (row-of b kids sides under));
      heads = refl;
      left = left-after b c m.left w.left (grows-node b node) t.left;
      holds = holds-node b node w.equations t.making.nodes t.holds;
      twice = t.twice;
    }

tells-leaf : (w : Writing) (m : Making) (l : Label) → Tells w m → Tells (writes w (Leaf l)) (makes m (Leaf l))
tells-leaf w m l t =
    let told = tells-node w m l [] m.terms [] w.terms m.heads t (making-step m (Leaf l) t.making) tt t.terms in
    record { making = told.making; terms = told.terms; heads = t.heads; left = told.left; holds = told.holds; twice = told.twice }

tells-begin : (w : Writing) (m : Making) (h : Head) → Tells w m → Tells (writes w (Open h)) (makes m (Open h))
tells-begin w m h t = record {
  making = making-step m (Open h) t.making;
  terms = t.terms;
  heads = ap (λ n. (h, terms_before h n) ∷ m.heads) (zip-length (StandsFor m.nodes) m.terms w.terms t.terms) ∙ ap (λ l. (h, terms_before h (length w.terms)) ∷ l) t.heads;
  left = t.left;
  holds = t.holds;
  twice = t.twice;
}

tells-over : (w : Writing) (m : Making) (l : Option Label) (count : ℕ) (heads : List (Head × ℕ)) → Tells w m → IsMaking (made_over m l count heads) → Tells (record w { terms = written_over l count w.terms; heads = heads }) (made_over m l count heads)
tells-over w m None count heads t making = record { making = making; terms = t.terms; heads = refl; left = t.left; holds = t.holds; twice = t.twice }
tells-over w m (Some l) count heads t making =
    tells-node w m l (drop count m.terms) (take count m.terms) (drop count w.terms) (take count w.terms) heads t making
    (zip-drop (StandsFor m.nodes) count m.terms w.terms t.terms) (zip-take (StandsFor m.nodes) count m.terms w.terms t.terms)

tells-closed : (w : Writing) (m : Making) (heads : List (Head × ℕ)) → Tells w m → IsMaking (closed_making m heads) → Tells (closed_writing w heads) (closed_making m heads)
tells-closed w m [] t making = t
tells-closed w m (last ∷ heads) t making =
    let count : length (drop last.1 m.terms) ≡ length (drop last.1 w.terms) = zip-length (StandsFor m.nodes) (drop last.1 m.terms) (drop last.1 w.terms) (zip-drop (StandsFor m.nodes) last.1 m.terms w.terms t.terms) in
    subst (λ n. Tells (record w { terms = written_over (label_over last.0 n) last.1 w.terms; heads = heads }) (closed_making m (last ∷ heads))) count
    (tells-over w m (label_over last.0 (length (drop last.1 m.terms))) last.1 heads t making)

tells-close : (w : Writing) (m : Making) → Tells w m → Tells (writes w Close) (makes m Close)
tells-close w m t = subst (λ heads. Tells (closed_writing w heads) (closed_making m m.heads)) t.heads (tells-closed w m m.heads t (making-step m Close t.making))

-- a variable has an equation exactly where its leaf gives way
has-label : (x : NameId) (equations : List Equation) → HasLabel (equal_to equations x) → has_equation equations x ≡ true
has-label x [] has = absurd has
has-label x (e ∷ equations) has = at (same_variable x e.variable) has (has-label x equations)
  where
    at : (v : Bool) → HasLabel (if v then e.side else equal_to equations x) → (HasLabel (equal_to equations x) → has_equation equations x ≡ true) → (v || has_equation equations x) ≡ true
    at true has ih = refl
    at false has ih = ih has

no-label : (x : NameId) (equations : List Equation) → All (λ e. HasLabel e.side) equations → equal_to equations x ≡ variable x → has_equation equations x ≡ false
no-label x [] labels same = refl
no-label x (e ∷ equations) labels same = at (same_variable x e.variable) same (no-label x equations (All-tail (λ e. HasLabel e.side) e equations labels))
  where
    at : (v : Bool) → (if v then e.side else equal_to equations x) ≡ variable x → (equal_to equations x ≡ variable x → has_equation equations x ≡ false) → (v || has_equation equations x) ≡ false
    at true same ih = absurd (subst HasLabel same (All-head (λ e. HasLabel e.side) e equations labels))
    at false same ih = ih same

has-both : (b : Nodes) (x : NameId) (leaf : ℕ) (equations : List Equation) → AreNodes b → Holds b equations → leaf_of_variable b x ≡ Some leaf → gives_way b leaf ≡ has_equation equations x
has-both b x leaf equations nodes holds found = at (gives_way b leaf) refl
  where
    target : has_target b x ≡ gives_way b leaf
    target = ap (λ o. option_map_or (λ n. gives_way b n) o false) found

    at : (v : Bool) → gives_way b leaf ≡ v → gives_way b leaf ≡ has_equation equations x
    at true gives = gives ∙ sym (has-label x equations (target-label b x equations nodes holds (target ∙ gives)))
    at false gives = gives ∙ sym (no-label x equations holds.applied (no-target-variable b x equations nodes holds (target ∙ gives)))

tells-equate : (w : Writing) (m : Making) (x : NameId) → Tells w m → Tells (writes w (Equate x)) (makes m (Equate x))
tells-equate w m x t =
    let b = m.nodes in
    let c = nodes_with_variable b x in
    let holds = holds-variable b x w.equations t.making.nodes t.holds in
    record {
      making = making-step m (Equate x) t.making;
      terms = terms-grown b c m.terms w.terms (grows-variable b x) t.terms;
      heads = t.heads;
      left = variable-found b x;
      holds = holds;
      twice = ap (λ v. v || gives_way c (with_leaf b x).1) t.twice ∙ ap (λ v. w.twice || v) (has-both c x (with_leaf b x).1 w.equations (nodes-variable b x t.making.nodes) holds (variable-found b x));
    }

-- the equations after a term that may be one more of them
record Equated (b c : Nodes) (left : Option ℕ) (x : Option NameId) (equations : List Equation) : Type 0 where
  grows : NodesGrow b c
  holds : Holds c equations

label-leaf : (b : Nodes) (x : NameId) (n : ℕ) → AreNodes b → leaf_of_variable b x ≡ Some n → label_of b.nodes n ≡ None
label-leaf b x n nodes found = ap (λ (node : Node). node.label) (get_or_from_slice_get b.nodes n free_leaf free_leaf (nodes.free x n found))

label-node : (b : Nodes) (l : Label) (kids : List ℕ) (n : ℕ) → slice_get b.nodes n ≡ Some (graph.labelled l kids) → label_of b.nodes n ≡ Some l
label-node b l kids n node = ap (λ (m : Node). m.label) (get_or_from_slice_get b.nodes n (graph.labelled l kids) free_leaf node)

grows-same : (b : Nodes) (equations : List Equation) (left : Option ℕ) (x : Option NameId) → Holds b equations → Equated b b left x equations
grows-same b equations left x holds = record { grows = grows-target-not b; holds = holds }
  where
    grows-target-not : (b : Nodes) → NodesGrow b b
    grows-target-not b = record { nodes = ([], sym (append-nil b.nodes)); leaves = ([], sym (append-nil b.leaves)) }

equated-unlabelled : (b : Nodes) (left : Option ℕ) (x : Option NameId) (y : NameId) (root : ℕ) (equations : List Equation) → Holds b equations → label_of b.nodes root ≡ None → Equated b (tied_nodes b left root (label_of b.nodes root)) left x equations
equated-unlabelled b left x y root equations holds none = subst (λ c. Equated b c left x equations) (sym (same left)) (grows-same b equations left x holds)
  where
    same : (left : Option ℕ) → tied_nodes b left root (label_of b.nodes root) ≡ b
    same None = refl
    same (Some leaf) = ap (tied_nodes b (Some leaf) root) none

equated-labelled : (b : Nodes) (leaf : ℕ) (x : NameId) (l : Label) (sides : Sides) (root : ℕ) (equations : List Equation) → AreNodes b → Holds b equations → leaf_of_variable b x ≡ Some leaf → StandsFor b root (labelled l sides) →
    Equated b (if gives_way b leaf then b else nodes_with_target b leaf root) (Some leaf) (Some x) (if has_equation equations x then equations else equations ++ record { variable = x; side = labelled l sides } ∷ [])
equated-labelled b leaf x l sides root equations nodes holds found stands =
    subst (λ v. Equated b (if gives_way b leaf then b else nodes_with_target b leaf root) (Some leaf) (Some x) (if v then equations else equations ++ record { variable = x; side = labelled l sides } ∷ [])) (has-both b x leaf equations nodes holds found) (at (gives_way b leaf) refl)
  where
    target : has_target b x ≡ gives_way b leaf
    target = ap (λ o. option_map_or (λ n. gives_way b n) o false) found

    at : (v : Bool) → gives_way b leaf ≡ v → Equated b (if v then b else nodes_with_target b leaf root) (Some leaf) (Some x) (if v then equations else equations ++ record { variable = x; side = labelled l sides } ∷ [])
    at true gives = grows-same b equations (Some leaf) (Some x) holds
    at false gives = record {
      grows = grows-target b leaf root;
      holds = holds-target b x leaf root (labelled l sides) equations nodes holds found (no-target-variable b x equations nodes holds (target ∙ gives)) stands tt;
    }

equated : (b : Nodes) (left : Option ℕ) (x : Option NameId) (side : Side) (root : ℕ) (equations : List Equation) → AreNodes b → Holds b equations → LeftAre b left x → StandsFor b root side → Equated b (tied_nodes b left root (label_of b.nodes root)) left x (with_equation x side equations)
equated b None None side root equations nodes holds are stands = grows-same b equations None None holds
equated b None (Some x) side root equations nodes holds are stands = absurd are
equated b (Some leaf) None side root equations nodes holds are stands = absurd are
equated b (Some leaf) (Some x) (variable y) root equations nodes holds are stands = equated-unlabelled b (Some leaf) (Some x) y root equations holds (label-leaf b y root nodes stands)
equated b (Some leaf) (Some x) (labelled l sides) root equations nodes holds are stands =
    subst (λ o. Equated b (tied_nodes b (Some leaf) root o) (Some leaf) (Some x) (if has_equation equations x then equations else equations ++ record { variable = x; side = labelled l sides } ∷ [])) (sym (label-node b l stands.0 root stands.1))
    (equated-labelled b leaf x l sides root equations nodes holds are stands)

tells-defined : (w : Writing) (m : Making) (o : Option ℕ) (p : Option Side) → Tells w m → BothAre (StandsFor m.nodes) o p → IsMaking (defined_making m o) → Tells (defined_writing w p) (defined_making m o)
tells-defined w m None None t both making = t
tells-defined w m None (Some side) t both making = absurd both
tells-defined w m (Some root) None t both making = absurd both
tells-defined w m (Some root) (Some side) t both making =
    let b = m.nodes in
    let c = tied_nodes b m.left root (label_of b.nodes root) in
    let after = equated b m.left w.left side root w.equations t.making.nodes t.holds t.left both in
    let count : length m.terms - 1 ≡ length w.terms - 1 = ap (λ n. n - 1) (zip-length (StandsFor b) m.terms w.terms t.terms) in
    record {
      making = making;
      terms = subst (λ k. AllZip (StandsFor c) (take (length m.terms - 1) m.terms) (take k w.terms)) count
          (zip-take (StandsFor c) (length m.terms - 1) m.terms w.terms (terms-grown b c m.terms w.terms after.grows t.terms));
      heads = t.heads;
      left = left-after b c m.left w.left after.grows t.left;
      holds = after.holds;
      twice = t.twice;
    }

tells-define : (w : Writing) (m : Making) → Tells w m → Tells (writes w Define) (makes m Define)
tells-define w m t =
    let count : length m.terms - 1 ≡ length w.terms - 1 = ap (λ n. n - 1) (zip-length (StandsFor m.nodes) m.terms w.terms t.terms) in
    subst (λ k. Tells (defined_writing w (slice_get w.terms k)) (makes m Define)) count
    (tells-defined w m (slice_get m.terms (length m.terms - 1)) (slice_get w.terms (length m.terms - 1)) t (zip-get (StandsFor m.nodes) m.terms w.terms (length m.terms - 1) t.terms) (making-step m Define t.making))

tells-step : (w : Writing) (m : Making) (step : TreeStep) → Tells w m → Tells (writes w step) (makes m step)
tells-step w m (Variable x) t = tells-variable w m x t
tells-step w m (Leaf l) t = tells-leaf w m l t
tells-step w m (Open h) t = tells-begin w m h t
tells-step w m Close t = tells-close w m t
tells-step w m (Equate x) t = tells-equate w m x t
tells-step w m Define t = tells-define w m t

tells-all : (steps : List TreeStep) (w : Writing) (m : Making) → Tells w m → Tells (writes_all w steps) (makes_all m steps)
tells-all [] w m t = t
tells-all (step ∷ steps) w m t = tells-all steps (writes w step) (makes m step) (tells-step w m step t)

pub made_twice : (steps : List TreeStep) → (makes_all nothing_made steps).twice ≡ (writes_all nothing_written steps).twice
made_twice steps = (tells-all steps nothing_written nothing_made tells-nothing).twice
