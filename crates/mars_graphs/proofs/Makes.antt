-- What holds of all that is made goes on to hold.
use Rattle.std.proofs.Common.{◌≡◌, ℕ, ◌+◌, ◌-◌, ◌<◌, ◌≤◌, List, [], ◌∷◌, ◌++◌, length, take, drop, refl, ap, sym, ◌∙◌, subst, Option, Some, None, Bool, true, false, slice_get, length-append, length-drop, reverse, arith}
use Rattle.std.specs.Prelude.{All, if◌then◌else◌, min}
use Rattle.std.proofs.lemmas.Option.{slice_get_within}
use Rattle.std.proofs.lemmas.List.Elements.{All-append, All-cons, All-nil, All-weaker, All-take}
use Rattle.std.proofs.lemmas.List.{drop_min, take_min, reverse-append}
use Rattle.std.proofs.Math.Seq.{take-length}
use Rattle.mars_base.proofs.ListFacts.{All-get}
use Rattle.mars_tree.specs.declared.label.Label.{Label}
use Rattle.mars_tree.specs.declared.label.NameId.{NameId}
use Rattle.mars_tree.specs.Graph.{Node, labelled, label_of, free_leaf}
use Rattle.mars_graphs.specs.declared.maker.Head.{Head}
use Rattle.mars_graphs.specs.Nodes.{Nodes, leaf_of_variable, nodes_with, nodes_with_variable, nodes_with_target, gives_way, AreNodes}
use Rattle.mars_graphs.specs.Steps.{TreeStep, Variable, Leaf, Open, Close, Equate, Define, label_over}
use Rattle.mars_graphs.specs.Making.{Making, nothing_made, with_leaf, leaf_or, made_over, closed_making, tied_nodes, defined_making, makes, IsSomeLeaf, IsMaking}
use Rattle.mars_graphs.proofs.Building.{nodes_with_variable-new, nodes_with_variable-known, leaf_among-new, nodes-nothing, nodes-node, nodes-target}
use Rattle.mars_graphs.proofs.Standing.{nodes-variable, leaf-grown, grows-variable, grows-node}

-- terms that are nodes
abbrev pub AreTerms : Nodes → List ℕ → Type 0
AreTerms b terms = All (λ term. term < length b.nodes) terms

-- a variable has a leaf once it was asked for
pub variable-found : (b : Nodes) (x : NameId) → leaf_of_variable (nodes_with_variable b x) x ≡ Some (with_leaf b x).1
variable-found b x = at (leaf_of_variable b x) refl
  where
    known : (o : Option ℕ) → o ≡ leaf_of_variable (nodes_with_variable b x) x → (n : ℕ) → o ≡ Some n → leaf_of_variable (nodes_with_variable b x) x ≡ Some (with_leaf b x).1
    known o is n e = let found : leaf_of_variable (nodes_with_variable b x) x ≡ Some n = sym is ∙ e in found ∙ ap Some (sym (ap leaf_or found))

    at : (o : Option ℕ) → leaf_of_variable b x ≡ o → leaf_of_variable (nodes_with_variable b x) x ≡ Some (with_leaf b x).1
    at None e = known (leaf_of_variable (nodes_with_variable b x) x) refl (length b.nodes) (ap (λ (c : Nodes). leaf_of_variable c x) (nodes_with_variable-new b x e) ∙ leaf_among-new x b.leaves (length b.nodes) e)
    at (Some n) e = known (leaf_of_variable (nodes_with_variable b x) x) refl n (ap (λ (c : Nodes). leaf_of_variable c x) (nodes_with_variable-known b x n e) ∙ e)

pub variable-within : (b : Nodes) (x : NameId) → AreNodes b → (with_leaf b x).1 < length (nodes_with_variable b x).nodes
variable-within b x nodes = slice_get_within (nodes_with_variable b x).nodes (with_leaf b x).1 free_leaf ((nodes-variable b x nodes).free x (with_leaf b x).1 (variable-found b x))

pub no-shorter : (b : Nodes) (x : NameId) → length b.nodes ≤ length (nodes_with_variable b x).nodes
no-shorter b x = let grows = (grows-variable b x).nodes in omega (arith, ap length grows.1, length-append b.nodes grows.0)

terms-longer : (b c : Nodes) (terms : List ℕ) → length b.nodes ≤ length c.nodes → AreTerms b terms → AreTerms c terms
terms-longer b c terms le are = All-weaker (λ term. term < length b.nodes) (λ term. term < length c.nodes) (λ term less. omega (arith, le, less)) terms are

terms-pushed : (b : Nodes) (terms : List ℕ) (term : ℕ) → term < length b.nodes → AreTerms b terms → AreTerms b (terms ++ term ∷ [])
terms-pushed b terms term less are = All-append (λ term. term < length b.nodes) terms (term ∷ []) are (All-cons (λ term. term < length b.nodes) term [] less (All-nil (λ term. term < length b.nodes)))

left-grown : (b c : Nodes) (left : Option ℕ) → ((x : NameId) (leaf : ℕ) → leaf_of_variable b x ≡ Some leaf → leaf_of_variable c x ≡ Some leaf) → IsSomeLeaf b left → IsSomeLeaf c left
left-grown b c None grows left = tt
left-grown b c (Some leaf) grows (x, e) = (x, grows x leaf e)

pub with-node-longer : (b : Nodes) (node : Node) → length (nodes_with b node).nodes ≡ length b.nodes + 1
with-node-longer b node = length-append b.nodes (node ∷ [])

pub making-nothing : IsMaking nothing_made
making-nothing = record { nodes = nodes-nothing; terms = All-nil (λ term. term < 0); left = tt }

pub making-variable : (m : Making) (x : NameId) → IsMaking m → IsMaking (makes m (Variable x))
making-variable m x is =
    let b = m.nodes in
    let c = nodes_with_variable b x in
    record {
      nodes = nodes-variable b x is.nodes;
      terms = terms-pushed c m.terms (with_leaf b x).1 (variable-within b x is.nodes) (terms-longer b c m.terms (no-shorter b x) is.terms);
      left = left-grown b c m.left (λ y leaf e. leaf-grown b c y leaf (grows-variable b x) e) is.left;
    }

pub making-equate : (m : Making) (x : NameId) → IsMaking m → IsMaking (makes m (Equate x))
making-equate m x is =
    let b = m.nodes in
    let c = nodes_with_variable b x in
    record {
      nodes = nodes-variable b x is.nodes;
      terms = terms-longer b c m.terms (no-shorter b x) is.terms;
      left = (x, variable-found b x);
    }

-- a further node with a list of terms that ends with it
pub making-node : (m : Making) (node : Node) (terms : List ℕ) (heads : List (Head × ℕ)) → IsMaking m → AreTerms m.nodes terms →
    IsMaking (record m { nodes = nodes_with m.nodes node; terms = terms ++ length m.nodes.nodes ∷ []; heads = heads })
making-node m node terms heads is are =
    let b = m.nodes in
    let c = nodes_with b node in
    let longer = with-node-longer b node in
    record {
      nodes = nodes-node b node is.nodes;
      terms = terms-pushed c terms (length b.nodes) (omega (arith, longer)) (terms-longer b c terms (omega (arith, longer)) are);
      left = left-grown b c m.left (λ y leaf e. leaf-grown b c y leaf (grows-node b node) e) is.left;
    }

making-over : (m : Making) (l : Option Label) (count : ℕ) (heads : List (Head × ℕ)) → IsMaking m → IsMaking (made_over m l count heads)
making-over m None count heads is = record { nodes = is.nodes; terms = is.terms; left = is.left }
making-over m (Some l) count heads is = making-node m (labelled l (drop count m.terms)) (take count m.terms) heads is (All-take (λ term. term < length m.nodes.nodes) count m.terms is.terms)

pub making-closed : (m : Making) (heads : List (Head × ℕ)) → IsMaking m → IsMaking (closed_making m heads)
making-closed m [] is = is
making-closed m (last ∷ heads) is = making-over m (label_over last.0 (length (drop last.1 m.terms))) last.1 heads is

-- a leaf that was tied, or not
pub nodes-tied : (b : Nodes) (left : Option ℕ) (root : ℕ) (l : Option Label) → AreNodes b → IsSomeLeaf b left → root < length b.nodes → AreNodes (tied_nodes b left root l)
nodes-tied b None root l nodes left less = nodes
nodes-tied b (Some leaf) root None nodes left less = nodes
nodes-tied b (Some leaf) root (Some l) nodes (x, e) less = at (gives_way b leaf)
  where
    at : (v : Bool) → AreNodes (if v then b else nodes_with_target b leaf root)
    at true = nodes
    at false = nodes-target b x leaf root nodes e less

pub tied-nodes-same : (b : Nodes) (left : Option ℕ) (root : ℕ) (l : Option Label) → ((tied_nodes b left root l).nodes ≡ b.nodes) × ((tied_nodes b left root l).leaves ≡ b.leaves)
tied-nodes-same b None root l = (refl, refl)
tied-nodes-same b (Some leaf) root None = (refl, refl)
tied-nodes-same b (Some leaf) root (Some l) = at (gives_way b leaf)
  where
    at : (v : Bool) → ((if v then b else nodes_with_target b leaf root).nodes ≡ b.nodes) × ((if v then b else nodes_with_target b leaf root).leaves ≡ b.leaves)
    at true = (refl, refl)
    at false = (refl, refl)

last-within : (b : Nodes) (terms : List ℕ) (k term : ℕ) → AreTerms b terms → slice_get terms k ≡ Some term → term < length b.nodes
last-within b terms k term are e = All-get (λ term. term < length b.nodes) terms k term are e

pub making-defined : (m : Making) (o : Option ℕ) → slice_get m.terms (length m.terms - 1) ≡ o → IsMaking m → IsMaking (defined_making m o)
making-defined m None e is = is
making-defined m (Some last) e is =
    let b = m.nodes in
    let c = tied_nodes b m.left last (label_of b.nodes last) in
    let same = tied-nodes-same b m.left last (label_of b.nodes last) in
    record {
      nodes = nodes-tied b m.left last (label_of b.nodes last) is.nodes is.left (last-within b m.terms (length m.terms - 1) last is.terms e);
      terms = subst (λ (l : List Node). All (λ term. term < length l) (take (length m.terms - 1) m.terms)) (sym same.0) (All-take (λ term. term < length b.nodes) (length m.terms - 1) m.terms is.terms);
      left = left-grown b c m.left (λ y leaf found. subst (λ l. leaf_of_variable (record c { leaves = l }) y ≡ Some leaf) (sym same.1) found) is.left;
    }

-- every step keeps it
pub making-step : (m : Making) (step : TreeStep) → IsMaking m → IsMaking (makes m step)
making-step m (Variable x) is = making-variable m x is
making-step m (Leaf l) is = making-node m (labelled l []) m.terms m.heads is is.terms
making-step m (Open h) is = record { nodes = is.nodes; terms = is.terms; left = is.left }
making-step m Close is = making-closed m m.heads is
making-step m (Equate x) is = making-equate m x is
making-step m Define is = making-defined m (slice_get m.terms (length m.terms - 1)) refl is

-- what the code makes is what the steps make
pub variable-made : (m : Making) (b : Nodes) (x : NameId) (terms : List ℕ) (leaf : ℕ) → b ≡ nodes_with_variable m.nodes x → leaf_of_variable b x ≡ Some leaf → terms ≡ m.terms ++ leaf ∷ [] → record m { nodes = b; terms = terms } ≡ makes m (Variable x)
variable-made m b x terms leaf is found pushed =
    let there : leaf_of_variable (nodes_with_variable m.nodes x) x ≡ Some leaf = ap (λ (c : Nodes). leaf_of_variable c x) (sym is) ∙ found in
    let same : leaf ≡ (with_leaf m.nodes x).1 = sym (ap leaf_or there) in
    ap (λ (c : Nodes). record m { nodes = c; terms = terms }) is ∙ ap (λ (l : List ℕ). record m { nodes = nodes_with_variable m.nodes x; terms = l }) (pushed ∙ ap (λ n. m.terms ++ n ∷ []) same)

pub node-made : (m : Making) (b : Nodes) (l : Label) (terms : List ℕ) (node : ℕ) → b ≡ nodes_with m.nodes (labelled l []) → node ≡ length m.nodes.nodes → terms ≡ m.terms ++ node ∷ [] → record m { nodes = b; terms = terms } ≡ makes m (Leaf l)
node-made m b l terms node is at pushed =
    ap (λ (c : Nodes). record m { nodes = c; terms = terms }) is ∙ ap (λ (t : List ℕ). record m { nodes = nodes_with m.nodes (labelled l []); terms = t }) (pushed ∙ ap (λ n. m.terms ++ n ∷ []) at)

pub making-left : (m : Making) (b : Nodes) (x : NameId) (leaf : ℕ) (twice : Bool) → IsMaking m → b ≡ nodes_with_variable m.nodes x → leaf_of_variable b x ≡ Some leaf → IsMaking (record m { nodes = b; left = Some leaf; twice = twice })
making-left m b x leaf twice is same found =
    let equated = making-equate m x is in
    record {
      nodes = subst AreNodes (sym same) equated.nodes;
      terms = subst (λ (c : Nodes). AreTerms c m.terms) (sym same) equated.terms;
      left = (x, found);
    }

pub left-leaf : (m : Making) (leaf : ℕ) → IsMaking m → m.left ≡ Some leaf → (x : NameId) × (leaf_of_variable m.nodes x ≡ Some leaf)
left-leaf m leaf is e = subst (IsSomeLeaf m.nodes) e is.left

-- with no left side nothing is tied
pub left-none : (b : Nodes) (left : Option ℕ) (root : ℕ) → ((x : ℕ) → left ≡ Some x → ⊥) → b ≡ tied_nodes b left root (label_of b.nodes root)
left-none b None root none = refl
left-none b (Some leaf) root none = absurd (none leaf refl)

get-last : (xs : List ℕ) (x : ℕ) → slice_get (xs ++ x ∷ []) (length xs) ≡ Some x
get-last [] x = refl
get-last (y ∷ xs) x = get-last xs x

take-but-last : (xs : List ℕ) (x : ℕ) → take (length xs) (xs ++ x ∷ []) ≡ xs
take-but-last [] x = refl
take-but-last (y ∷ xs) x = ap (λ l. y ∷ l) (take-but-last xs x)

pub before-last : (xs : List ℕ) (x : ℕ) → length (xs ++ x ∷ []) - 1 ≡ length xs
before-last xs x = omega (arith, length-append xs (x ∷ []))

pub defined-made : (m : Making) (b : Nodes) (rest : List ℕ) (root : ℕ) → m.terms ≡ rest ++ root ∷ [] → b ≡ tied_nodes m.nodes m.left root (label_of m.nodes.nodes root) →
    record m { nodes = b; terms = rest } ≡ defined_making m (slice_get m.terms (length m.terms - 1))
defined-made m b rest root is tied =
    let count : length m.terms - 1 ≡ length rest = ap (λ l. length l - 1) is ∙ before-last rest root in
    let last : slice_get m.terms (length m.terms - 1) ≡ Some root = ap (λ k. slice_get m.terms k) count ∙ ap (λ l. slice_get l (length rest)) is ∙ get-last rest root in
    let others : take (length m.terms - 1) m.terms ≡ rest = ap (λ k. take k m.terms) count ∙ ap (take (length rest)) is ∙ take-but-last rest root in
    sym (ap (defined_making m) last ∙ ap (λ (t : List ℕ). record m { nodes = tied_nodes m.nodes m.left root (label_of m.nodes.nodes root); terms = t }) others ∙ ap (λ (c : Nodes). record m { nodes = c; terms = rest }) (sym tied))

-- the terms from a place on
pub rest-of : (now terms : List ℕ) (before : ℕ) → now ≡ terms → take (length now - before) (drop before now) ≡ drop before terms
rest-of now terms before same = ap (λ n. take n (drop before now)) (sym (length-drop before now)) ∙ take-length (drop before now) ∙ ap (drop before) same

-- the kids of the last open head become a node
pub closed-made : (m : Making) (b : Nodes) (terms kids : List ℕ) (items rest : List (Head × ℕ)) (h : Head) (count before node : ℕ) (l : Label) →
    m.heads ≡ reverse items → items ≡ rest ++ (h, count) ∷ [] → before ≡ min count (length m.terms) → label_over h (length m.terms - before) ≡ Some l → kids ≡ drop before m.terms → node ≡ length m.nodes.nodes →
    b ≡ nodes_with m.nodes (labelled l kids) → terms ≡ take before m.terms ++ node ∷ [] → record m { nodes = b; terms = terms; heads = reverse rest } ≡ closed_making m m.heads
closed-made m b terms kids items rest h count before node l heads last at label are node_is is pushed =
    let heads_are : m.heads ≡ (h, count) ∷ reverse rest = heads ∙ ap reverse last ∙ reverse-append rest ((h, count) ∷ []) in
    let dropped : drop before m.terms ≡ drop count m.terms = ap (λ k. drop k m.terms) at ∙ drop_min count m.terms in
    let taken : take before m.terms ≡ take count m.terms = ap (λ k. take k m.terms) at ∙ take_min count m.terms in
    let over : label_over h (length (drop count m.terms)) ≡ Some l = ap (label_over h) (ap length (sym dropped) ∙ length-drop before m.terms) ∙ label in
    let kids_are : kids ≡ drop count m.terms = are ∙ dropped in
    let nodes_are : b ≡ nodes_with m.nodes (labelled l (drop count m.terms)) = is ∙ ap (λ k. nodes_with m.nodes (labelled l k)) kids_are in
    let terms_are : terms ≡ take count m.terms ++ length m.nodes.nodes ∷ [] = pushed ∙ ap (λ t. t ++ node ∷ []) taken ∙ ap (λ n. take count m.terms ++ n ∷ []) node_is in
    sym (ap (closed_making m) heads_are ∙ ap (λ o. made_over m o count (reverse rest)) over
    ∙ ap (λ (t : List ℕ). record m { nodes = nodes_with m.nodes (labelled l (drop count m.terms)); terms = t; heads = reverse rest }) (sym terms_are)
    ∙ ap (λ (c : Nodes). record m { nodes = c; terms = terms; heads = reverse rest }) (sym nodes_are))
