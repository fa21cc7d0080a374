-- Nodes of terms stay so while further nodes are made, and so do the equations that hold.
use Rattle.std.proofs.Common.{◌≡◌, ℕ, ◌<◌, List, [], ◌∷◌, ◌++◌, length, refl, ap, sym, ◌∙◌, subst, Option, Some, None, inl, inr, ◌⊎◌, Bool, true, false, slice_get, append_assoc, append-nil, arith}
use Rattle.std.specs.Prelude.{All, IsSome, if◌then◌else◌, not, ◌==◌}
use Rattle.std.specs.Option.{option_map_or}
use Rattle.std.proofs.lemmas.Bool.Decides.{nat_tests}
use Rattle.std.proofs.lemmas.Option.{slice_get_within}
use Rattle.std.proofs.lemmas.List.{get_or-set_other, get_or-set_same}
use Rattle.std.proofs.lemmas.List.Elements.{All-append, All-cons, All-nil, All-weaker, All-head, All-tail}
use Rattle.mars_tree.specs.declared.label.Label.{Label}
use Rattle.mars_tree.specs.declared.label.NameId.{NameId}
use Rattle.mars_tree.specs.Graph.{Node, free_leaf}
use Rattle.mars_tree.specs.Graph as graph
use Rattle.mars_graphs.specs.Systems.{same_variable, Side, variable, labelled, Sides, no_sides, next_side, Equation, equal_to}
use Rattle.mars_graphs.specs.Nodes.{Nodes, no_nodes, leaf_of_variable, target_at, target_among, nodes_with, nodes_with_variable, nodes_with_target, has_target, StandsFor, StandForRow, HasLabel, Holds, NodesGrow, AreNodes}
use Rattle.mars_graphs.proofs.Building.{leaf_added, nodes_with_variable-new, nodes_with_variable-known, leaf_among-append, leaf_among-added, slice_get-append, slice_get-new, target-added, target-new, nodes-leaf, eq-test, same-decides}
use Rattle.mars_graphs.proofs.Trees.{equal-cases}

pub grows-not : (b : Nodes) → NodesGrow b b
grows-not b = record { nodes = ([], sym (append-nil b.nodes)); leaves = ([], sym (append-nil b.leaves)) }

pub grows-then : (a b c : Nodes) → NodesGrow a b → NodesGrow b c → NodesGrow a c
grows-then a b c g h = record {
  nodes = (g.nodes.0 ++ h.nodes.0, h.nodes.1 ∙ ap (λ l. l ++ h.nodes.0) g.nodes.1 ∙ append_assoc a.nodes g.nodes.0 h.nodes.0);
  leaves = (g.leaves.0 ++ h.leaves.0, h.leaves.1 ∙ ap (λ l. l ++ h.leaves.0) g.leaves.1 ∙ append_assoc a.leaves g.leaves.0 h.leaves.0);
}

pub grows-node : (b : Nodes) (node : Node) → NodesGrow b (nodes_with b node)
grows-node b node = record { nodes = (node ∷ [], refl); leaves = ([], sym (append-nil b.leaves)) }

grows-leaf : (b : Nodes) (x : NameId) → NodesGrow b (leaf_added b x)
grows-leaf b x = record { nodes = (free_leaf ∷ [], refl); leaves = ((x, length b.nodes) ∷ [], refl) }

pub grows-variable : (b : Nodes) (x : NameId) → NodesGrow b (nodes_with_variable b x)
grows-variable b x = at (leaf_of_variable b x) refl
  where
    at : (o : Option ℕ) → leaf_of_variable b x ≡ o → NodesGrow b (nodes_with_variable b x)
    at None e = subst (NodesGrow b) (sym (nodes_with_variable-new b x e)) (grows-leaf b x)
    at (Some l) e = subst (NodesGrow b) (sym (nodes_with_variable-known b x l e)) (grows-not b)

pub grows-target : (b : Nodes) (leaf root : ℕ) → NodesGrow b (nodes_with_target b leaf root)
grows-target b leaf root = record { nodes = ([], sym (append-nil b.nodes)); leaves = ([], sym (append-nil b.leaves)) }

-- a leaf stays
pub leaf-grown : (old new : Nodes) (x : NameId) (n : ℕ) → NodesGrow old new → leaf_of_variable old x ≡ Some n → leaf_of_variable new x ≡ Some n
leaf-grown old new x n g e = subst (λ l. leaf_of_variable (record new { leaves = l }) x ≡ Some n) (sym g.leaves.1) (leaf_among-append x old.leaves g.leaves.0 n e)

node-grown : (old new : Nodes) (n : ℕ) (node : Node) → NodesGrow old new → slice_get old.nodes n ≡ Some node → slice_get new.nodes n ≡ Some node
node-grown old new n node g e = subst (λ l. slice_get l n ≡ Some node) (sym g.nodes.1) (slice_get-append old.nodes g.nodes.0 node n e)

-- a node of a term stays one
mutual
  pub stands-grown : (old new : Nodes) (n : ℕ) (t : Side) → NodesGrow old new → StandsFor old n t → StandsFor new n t
  stands-grown old new n (variable x) g s = leaf-grown old new x n g s
  stands-grown old new n (labelled l sides) g (kids, node, row) = (kids, node-grown old new n (graph.labelled l kids) g node, row-grown old new kids sides g row)

  pub row-grown : (old new : Nodes) (kids : List ℕ) (sides : Sides) → NodesGrow old new → StandForRow old kids sides → StandForRow new kids sides
  row-grown old new kids no_sides g row = row
  row-grown old new kids (next_side t sides) g (kid, rest, e, s, row) = (kid, rest, e, stands-grown old new kid t g s, row-grown old new rest sides g row)

-- the node of a label over its kids is that of the whole
pub stands-labelled : (b : Nodes) (l : Label) (kids : List ℕ) (sides : Sides) → StandForRow b kids sides → StandsFor (nodes_with b (graph.labelled l kids)) (length b.nodes) (labelled l sides)
stands-labelled b l kids sides row =
    let node = graph.labelled l kids in
    (kids, slice_get-new b.nodes node, row-grown b (nodes_with b node) kids sides (grows-node b node) row)

pub holds-nothing : Holds no_nodes []
holds-nothing = record { each = λ x leaf e. absurd (cc); known = All-nil (λ d. IsSome (leaf_of_variable no_nodes d.variable)); applied = All-nil (λ d. HasLabel d.side) }

some-grown : (old new : Nodes) (x : NameId) → NodesGrow old new → IsSome (leaf_of_variable old x) → IsSome (leaf_of_variable new x)
some-grown old new x g some = at (leaf_of_variable old x) refl some
  where
    at : (o : Option ℕ) → leaf_of_variable old x ≡ o → IsSome o → IsSome (leaf_of_variable new x)
    at None e s = absurd (cc)
    at (Some n) e s = subst IsSome (sym (leaf-grown old new x n g e)) refl

known-grown : (old new : Nodes) (equations : List Equation) → NodesGrow old new → All (λ d. IsSome (leaf_of_variable old d.variable)) equations → All (λ d. IsSome (leaf_of_variable new d.variable)) equations
known-grown old new equations g known = All-weaker (λ d. IsSome (leaf_of_variable old d.variable)) (λ d. IsSome (leaf_of_variable new d.variable)) (λ d some. some-grown old new d.variable g some) equations known

pub leaf-within : (b : Nodes) (x : NameId) (leaf : ℕ) → AreNodes b → leaf_of_variable b x ≡ Some leaf → leaf < length b.targets
leaf-within b x leaf nodes e = omega (arith, slice_get_within b.nodes leaf free_leaf (nodes.free x leaf e), nodes.size)

-- a further node
pub holds-node : (b : Nodes) (node : Node) (equations : List Equation) → AreNodes b → Holds b equations → Holds (nodes_with b node) equations
holds-node b node equations nodes holds = record {
  each = λ x leaf e.
      let stays : target_at (nodes_with b node) leaf ≡ target_at b leaf = target-added b.targets (length b.nodes) leaf (leaf-within b x leaf nodes e) in
      subst (λ n. StandsFor (nodes_with b node) n (equal_to equations x)) (sym stays)
      (stands-grown b (nodes_with b node) (target_at b leaf) (equal_to equations x) (grows-node b node) (holds.each x leaf e));
  known = holds.known;
  applied = holds.applied;
}

no-some : IsSome {T = ℕ} None → ⊥
no-some e = cc

-- a variable that no leaf is known of has no equation
unknown-undefined : (b : Nodes) (x : NameId) (equations : List Equation) → leaf_of_variable b x ≡ None → All (λ d. IsSome (leaf_of_variable b d.variable)) equations → equal_to equations x ≡ variable x
unknown-undefined b x [] new known = refl
unknown-undefined b x (d ∷ equations) new known = at (same_variable x d.variable) refl (unknown-undefined b x equations new (All-tail (λ d. IsSome (leaf_of_variable b d.variable)) d equations known))
  where
    at : (v : Bool) → same_variable x d.variable ≡ v → equal_to equations x ≡ variable x → (if v then d.side else equal_to equations x) ≡ variable x
    at false e rest = rest
    at true e rest =
        let same : x ≡ d.variable = (same-decides x d.variable).0 e in
        let some : IsSome (leaf_of_variable b d.variable) = All-head (λ d. IsSome (leaf_of_variable b d.variable)) d equations known in
        let nowhere : leaf_of_variable b d.variable ≡ None = ap (leaf_of_variable b) (sym same) ∙ new in
        absurd (no-some (subst IsSome nowhere some))

holds-leaf : (b : Nodes) (x : NameId) (equations : List Equation) → AreNodes b → leaf_of_variable b x ≡ None → Holds b equations → Holds (leaf_added b x) equations
holds-leaf b x equations nodes new holds = record {
  each = λ y leaf e. elim (leaf_among-added y x b.leaves (length b.nodes) leaf e) [
    | inl old ↦
        let stays : target_at (leaf_added b x) leaf ≡ target_at b leaf = target-added b.targets (length b.nodes) leaf (leaf-within b y leaf nodes old) in
        subst (λ n. StandsFor (leaf_added b x) n (equal_to equations y)) (sym stays)
        (stands-grown b (leaf_added b x) (target_at b leaf) (equal_to equations y) (grows-leaf b x) (holds.each y leaf old))
    | inr there ↦
        let itself : target_at (leaf_added b x) leaf ≡ leaf = subst (λ k. target_among (b.targets ++ k ∷ []) leaf ≡ leaf) there.1 (target-new b.targets leaf (there.1 ∙ sym nodes.size)) in
        let undefined : equal_to equations y ≡ variable y = subst (λ z. equal_to equations z ≡ variable z) (sym there.0) (unknown-undefined b x equations new holds.known) in
        subst (λ t. StandsFor (leaf_added b x) (target_at (leaf_added b x) leaf) t) (sym undefined) (e ∙ ap Some (sym itself))
  ];
  known = known-grown b (leaf_added b x) equations (grows-leaf b x) holds.known;
  applied = holds.applied;
}

-- a further variable
pub holds-variable : (b : Nodes) (x : NameId) (equations : List Equation) → AreNodes b → Holds b equations → Holds (nodes_with_variable b x) equations
holds-variable b x equations nodes holds = at (leaf_of_variable b x) refl
  where
    at : (o : Option ℕ) → leaf_of_variable b x ≡ o → Holds (nodes_with_variable b x) equations
    at None e = subst (λ c. Holds c equations) (sym (nodes_with_variable-new b x e)) (holds-leaf b x equations nodes e holds)
    at (Some l) e = subst (λ c. Holds c equations) (sym (nodes_with_variable-known b x l e)) holds

-- a leaf is the node of no labelled term
leaf-no-label : (b : Nodes) (x : NameId) (leaf : ℕ) (t : Side) → AreNodes b → leaf_of_variable b x ≡ Some leaf → StandsFor b leaf t → HasLabel t → ⊥
leaf-no-label b x leaf (variable y) nodes e s has = has
leaf-no-label b x leaf (labelled l sides) nodes e (kids, node, row) has =
    let free = nodes.free x leaf e in
    let same : graph.labelled l kids ≡ free_leaf = cc in
    let no_label : Some l ≡ None = ap (λ (m : Node). m.label) same in
    cc

pub nodes-variable : (b : Nodes) (x : NameId) → AreNodes b → AreNodes (nodes_with_variable b x)
nodes-variable b x nodes = at (leaf_of_variable b x) refl
  where
    at : (o : Option ℕ) → leaf_of_variable b x ≡ o → AreNodes (nodes_with_variable b x)
    at None e = subst AreNodes (sym (nodes_with_variable-new b x e)) (nodes-leaf b x nodes e)
    at (Some l) e = subst AreNodes (sym (nodes_with_variable-known b x l e)) nodes

not-test : (n m : ℕ) → not (n == m) ≡ false → n ≡ m
not-test n m h = grind (arith, nat_tests)

-- the variables whose leaves give way are those that have an equation
pub target-label : (b : Nodes) (x : NameId) (equations : List Equation) → AreNodes b → Holds b equations → has_target b x ≡ true → HasLabel (equal_to equations x)
target-label b x equations nodes holds is = at (leaf_of_variable b x) refl is
  where
    given : (leaf : ℕ) → leaf_of_variable b x ≡ Some leaf → (target_at b leaf ≡ leaf → ⊥) → (t : Side) → equal_to equations x ≡ t → StandsFor b (target_at b leaf) t → (t ≡ variable x) ⊎ HasLabel t → HasLabel t
    given leaf e other t same s (inr applied) = applied
    given leaf e other t same s (inl itself) = absurd (let there : leaf_of_variable b x ≡ Some (target_at b leaf) = subst (λ t. StandsFor b (target_at b leaf) t) itself s in other cc)

    at : (o : Option ℕ) → leaf_of_variable b x ≡ o → has_target b x ≡ true → HasLabel (equal_to equations x)
    at None e is = absurd (let no : has_target b x ≡ false = ap (λ o. option_map_or (λ l. not (target_at b l == l)) o false) e in cc)
    at (Some leaf) e is =
        let test : has_target b x ≡ not (target_at b leaf == leaf) = ap (λ o. option_map_or (λ l. not (target_at b l == l)) o false) e in
        given leaf e (λ same. let yes : (target_at b leaf == leaf) ≡ true = eq-test (target_at b leaf) leaf same in let no : not (target_at b leaf == leaf) ≡ true = sym test ∙ is in cc) (equal_to equations x) refl (holds.each x leaf e)
        (equal-cases x equations holds.applied)

pub no-target-variable : (b : Nodes) (x : NameId) (equations : List Equation) → AreNodes b → Holds b equations → has_target b x ≡ false → equal_to equations x ≡ variable x
no-target-variable b x equations nodes holds is = at (leaf_of_variable b x) refl
  where
    at : (o : Option ℕ) → leaf_of_variable b x ≡ o → equal_to equations x ≡ variable x
    at None e = unknown-undefined b x equations e holds.known
    at (Some leaf) e = elim (equal-cases x equations holds.applied) [
      | inl itself ↦ itself
      | inr applied ↦ absurd (
          let test : has_target b x ≡ not (target_at b leaf == leaf) = ap (λ o. option_map_or (λ l. not (target_at b l == l)) o false) e in
          let itself : target_at b leaf ≡ leaf = not-test (target_at b leaf) leaf (sym test ∙ is) in
          leaf-no-label b x leaf (equal_to equations x) nodes e (subst (λ n. StandsFor b n (equal_to equations x)) itself (holds.each x leaf e)) applied)
    ]

-- one equation more
defined-last : (x : NameId) (t : Side) (equations : List Equation) → All (λ d. HasLabel d.side) equations → equal_to equations x ≡ variable x → equal_to (equations ++ record { variable = x; side = t } ∷ []) x ≡ t
defined-last x t [] applied e = ap (λ (v : Bool). if v then t else variable x) ((same-decides x x).1 refl)
defined-last x t (d ∷ equations) applied e = at (same_variable x d.variable) e (defined-last x t equations (All-tail (λ d. HasLabel d.side) d equations applied))
  where
    at : (v : Bool) → (if v then d.side else equal_to equations x) ≡ variable x → (equal_to equations x ≡ variable x → equal_to (equations ++ record { variable = x; side = t } ∷ []) x ≡ t) →
        (if v then d.side else equal_to (equations ++ record { variable = x; side = t } ∷ []) x) ≡ t
    at true e ih = absurd (subst HasLabel e (All-head (λ d. HasLabel d.side) d equations applied))
    at false e ih = ih e

defined-other : (x y : NameId) (t : Side) (equations : List Equation) → (y ≡ x → ⊥) → equal_to (equations ++ record { variable = x; side = t } ∷ []) y ≡ equal_to equations y
defined-other x y t [] other = at (same_variable y x) refl
  where
    at : (v : Bool) → same_variable y x ≡ v → (if v then t else variable y) ≡ variable y
    at true e = absurd (other ((same-decides y x).0 e))
    at false e = refl
defined-other x y t (d ∷ equations) other = at (same_variable y d.variable) (defined-other x y t equations other)
  where
    at : (v : Bool) → equal_to (equations ++ record { variable = x; side = t } ∷ []) y ≡ equal_to equations y → (if v then d.side else equal_to (equations ++ record { variable = x; side = t } ∷ []) y) ≡ (if v then d.side else equal_to equations y)
    at true ih = refl
    at false ih = ih

target-set : (b : Nodes) (leaf root : ℕ) → leaf < length b.targets → target_at (nodes_with_target b leaf root) leaf ≡ root
target-set b leaf root less = get_or-set_same b.targets leaf root leaf less

target-kept : (b : Nodes) (leaf root n : ℕ) → (n ≡ leaf → ⊥) → target_at (nodes_with_target b leaf root) n ≡ target_at b n
target-kept b leaf root n other = get_or-set_other b.targets leaf n root n other

pub holds-target : (b : Nodes) (x : NameId) (leaf root : ℕ) (t : Side) (equations : List Equation) → AreNodes b → Holds b equations → leaf_of_variable b x ≡ Some leaf → equal_to equations x ≡ variable x → StandsFor b root t → HasLabel t →
    Holds (nodes_with_target b leaf root) (equations ++ record { variable = x; side = t } ∷ [])
holds-target b x leaf root t equations nodes holds found undefined s applied = record {
  each = λ y l e. at y l e (same_variable y x) refl;
  known = All-append (λ d. IsSome (leaf_of_variable b d.variable)) equations (d ∷ []) holds.known (All-cons (λ d. IsSome (leaf_of_variable b d.variable)) d [] (subst IsSome (sym found) refl) (All-nil (λ d. IsSome (leaf_of_variable b d.variable))));
  applied = All-append (λ d. HasLabel d.side) equations (d ∷ []) holds.applied (All-cons (λ d. HasLabel d.side) d [] applied (All-nil (λ d. HasLabel d.side)));
}
  where
    d : Equation
    d = record { variable = x; side = t }

    grown : (n : ℕ) (w : Side) → StandsFor b n w → StandsFor (nodes_with_target b leaf root) n w
    grown n w s = stands-grown b (nodes_with_target b leaf root) n w (grows-target b leaf root) s

    here : (y : NameId) (l : ℕ) → leaf_of_variable b y ≡ Some l → y ≡ x → StandsFor (nodes_with_target b leaf root) (target_at (nodes_with_target b leaf root) l) (equal_to (equations ++ record { variable = x; side = t } ∷ []) y)
    here y l e same =
        let leaves : l ≡ leaf = let also : leaf_of_variable b x ≡ Some l = subst (λ z. leaf_of_variable b z ≡ Some l) same e in cc in
        let target : target_at (nodes_with_target b leaf root) l ≡ root = ap (target_at (nodes_with_target b leaf root)) leaves ∙ target-set b leaf root (leaf-within b x leaf nodes found) in
        let term : equal_to (equations ++ record { variable = x; side = t } ∷ []) y ≡ t = ap (equal_to (equations ++ record { variable = x; side = t } ∷ [])) same ∙ defined-last x t equations holds.applied undefined in
        subst (λ n. StandsFor (nodes_with_target b leaf root) n (equal_to (equations ++ record { variable = x; side = t } ∷ []) y)) (sym target)
        (subst (λ w. StandsFor (nodes_with_target b leaf root) root w) (sym term) (grown root t s))

    at : (y : NameId) (l : ℕ) → leaf_of_variable b y ≡ Some l → (v : Bool) → same_variable y x ≡ v → StandsFor (nodes_with_target b leaf root) (target_at (nodes_with_target b leaf root) l) (equal_to (equations ++ record { variable = x; side = t } ∷ []) y)
    at y l e true is = here y l e ((same-decides y x).0 is)
    at y l e false is =
        let other : y ≡ x → ⊥ = λ same. let yes : same_variable y x ≡ true = (same-decides y x).1 same in cc in
        let target : target_at (nodes_with_target b leaf root) l ≡ target_at b l = target-kept b leaf root l (λ same. other (nodes.apart y x leaf (subst (λ k. leaf_of_variable b y ≡ Some k) same e) found)) in
        subst (λ n. StandsFor (nodes_with_target b leaf root) n (equal_to (equations ++ record { variable = x; side = t } ∷ []) y)) (sym target)
        (subst (λ w. StandsFor (nodes_with_target b leaf root) (target_at b l) w) (sym (defined-other x y t equations other)) (grown (target_at b l) (equal_to equations y) (holds.each y l e)))
