-- The graph of all nodes is the solution of each system whose terms and equations it has nodes for.
use Rattle.std.proofs.Common.{◌≡◌, ℕ, zero, suc, List, [], ◌∷◌, map, refl, ap, sym, ◌∙◌, subst, Option, Some, None, inl, inr, ◌⊎◌, Bool, true, false, slice_get, slice_index_or}
use Rattle.std.specs.Prelude.{All, if◌then◌else◌, ◌↔◌}
use Rattle.std.specs.Option.{option_map, option_and_then}
use Rattle.std.proofs.lemmas.List.Elements.{All-head, All-tail}
use Rattle.mars_tree.specs.declared.label.NameId.{NameId}
use Rattle.mars_tree.specs.Graph.{Node, kids_of, shown_at, stands, end_of, free_leaf}
use Rattle.mars_tree.specs.Graph as graph
use Rattle.mars_tree.specs.Walk.{walk}
use Rattle.mars_graphs.specs.Systems.{same_variable, Side, variable, labelled, Sides, no_sides, next_side, side_list, Equation, EquationSystem, equal_to, given_way, sides_under, label, free, tip_of, side_at, ShowsTip, IsSolution}
use Rattle.mars_graphs.specs.Nodes.{Nodes, leaf_of_variable, target_at, target_among, StandsFor, StandForRow, HasLabel, Holds, tied, tied_graph, AreNodes}

-- a node of a term that gives way to none
pub record Final (b : Nodes) (equations : List Equation) (n : ℕ) (w : Side) : Type 0 where
  pub stands : StandsFor b n w
  pub fixed : given_way equations w ≡ w

label-fixed : (equations : List Equation) (w : Side) → HasLabel w → given_way equations w ≡ w
label-fixed equations (variable x) a = absurd a
label-fixed equations (labelled l sides) a = refl

-- a variable is equal to itself or to a labelled term
pub equal-cases : (x : NameId) (equations : List Equation) → All (λ e. HasLabel e.side) equations → (equal_to equations x ≡ variable x) ⊎ HasLabel (equal_to equations x)
equal-cases x [] a = inl refl
equal-cases x (d ∷ equations) a = at (same_variable x d.variable) (equal-cases x equations (All-tail (λ e. HasLabel e.side) d equations a))
  where
    at : (v : Bool) → (equal_to equations x ≡ variable x) ⊎ HasLabel (equal_to equations x) → ((if v then d.side else equal_to equations x) ≡ variable x) ⊎ HasLabel (if v then d.side else equal_to equations x)
    at true rest = inr (All-head (λ e. HasLabel e.side) d equations a)
    at false rest = rest

equal-fixed : (x : NameId) (equations : List Equation) → All (λ e. HasLabel e.side) equations → given_way equations (equal_to equations x) ≡ equal_to equations x
equal-fixed x equations a = elim (equal-cases x equations a) [ inl e ↦ ap (given_way equations) e | inr has ↦ label-fixed equations (equal_to equations x) has ]

pub target-final : (b : Nodes) (equations : List Equation) (n : ℕ) (t : Side) → AreNodes b → Holds b equations → StandsFor b n t → Final b equations (target_at b n) (given_way equations t)
target-final b equations n (variable x) nodes holds s = record { stands = holds.each x n s; fixed = equal-fixed x equations holds.applied }
target-final b equations n (labelled l sides) nodes holds s =
    let (kids, node, row) = s in
    let keeps : target_at b n ≡ n = nodes.kept n (graph.labelled l kids) node (λ e. cc) in
    record { stands = subst (λ k. StandsFor b k (labelled l sides)) (sym keeps) s; fixed = refl }

-- two walks end nowhere, or at a node and its term
abbrev pub EndAlike : Nodes → List Equation → Option ℕ → Option Side → Type 0
EndAlike b equations None None = Unit {0}
EndAlike b equations (Some n) (Some w) = Final b equations n w
EndAlike b equations (Some n) None = ⊥
EndAlike b equations None (Some w) = ⊥

row-alike : (b : Nodes) (equations : List Equation) (kids : List ℕ) (sides : Sides) (k : ℕ) → AreNodes b → Holds b equations → StandForRow b kids sides →
    EndAlike b equations (slice_get (map (target_among b.targets) kids) k) (slice_get (map (given_way equations) (side_list sides)) k)
row-alike b equations kids no_sides k nodes holds e = rw e tt
row-alike b equations kids (next_side t sides) zero nodes holds (kid, rest, e, s, row) = rw e (target-final b equations kid t nodes holds s)
row-alike b equations kids (next_side t sides) (suc k) nodes holds (kid, rest, e, s, row) = rw e (row-alike b equations rest sides k nodes holds row)

-- a node of the graph
node-at : (b : Nodes) (nodes : List Node) (n : ℕ) (node : Node) → slice_get nodes n ≡ Some node → slice_index_or (map (tied b.targets) nodes) n free_leaf ≡ tied b.targets node
node-at b [] n node e = absurd (cc)
node-at b (x ∷ nodes) zero node e = let same : x ≡ node = cc in ap (tied b.targets) same
node-at b (x ∷ nodes) (suc n) node e = node-at b nodes n node e

kids-alike : (b : Nodes) (equations : List Equation) (n : ℕ) (w : Side) (k : ℕ) → AreNodes b → Holds b equations → StandsFor b n w →
    EndAlike b equations (slice_get (kids_of (tied_graph b) n) k) (slice_get (sides_under equations w) k)
kids-alike b equations n (variable x) k nodes holds s =
    let node = node-at b b.nodes n free_leaf (nodes.free x n s) in
    subst (λ (at : Node). EndAlike b equations (slice_get at.kids k) None) (sym node) tt
kids-alike b equations n (labelled l sides) k nodes holds (kids, is, row) =
    let node = node-at b b.nodes n (graph.labelled l kids) is in
    subst (λ (at : Node). EndAlike b equations (slice_get at.kids k) (slice_get (map (given_way equations) (side_list sides)) k)) (sym node) (row-alike b equations kids sides k nodes holds row)

-- from nodes that stand for their terms walks end alike
pub walks-alike : (b : Nodes) (equations : List Equation) (n : ℕ) (w : Side) (path : List ℕ) → AreNodes b → Holds b equations → Final b equations n w →
    EndAlike b equations (end_of (tied_graph b) n path) (walk (sides_under equations) w path)
walks-alike b equations n w [] nodes holds final = final
walks-alike b equations n w (k ∷ path) nodes holds final =
    at (slice_get (kids_of (tied_graph b) n) k) (slice_get (sides_under equations w) k) (kids-alike b equations n w k nodes holds final.stands) (λ kid t f. walks-alike b equations kid t path nodes holds f)
  where
    at : (o : Option ℕ) (p : Option Side) → EndAlike b equations o p → ((kid : ℕ) (t : Side) → Final b equations kid t → EndAlike b equations (end_of (tied_graph b) kid path) (walk (sides_under equations) t path)) →
        EndAlike b equations (option_and_then (λ kid. walk (kids_of (tied_graph b)) kid path) o) (option_and_then (λ t. walk (sides_under equations) t path) p)
    at None None e on = tt
    at (Some kid) (Some t) e on = on kid t e
    at (Some kid) None e on = absurd e
    at None (Some t) e on = absurd e

shown-alike : (b : Nodes) (equations : List Equation) (n : ℕ) (w : Side) → AreNodes b → StandsFor b n w → ShowsTip (Some (tip_of w)) (Some (shown_at (tied_graph b) n))
shown-alike b equations n (variable x) nodes s =
    let node = node-at b b.nodes n free_leaf (nodes.free x n s) in
    subst (λ (at : Node). ShowsTip (Some (free x)) (Some (stands at.label n))) (sym node) tt
shown-alike b equations n (labelled l sides) nodes (kids, is, row) =
    let node = node-at b b.nodes n (graph.labelled l kids) is in
    subst (λ (at : Node). ShowsTip (Some (label l)) (Some (stands at.label n))) (sym node) refl

ends-agree : (b : Nodes) (equations : List Equation) (o : Option ℕ) (p : Option Side) → AreNodes b → EndAlike b equations o p → ShowsTip (option_map tip_of p) (option_map (shown_at (tied_graph b)) o)
ends-agree b equations None None nodes e = tt
ends-agree b equations (Some n) (Some w) nodes e = shown-alike b equations n w nodes e.stands
ends-agree b equations (Some n) None nodes e = absurd e
ends-agree b equations None (Some w) nodes e = absurd e

-- where a variable without an equation is
record EndsAt (b : Nodes) (o : Option ℕ) (x : NameId) : Type 0 where
  leaf : ℕ
  ends : o ≡ Some leaf
  found : leaf_of_variable b x ≡ Some leaf

free-end : (b : Nodes) (equations : List Equation) (o : Option ℕ) (p : Option Side) (x : NameId) → EndAlike b equations o p → option_map tip_of p ≡ Some (free x) → EndsAt b o x
free-end b equations None None x e s = absurd (cc)
free-end b equations (Some n) (Some (variable y)) x e s = let same : y ≡ x = cc in record { leaf = n; ends = refl; found = ap (leaf_of_variable b) (sym same) ∙ e.stands }
free-end b equations (Some n) (Some (labelled l sides)) x e s = absurd (cc)
free-end b equations (Some n) None x e s = absurd e
free-end b equations None (Some w) x e s = absurd e

one-leaf : (b : Nodes) (o p : Option ℕ) (x y : NameId) → AreNodes b → EndsAt b o x → EndsAt b p y → (x ≡ y) ↔ (o ≡ p)
one-leaf b o p x y nodes l m = (there, back)
  where
    there : x ≡ y → o ≡ p
    there e = let same : leaf_of_variable b x ≡ leaf_of_variable b y = ap (leaf_of_variable b) e in let here = l.found in let other = m.found in let ends = l.ends in let stops = m.ends in cc

    back : o ≡ p → x ≡ y
    back e = let ends = l.ends in let stops = m.ends in let same : l.leaf ≡ m.leaf = cc in nodes.apart x y l.leaf l.found (m.found ∙ ap Some (sym same))

-- the graph from what the root gives way to is the solution
pub solution-of : (b : Nodes) (system : EquationSystem) (root : ℕ) → AreNodes b → StandsFor b root system.side → Holds b system.equations → IsSolution system (tied_graph b) (target_at b root)
solution-of b system root nodes s holds = record {
  shown = λ path. ends-agree b system.equations (end_of (tied_graph b) (target_at b root) path) (side_at system path) nodes (alike path);
  leaves = λ path other x y here there. one-leaf b (end_of (tied_graph b) (target_at b root) path) (end_of (tied_graph b) (target_at b root) other) x y nodes
      (free-end b system.equations (end_of (tied_graph b) (target_at b root) path) (side_at system path) x (alike path) here)
      (free-end b system.equations (end_of (tied_graph b) (target_at b root) other) (side_at system other) y (alike other) there);
}
  where
    alike : (path : List ℕ) → EndAlike b system.equations (end_of (tied_graph b) (target_at b root) path) (side_at system path)
    alike path = walks-alike b system.equations (target_at b root) (given_way system.equations system.side) path nodes holds (target-final b system.equations root system.side nodes holds s)
