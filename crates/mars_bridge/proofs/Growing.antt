-- A system to which nodes are added represents what it represented.
use Rattle.std.proofs.Common.{◌≡◌, ℕ, ◌<◌, ◌≤◌, List, [], ◌∷◌, length, map, take, get_or-take, slice_get, slice_index, Option, Some, None, option_and_then, All, refl, sym, ap, ap₂, ◌∙◌, subst, arith}
use Rattle.std.specs.Option.{option_map}
use Rattle.std.proofs.lemmas.Option.{slice_get-map, slice_get_within, get_or_from_slice_get}
use Rattle.std.proofs.lemmas.List.Elements.{All-head, All-tail, All-weaker, All-get_or}
use Rattle.mars_tree.specs.Graph.{at}
use Rattle.mars_store.specs.Valuation.{Valuation, value}
use Rattle.mars_store.specs.System.{System, IsSystem, Grows}
use Rattle.mars_store.specs.Solutions.{InSol}
use Rattle.mars_store.specs.Growing.{Continues, cut}
use Rattle.mars_store.proofs.CallerLemmas.{restricted, older-value, trees_stay}
use Rattle.mars_machine.specs.Subjects.{Subject, subject_value}
use Rattle.mars_machine.specs.Equations.{Equations, Solves}
use Rattle.mars_bridge.specs.Represents.{of_vars, Represents, Denotes}
use Rattle.mars_bridge.specs.Scoped.{GoesOn, IsKeptBy}
use Rattle.mars_bridge.proofs.Parts.{of-var}

map-same : (f g : ℕ → ℕ) (size : ℕ) (xs : List ℕ) → All (λ x. x < size) xs → ((x : ℕ) → x < size → f x ≡ g x) → map f xs ≡ map g xs
map-same f g size [] h same = refl
map-same f g size (x ∷ xs) h same = ap₂ (λ y ys. y ∷ ys) (same x (All-head (λ x. x < size) x xs h)) (map-same f g size xs (All-tail (λ x. x < size) x xs h) same)

-- a variable without a node has no tree
pub of-none : (vars : List ℕ) (v : Valuation) (x : ℕ) → slice_get vars x ≡ None → (path : List ℕ) → value (of_vars vars v) x path ≡ None
of-none vars v x e path =
    ap (option_and_then (λ m. at v.graph m path)) (slice_get-map (slice_index v.nodes) vars x ∙ ap (option_map (slice_index v.nodes)) e)

pub node-inside : (size : ℕ) (vars : List ℕ) (x n : ℕ) → All (λ n. n < size) vars → slice_get vars x ≡ Some n → n < size
node-inside size vars x n h e = subst (λ n. n < size) (get_or_from_slice_get vars x n 0 e) (All-get_or (λ n. n < size) vars x 0 (slice_get_within vars x n e) h)

-- in a solution that goes on the variables have the trees that they had
pub stays : (size : ℕ) (vars : List ℕ) → All (λ n. n < size) vars → (old : System) → length old.nodes ≡ size → (v u : Valuation) → InSol old v → Continues v u → length v.nodes ≤ length u.nodes
    → (x : ℕ) (path : List ℕ) → value (of_vars vars u) x path ≡ value (of_vars vars v) x path
stays size vars inside old is v u sol on more x path = go (slice_get vars x) refl
  where
    go : (o : Option ℕ) → slice_get vars x ≡ o → value (of_vars vars u) x path ≡ value (of_vars vars v) x path
    go None e = of-none vars u x e path ∙ sym (of-none vars v x e path)
    go (Some n) e =
        let h : n < size = node-inside size vars x n inside e in
        let each = sol.valuation.each in
        of-var vars u x n e (omega arith) path ∙ trees_stay (length old.nodes) v u sol.valuation on n (omega arith) path ∙ sym (of-var vars v x n e (omega arith) path)

module _ (e : Equations) (old new : System) (vars : List ℕ) (r : Represents e old vars) (sound : IsSystem old) (grows : Grows old new) where
  vars-cut : (v : Valuation) → of_vars vars (cut (length old.nodes) v) ≡ of_vars vars v
  vars-cut v = ap (λ (ns : List ℕ). record { graph = v.graph; nodes = ns })
      (map-same (slice_index (take (length old.nodes) v.nodes)) (slice_index v.nodes) (length old.nodes) vars r.inside (λ x h. get_or-take (length old.nodes) v.nodes x 0 h))

  -- a node denotes what it denoted
  pub denotes_more : (n : ℕ) (subject : Subject) → Denotes e old vars n subject → Denotes e new vars n subject
  denotes_more n subject st = record {
    inside = let h = st.inside in let more = grows.more_nodes in omega arith;
    tree = λ v sol path.
        sym (older-value old new sound grows v sol n st.inside path)
        ∙ subst (λ (u : Valuation). value (cut (length old.nodes) v) n path ≡ subject_value e.kept u subject path) (vars-cut v)
        (st.tree (cut (length old.nodes) v) (restricted old new sound grows v sol) path);
  }

  -- a solution of the system that has grown solves the equations still
  pub solves_more : (v : Valuation) → InSol new v → Solves e (of_vars vars v)
  solves_more v sol = subst (Solves e) (vars-cut v) (r.solves (cut (length old.nodes) v) (restricted old new sound grows v sol))

  pub more-long : (v u : Valuation) → InSol old v → InSol new u → length v.nodes ≤ length u.nodes
  more-long v u sol here = let a = sol.valuation.each in let b = here.valuation.each in let more = grows.more_nodes in omega arith

pub kept_by : (e : Equations) (old new : System) (vars : List ℕ) → Represents e old vars → GoesOn old new → IsKeptBy e old new vars
kept_by e old new vars r g = record {
  represents = record {
    one_each = r.one_each;
    inside = let more = g.grows.more_nodes in All-weaker (λ n. n < length old.nodes) (λ n. n < length new.nodes) (λ n h. omega arith) vars r.inside;
    solves = solves_more e old new vars r g.sound g.grows;
    solved = λ w k.
        let v = r.solved w k in
        let u = g.on v.0 v.1 in (
          u.0,
          u.1,
          record {
            along = λ x path. stays (length old.nodes) vars r.inside old refl v.0 u.0 v.1 u.2 (more-long e old new vars r g.sound g.grows v.0 u.0 v.1 u.1) x path ∙ v.2.along x path;
          },
        );
  };
  denotes = denotes_more e old new vars r g.sound g.grows;
}
