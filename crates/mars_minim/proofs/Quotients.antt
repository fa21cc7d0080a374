-- The graph with one node for each class of trees.
use Rattle.std.proofs.Common.{◌≡◌, ℕ, suc, ◌<◌, ◌≤◌, ◌+◌, List, [], ◌∷◌, ◌++◌, length, map, get_or, Option, Some, slice_get, refl, sym, subst, ap, ◌∙◌, arith, inl, inr, All}
use Rattle.std.proofs.lemmas.Option.{slice_get-get_or}
use Rattle.std.proofs.lemmas.List.{length-map, length_push}
use Rattle.std.proofs.lemmas.List.Elements.{All-nil, All-cons, All-append}
use Rattle.mars_tree.specs.declared.label.Label.{Label}
use Rattle.mars_tree.specs.Graph.{Node, IsGraph, label_of, kids_of, free_leaf}
use Rattle.mars_tree.specs.Canonical.{KeepsWalks}
use Rattle.mars_tree.specs.Stored.{kid_count, nodes_of}
use Rattle.mars_tree.proofs.NameLemmas.{slice_get-push}
use Rattle.mars_tree.proofs.Paths.{kid_in, kids_from_label}
use Rattle.mars_refine.specs.Refine.{class_of, AreTrees}
use Rattle.mars_refine.proofs.Refining.{same_shown, same_label, same_kids}
use Rattle.mars_reach.specs.Image.{IsImage}
use Rattle.mars_reach.specs.Order.{renumbered_node, renumbered}
use Rattle.mars_reach.specs.Part.{ShowsPart}
use Rattle.mars_reach.proofs.Images.{keeps_transitive, image_apart, image_graph, image_keeps, image_reached, image_roots_in, image_small}
use Rattle.mars_reach.proofs.Flat.{AreLaid, IsPushed, laid_push, laid_size, laid_nodes, laid_below}
use Rattle.mars_reach.proofs.Numbers.{All-from_gets, All-slice_get}
use Rattle.mars_reach.proofs.Parts.{node_at}
use Rattle.mars_minim.specs.Minimal.{IsMinimal}

-- lists whose elements have the same values place by place
map_alike : (f : ℕ → ℕ) (xs ys : List ℕ) → length xs ≡ length ys → ((k x y : ℕ) → slice_get xs k ≡ Some x → slice_get ys k ≡ Some y → f x ≡ f y) → map f xs ≡ map f ys
map_alike f [] [] e each = refl
map_alike f (x ∷ xs) (y ∷ ys) e each =
    ap (λ z. z ∷ map f xs) (each 0 x y refl refl) ∙ ap (λ zs. f y ∷ zs) (map_alike f xs ys (omega arith) (λ k. each (suc k)))
map_alike f [] (y ∷ ys) e each = absurd (omega arith)
map_alike f (x ∷ xs) [] e each = absurd (omega arith)

-- one node of each of the first classes, and its label and kids in two lists
pub record AreFirsts (g : List Node) (of : List ℕ) (count : ℕ) (labels : List (Option Label)) (kids : List ℕ) : Type 0 where
  pub nodes : List ℕ
  pub laid : AreLaid g (class_of of) nodes labels kids
  pub in_range : All (λ n. n < length g) nodes
  pub classes : (class u : ℕ) → slice_get nodes class ≡ Some u → class_of of u ≡ class
  pub size : length nodes ≡ count

module _ (g : List Node) (of : List ℕ) (graph : IsGraph g) (trees : AreTrees g of) where
  class_label : (u v : ℕ) → u < length g → v < length g → class_of of u ≡ class_of of v → label_of g u ≡ label_of g v
  class_label u v u_in v_in e = same_label g u v (same_shown g u v ((trees u v u_in v_in).0 e))

  class_kids : (u v : ℕ) → u < length g → v < length g → class_of of u ≡ class_of of v → map (class_of of) (kids_of g u) ≡ map (class_of of) (kids_of g v)
  class_kids u v u_in v_in e =
      map_alike (class_of of) (kids_of g u) (kids_of g v) (kids_from_label g g u v graph graph u_in v_in (class_label u v u_in v_in e))
      (λ k x y left right. (trees x y (kid_in g u k x graph u_in left) (kid_in g v k y graph v_in right)).1 (same_kids g u v k x y ((trees u v u_in v_in).0 e) left right))

  -- one node for each class
  pub quotient_image : (count : ℕ) (labels : List (Option Label)) (kids : List ℕ) → AreFirsts g of count labels kids → ((u : ℕ) → u < length g → class_of of u < count) →
      IsImage g (λ n. n < length g) (class_of of) (nodes_of labels kids)
  quotient_image count labels kids firsts below =
      let nodes = firsts.nodes in
      let h : List Node = renumbered g (class_of of) nodes in
      let size : length h ≡ count = length-map nodes (renumbered_node g (class_of of)) ∙ firsts.size in
      let first = λ (c : ℕ) (lt : c < count).
      let at : slice_get nodes c ≡ Some (get_or nodes c 0) = slice_get-get_or nodes c 0 (omega (arith, lt, firsts.size)) in at in
      let first_in = λ (c : ℕ) (lt : c < count). let in_range : get_or nodes c 0 < length g = All-slice_get (λ n. n < length g) nodes c (get_or nodes c 0) firsts.in_range (first c lt) in in_range in
      let first_class = λ (c : ℕ) (lt : c < count). let is : class_of of (get_or nodes c 0) ≡ c = firsts.classes c (get_or nodes c 0) (first c lt) in is in
      let node = λ (c : ℕ) (lt : c < count). let is : get_or h c free_leaf ≡ renumbered_node g (class_of of) (get_or nodes c 0) = node_at g (class_of of) nodes c (get_or nodes c 0) (first c lt) in is in
      let image : IsImage g (λ n. n < length g) (class_of of) h = record {
        in_range = λ u u_in. u_in;
        closed = λ u k kid u_in e. kid_in g u k kid graph u_in e;
        below = λ u u_in. omega (arith, below u u_in, size);
        onto = λ n n_in. let lt : n < count = omega (arith, n_in, size) in (get_or nodes n 0, first_in n lt, first_class n lt);
        label = λ u u_in.
            let c : ℕ = class_of of u in
            let lt : c < count = below u u_in in
            ap (λ (v : Node). v.label) (node c lt) ∙ class_label (get_or nodes c 0) u (first_in c lt) u_in (first_class c lt);
        kids = λ u u_in.
            let c : ℕ = class_of of u in
            let lt : c < count = below u u_in in
            ap (λ (v : Node). v.kids) (node c lt) ∙ class_kids (get_or nodes c 0) u (first_in c lt) u_in (first_class c lt);
        alike = λ u v u_in v_in e. (trees u v u_in v_in).0 e;
      } in
      subst (IsImage g (λ n. n < length g) (class_of of)) (sym (laid_nodes g (class_of of) nodes labels kids firsts.laid graph firsts.in_range)) image

  pub quotient_size : (count : ℕ) (labels : List (Option Label)) (kids : List ℕ) → AreFirsts g of count labels kids → length kids ≡ kid_count labels
  quotient_size count labels kids firsts = laid_size g (class_of of) firsts.nodes labels kids firsts.laid graph firsts.in_range

  pub quotient_below : (count : ℕ) (labels : List (Option Label)) (kids : List ℕ) → AreFirsts g of count labels kids → ((u : ℕ) → u < length g → class_of of u < count) → All (λ kid. kid < length labels) kids
  quotient_below count labels kids firsts below =
      laid_below g (class_of of) firsts.nodes labels kids firsts.laid
      (All-from_gets (λ n. All (λ kid. class_of of kid < length firsts.nodes) (kids_of g n)) firsts.nodes (λ j n at.
      let n_in : n < length g = All-slice_get (λ n. n < length g) firsts.nodes j n firsts.in_range at in
      All-from_gets (λ kid. class_of of kid < length firsts.nodes) (kids_of g n) (λ k kid e. omega (arith, below kid (kid_in g n k kid graph n_in e), firsts.size))))

-- no class yet
pub no_firsts : (g : List Node) (of : List ℕ) (labels : List (Option Label)) (kids : List ℕ) → labels ≡ [] → kids ≡ [] → AreFirsts g of 0 labels kids
no_firsts g of labels kids ls ks = record {
  nodes = [];
  laid = record { labels_are = ls; kids_are = ks };
  in_range = All-nil (λ n. n < length g);
  classes = λ class u e. absurd cc;
  size = refl;
}

-- one class more
pub firsts_more : (g : List Node) (of : List ℕ) (count node : ℕ) (labels more : List (Option Label)) (kids less : List ℕ) → AreFirsts g of count labels kids → node < length g → class_of of node ≡ count →
    IsPushed g (class_of of) node labels more kids less → AreFirsts g of (count + 1) more less
firsts_more g of count node labels more kids less firsts node_in class push = record {
  nodes = firsts.nodes ++ node ∷ [];
  laid = laid_push g (class_of of) firsts.nodes node labels more kids less firsts.laid push;
  in_range = All-append (λ n. n < length g) firsts.nodes (node ∷ []) firsts.in_range (All-cons (λ n. n < length g) node [] node_in (All-nil (λ n. n < length g)));
  classes = λ c u e. elim (slice_get-push firsts.nodes node c u e) [
    | inl w ↦ firsts.classes c u w.0
    | inr w ↦ ap (class_of of) (sym w.1) ∙ class ∙ sym firsts.size ∙ sym w.0
  ];
  size = omega (arith, length_push firsts.nodes node, firsts.size);
}

-- the quotient of a part keeps what the part kept, and has no node too many
pub record ShowsMinimal (g : List Node) (roots : List ℕ) (h : List Node) (others : List ℕ) : Type 0 where
  pub keeps : KeepsWalks g roots h others
  pub minimal : IsMinimal h others
  pub graph : IsGraph h
  pub roots_in : All (λ root. root < length h) others
  pub small : length h ≤ length g

pub quotient_shows : (g : List Node) (roots : List ℕ) (part : List Node) (places of : List ℕ) (h : List Node) (others : List ℕ) → ShowsPart g roots part places → IsGraph part → AreTrees part of →
    IsImage part (λ n. n < length part) (class_of of) h → others ≡ map (class_of of) places → ShowsMinimal g roots h others
quotient_shows g roots part places of h others shows graph trees image is =
    let In : ℕ → Type 0 = λ n. n < length part in
    let number : ℕ → ℕ = class_of of in
    let made : ShowsMinimal g roots h (map number places) = record {
      keeps = keeps_transitive g roots part places h (map number places) shows.keeps (image_keeps part In number h image places shows.roots_in);
      minimal = record {
        distinct = image_apart part In number h image (λ u v u_in v_in s. (trees u v u_in v_in).1 s);
        reached = image_reached part In number h image places shows.roots_in (λ u u_in. shows.reached u u_in);
      };
      graph = image_graph part In number h image graph;
      roots_in = image_roots_in part In number h image places shows.roots_in;
      small = omega (arith, image_small part In number h image, shows.small);
    } in
    subst (λ (ns : List ℕ). ShowsMinimal g roots h ns) (sym is) made
