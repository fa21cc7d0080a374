-- The part of a graph that roots reach, under the places of its nodes.
use Rattle.std.proofs.Common.{◌≡◌, ℕ, ◌<◌, List, length, map, get_or, Some, slice_get, refl, sym, subst, ap, ◌∙◌, arith, All, Contains}
use Rattle.std.proofs.lemmas.Option.{same_Some, slice_get_within, get_or_from_slice_get, slice_get-get_or}
use Rattle.std.proofs.lemmas.List.{get_or-map, length-map}
use Rattle.std.proofs.lemmas.List.Elements.{All-contains}
use Rattle.mars_tree.specs.Graph.{Node, IsGraph, kids_of, free_leaf, Same}
use Rattle.mars_reach.specs.Image.{IsImage}
use Rattle.mars_reach.specs.Order.{place_in, renumbered_node, renumbered, AreDistinct, IsReach, IsReached}
use Rattle.mars_reach.specs.Part.{IsClosed, ShowsPart}
use Rattle.mars_reach.proofs.Images.{image_apart, image_graph, image_keeps, image_reached, image_roots_in, image_small}
use Rattle.mars_reach.proofs.Numbers.{All-from_gets, All-slice_get, contains_at}
use Rattle.mars_reach.proofs.Ordering.{order_is_canonical}
use Rattle.mars_reach.proofs.Queues.{place_get, queue_closed, roots_met}

-- the node at the place of an element
pub node_at : (g : List Node) (number : ℕ → ℕ) (order : List ℕ) (k n : ℕ) → slice_get order k ≡ Some n → get_or (renumbered g number order) k free_leaf ≡ renumbered_node g number n
node_at g number order k n e =
    get_or-map (renumbered_node g number) order k 0 free_leaf (slice_get_within order k n e) ∙ ap (renumbered_node g number) (get_or_from_slice_get order k n 0 e)

-- distinct numbers have one place each
pub place_is : (order : List ℕ) (k n : ℕ) → AreDistinct order → slice_get order k ≡ Some n → place_in order n ≡ k
place_is order k n distinct e = distinct (place_in order n) k n (place_get order n (contains_at order k n e)) e

module _ (g : List Node) (order : List ℕ) (distinct : AreDistinct order) (in_range : All (λ n. n < length g) order) (closed : IsClosed g order) where
  count : length (renumbered g (place_in order) order) ≡ length order
  count = length-map order (renumbered_node g (place_in order))

  kid_in : (u k kid : ℕ) → Contains order u → slice_get (kids_of g u) k ≡ Some kid → Contains order kid
  kid_in u k kid u_in e = All-slice_get (Contains order) (kids_of g u) k kid (All-contains (λ n. All (Contains order) (kids_of g n)) order u closed u_in) e

  place_below : (u : ℕ) → Contains order u → place_in order u < length order
  place_below u u_in = slice_get_within order (place_in order u) u (place_get order u u_in)

  -- the nodes under their places are an image
  pub part_image : IsImage g (Contains order) (place_in order) (renumbered g (place_in order) order)
  part_image = record {
    in_range = λ u u_in. All-contains (λ n. n < length g) order u in_range u_in;
    closed = kid_in;
    below = λ u u_in. omega (arith, place_below u u_in, count);
    onto = λ n n_in.
        let at : slice_get order n ≡ Some (get_or order n 0) = slice_get-get_or order n 0 (omega (arith, n_in, count)) in
        (get_or order n 0, contains_at order n (get_or order n 0) at, place_is order n (get_or order n 0) distinct at);
    label = λ u u_in. ap (λ (node : Node). node.label) (node_at g (place_in order) order (place_in order u) u (place_get order u u_in));
    kids = λ u u_in. ap (λ (node : Node). node.kids) (node_at g (place_in order) order (place_in order u) u (place_get order u u_in));
    alike = λ u v u_in v_in e.
        let same : u ≡ v = same_Some u v (sym (place_get order u u_in) ∙ ap (slice_get order) e ∙ place_get order v v_in) in
        subst (λ (m : ℕ). Same g u g m) same (λ path. refl);
  }

  pub part_graph : IsGraph g → IsGraph (renumbered g (place_in order) order)
  part_graph = image_graph g (Contains order) (place_in order) (renumbered g (place_in order) order) part_image

  -- kids have places below the count
  pub part_below : All (λ n. All (λ kid. place_in order kid < length order) (kids_of g n)) order
  part_below = All-from_gets (λ n. All (λ kid. place_in order kid < length order) (kids_of g n)) order (λ j n at.
      All-from_gets (λ kid. place_in order kid < length order) (kids_of g n) (λ k kid e. place_below kid (kid_in n k kid (contains_at order j n at) e)))

-- what holds of the part that roots reach
pub part_shows : (g : List Node) (roots order : List ℕ) → IsReach g roots order → ShowsPart g roots (renumbered g (place_in order) order) (map (place_in order) roots)
part_shows g roots order reach =
    let closed = queue_closed g roots order reach.queue in
    let met = roots_met g roots order reach.queue in
    let h : List Node = renumbered g (place_in order) order in
    let is = part_image g order reach.distinct reach.in_range closed in
    record {
      keeps = image_keeps g (Contains order) (place_in order) h is roots met;
      reached = image_reached g (Contains order) (place_in order) h is roots met (λ u u_in. All-contains (IsReached g roots) order u reach.reached u_in);
      numbered = order_is_canonical g roots order reach.queue;
      roots_in = image_roots_in g (Contains order) (place_in order) h is roots met;
      small = image_small g (Contains order) (place_in order) h is;
      apart = λ apart. image_apart g (Contains order) (place_in order) h is (λ u v u_in v_in same. ap (place_in order) (apart u v (is.in_range u u_in) (is.in_range v v_in) same));
    }
