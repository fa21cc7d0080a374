-- There is a canonical graph that keeps the walks of some roots: the least nodes of their trees, in the order of a walk over a
-- queue.
use Rattle.std.proofs.Common.{◌≡◌, ℕ, ◌<◌, List, length, map, get_or, Option, Some, None, slice_get, refl, sym, subst, ap, ◌∙◌, arith, All, Contains}
use Rattle.std.specs.Option.{option_map}
use Rattle.std.proofs.lemmas.Option.{same_Some, slice_get_within, slice_get-get_or, slice_get-map}
use Rattle.std.proofs.lemmas.List.{get_or-map, length-map}
use Rattle.std.proofs.lemmas.List.Elements.{All-contains, All-weaker}
use Rattle.std.proofs.lemmas.Simd.{map-map}
use Rattle.mars_tree.specs.Graph.{Node, IsGraph, label_of, kids_of, free_leaf, Same}
use Rattle.mars_tree.specs.Canonical.{KeepsWalks, FirstInOrder}
use Rattle.mars_tree.proofs.Paths.{kid_in}
use Rattle.mars_reach.specs.Image.{IsImage}
use Rattle.mars_reach.specs.Order.{place_in, renumbered_node, renumbered}
use Rattle.mars_reach.proofs.Images.{image_apart, image_graph, image_keeps, image_roots_in}
use Rattle.mars_reach.proofs.Numbers.{All-from_gets, All-slice_get, contains_at}
use Rattle.mars_reach.proofs.Ordering.{order_is_canonical}
use Rattle.mars_reach.proofs.Parts.{node_at, place_is}
use Rattle.mars_reach.proofs.Queues.{place_get, roots_met, kid_met}
use Rattle.mars_canon.specs.Canon.{Rooted, IsCanon}
use Rattle.mars_answer.proofs.Alike.{least, least-in, least-same, least-one, least-least, least-kids, top_label}
use Rattle.mars_answer.proofs.Queueing.{Walked, walked}

-- a canonical graph that keeps the walks
pub record HasForm (g : List Node) (roots : List ℕ) : Type 0 where
  pub form : Rooted
  pub canon : IsCanon form
  pub keeps : KeepsWalks g roots form.nodes form.roots

module _ (g : List Node) (sound : IsGraph g) where
  abbrev first : ℕ → ℕ
  first n = least g sound n

  -- each kid is the least node of its tree
  abbrev redirected : List Node
  redirected = map (λ (node : Node). record { label = node.label; kids = map first node.kids }) g

  redirected-node : (n : ℕ) → n < length g → get_or redirected n free_leaf ≡ record { label = label_of g n; kids = map first (kids_of g n) }
  redirected-node n n_in = get_or-map (λ (node : Node). record { label = node.label; kids = map first node.kids }) g n free_leaf free_leaf n_in

  redirected-label : (n : ℕ) → n < length g → label_of redirected n ≡ label_of g n
  redirected-label n n_in = ap (λ (node : Node). node.label) (redirected-node n n_in)

  redirected-kids : (n : ℕ) → n < length g → kids_of redirected n ≡ map first (kids_of g n)
  redirected-kids n n_in = ap (λ (node : Node). node.kids) (redirected-node n n_in)

  redirected-length : length redirected ≡ length g
  redirected-length = length-map g (λ (node : Node). record { label = node.label; kids = map first node.kids })

  -- a node that is the least of its tree
  abbrev IsFirst : ℕ → Type 0
  IsFirst n = (n < length g) × (first n ≡ n)

  firsts : (xs : List ℕ) → All (λ x. x < length g) xs → All IsFirst (map first xs)
  firsts xs all = All-from_gets IsFirst (map first xs) (λ k y e.
      from k y (slice_get xs k) refl (sym (slice_get-map first xs k) ∙ e))
    where
      from : (k y : ℕ) (o : Option ℕ) → slice_get xs k ≡ o → option_map first o ≡ Some y → IsFirst y
      from k y None e f = cc
      from k y (Some x) e f =
          let x_in = All-slice_get (λ x. x < length g) xs k x all e in
          subst IsFirst (same_Some (first x) y f) (least-in g sound x x_in, least-least g sound x x_in)

  kids-in : (n : ℕ) → n < length g → All (λ kid. kid < length g) (kids_of g n)
  kids-in n n_in = All-from_gets (λ kid. kid < length g) (kids_of g n) (λ k kid e. kid_in g n k kid sound n_in e)

  module _ (roots : List ℕ) (roots_in : All (λ root. root < length g) roots) where
    abbrev starts : List ℕ
    starts = map first roots

    walk : Walked IsFirst redirected starts
    walk =
        walked IsFirst redirected starts
        (λ order all. All-weaker IsFirst (λ n. n < length redirected) (λ n is. let e = redirected-length in let h = is.0 in omega (arith, e, h)) order all)
        (λ n is. subst (All IsFirst) (sym (redirected-kids n is.0)) (firsts (kids_of g n) (kids-in n is.0)))
        (firsts roots roots_in)

    abbrev number : ℕ → ℕ
    number u = place_in walk.order (first u)

    abbrev h : List Node
    h = renumbered redirected (place_in walk.order) walk.order

    abbrev In : ℕ → Type 0
    In u = (u < length g) × Contains walk.order (first u)

    h-length : length h ≡ length walk.order
    h-length = length-map walk.order (renumbered_node redirected (place_in walk.order))

    -- the kids of a node's least node
    first-kids : (u : ℕ) → u < length g → kids_of redirected (first u) ≡ map first (kids_of g u)
    first-kids u u_in = redirected-kids (first u) (least-in g sound u u_in) ∙ least-kids g sound (first u) u (least-in g sound u u_in) u_in (least-same g sound u u_in)

    placed : (u : ℕ) → In u → slice_get walk.order (number u) ≡ Some (first u)
    placed u is = place_get walk.order (first u) is.1

    node : (u : ℕ) → In u → get_or h (number u) free_leaf ≡ renumbered_node redirected (place_in walk.order) (first u)
    node u is = node_at redirected (place_in walk.order) walk.order (number u) (first u) (placed u is)

    image : IsImage g In number h
    image = record {
      in_range = λ u is. is.0;
      closed = λ u k kid is e. (
        kid_in g u k kid sound is.0 e,
        kid_met redirected starts walk.order walk.queue (first u) k (first kid) is.1
            (ap (λ ks. slice_get ks k) (first-kids u is.0) ∙ slice_get-map first (kids_of g u) k ∙ ap (option_map first) e),
      );
      below = λ u is. let lt = slice_get_within walk.order (number u) (first u) (placed u is) in omega (arith, lt, h-length);
      onto = λ n n_in.
          let e : slice_get walk.order n ≡ Some (get_or walk.order n 0) = slice_get-get_or walk.order n 0 (omega (arith, n_in, h-length)) in
          let there = contains_at walk.order n (get_or walk.order n 0) e in
          let is = All-contains IsFirst walk.order (get_or walk.order n 0) walk.all there in (
            get_or walk.order n 0,
            (is.0, subst (Contains walk.order) (sym is.1) there),
            ap (place_in walk.order) is.1 ∙ place_is walk.order n (get_or walk.order n 0) walk.distinct e,
          );
      label = λ u is.
          ap (λ (m : Node). m.label) (node u is) ∙ redirected-label (first u) (least-in g sound u is.0) ∙ top_label g sound (first u) u (least-same g sound u is.0);
      kids = λ u is.
          ap (λ (m : Node). m.kids) (node u is) ∙ ap (map (place_in walk.order)) (first-kids u is.0) ∙ map-map (place_in walk.order) first (kids_of g u);
      alike = λ u v u_is v_is e path.
          let one : first u ≡ first v = same_Some (first u) (first v) (sym (placed u u_is) ∙ ap (slice_get walk.order) e ∙ placed v v_is) in
          let same : Same g (first u) g v = subst (λ (m : ℕ). Same g m g v) (sym one) (least-same g sound v v_is.0) in
          sym (least-same g sound u u_is.0 path) ∙ same path;
    }

    starts-met : All In roots
    starts-met = All-from_gets In roots (λ k root e. (
      All-slice_get (λ root. root < length g) roots k root roots_in e,
      All-slice_get (Contains walk.order) starts k (first root) (roots_met redirected starts walk.order walk.queue) (slice_get-map first roots k ∙ ap (option_map first) e),
    ))

    numbered : FirstInOrder h (map number roots)
    numbered = subst (FirstInOrder h) (map-map (place_in walk.order) first roots) (order_is_canonical redirected starts walk.order walk.queue)

    pub has_form : HasForm g roots
    has_form = record {
      form = record { nodes = h; roots = map number roots };
      canon = record {
        graph = image_graph g In number h image sound;
        canonical = record {
          distinct = image_apart g In number h image (λ u v u_is v_is same. ap (place_in walk.order) (least-one g sound u v u_is.0 v_is.0 same));
          numbered = numbered;
        };
        roots_in = image_roots_in g In number h image roots starts-met;
      };
      keeps = image_keeps g In number h image roots starts-met;
    }
