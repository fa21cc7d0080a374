-- Graphs that have the nodes of another under other numbers show the same.
use Rattle.std.proofs.Common.{◌≡◌, ◌↔◌, ℕ, ◌<◌, ◌≤◌, List, [], ◌∷◌, length, map, get_or, Option, Some, None, option_and_then, slice_get, refl, sym, subst, ap, ◌∙◌, All}
use Rattle.std.specs.Option.{option_map}
use Rattle.std.proofs.lemmas.Option.{same_Some, option_and_then_some, slice_get-map}
use Rattle.std.proofs.lemmas.List.{length-map}
use Rattle.std.proofs.lemmas.List.Elements.{All-map, All-from_get_or}
use Rattle.mars_tree.specs.declared.label.Label.{Label}
use Rattle.mars_tree.specs.Graph.{Node, IsNode, IsGraph, arity_at, stands, label_of, kids_of, shown_at, free_leaf, end_of, Same}
use Rattle.mars_tree.specs.Canonical.{walk_end, KeepsWalks}
use Rattle.mars_tree.proofs.Graphs.{node_in}
use Rattle.mars_tree.proofs.Paths.{label_from_stands}
use Rattle.mars_reach.specs.Image.{IsImage}
use Rattle.mars_reach.specs.Order.{IsReached}
use Rattle.mars_reach.specs.Part.{IsReduced}
use Rattle.mars_reach.proofs.Numbers.{All-from_gets, All-slice_get, onto_small}

-- a graph keeps what a graph kept that it keeps
pub keeps_transitive : (g : List Node) (roots : List ℕ) (h : List Node) (others : List ℕ) (k : List Node) (thirds : List ℕ) → KeepsWalks g roots h others → KeepsWalks h others k thirds → KeepsWalks g roots k thirds
keeps_transitive g roots h others k thirds first next = record {
  count = next.count ∙ first.count;
  shown = λ w. next.shown w ∙ first.shown w;
  alike = λ w v. (λ e. (first.alike w v).0 ((next.alike w v).0 e), λ e. (next.alike w v).1 ((first.alike w v).1 e));
}

label_shown : (b : Label) (x y : ℕ) → stands (Some b) x ≡ stands (Some b) y
label_shown b x y = refl

free_same : (x y : ℕ) → stands None x ≡ stands None y → x ≡ y
free_same x y e = cc

-- nodes that are alike stay alike under other numbers
stands_number : (number : ℕ → ℕ) (a b : Option Label) (x y : ℕ) → stands a x ≡ stands b y → stands a (number x) ≡ stands b (number y)
stands_number number (Some a) (Some b) x y e =
    let same : ◌≡◌ {A = Option Label} (Some a) (Some b) = label_from_stands (Some a) (Some b) x y e in
    ap (λ l. stands l (number x)) same ∙ label_shown b (number x) (number y)
stands_number number None None x y e = ap (λ n. stands None (number n)) (free_same x y e)
stands_number number (Some a) None x y e = cc
stands_number number None (Some b) x y e = cc

from_map : (f : ℕ → ℕ) (o : Option ℕ) (n : ℕ) → option_map f o ≡ Some n → (x : ℕ) × (o ≡ Some x) × (f x ≡ n)
from_map f None n e = absurd cc
from_map f (Some x) n e = (x, refl, same_Some (f x) n e)

module _ (g : List Node) (In : ℕ → Type 0) (number : ℕ → ℕ) (h : List Node) (is : IsImage g In number h) where
  step : (path : List ℕ) (o : Option ℕ) → ((x : ℕ) → o ≡ Some x → In x) → ((x : ℕ) → In x → end_of h (number x) path ≡ option_map number (end_of g x path)) →
      option_and_then (λ kid. end_of h kid path) (option_map number o) ≡ option_map number (option_and_then (λ kid. end_of g kid path) o)
  step path None within e = refl
  step path (Some x) within e = e x (within x refl)

  -- a path ends at the number of the node at which it ended
  pub image_end : (path : List ℕ) (u : ℕ) → In u → end_of h (number u) path ≡ option_map number (end_of g u path)
  image_end [] u u_in = refl
  image_end (k ∷ path) u u_in =
      let kid : slice_get (kids_of h (number u)) k ≡ option_map number (slice_get (kids_of g u) k) = ap (λ ks. slice_get ks k) (is.kids u u_in) ∙ slice_get-map number (kids_of g u) k in
      ap (option_and_then (λ kid. end_of h kid path)) kid ∙ step path (slice_get (kids_of g u) k) (λ x e. is.closed u k x u_in e) (λ x x_in. image_end path x x_in)

  -- paths stay among the nodes
  pub end_stays : (path : List ℕ) (u x : ℕ) → In u → end_of g u path ≡ Some x → In x
  end_stays [] u x u_in e = subst In (same_Some u x e) u_in
  end_stays (k ∷ path) u x u_in e = option_and_then_some (λ kid. end_of g kid path) (slice_get (kids_of g u) k) x e (λ kid first rest. end_stays path kid x (is.closed u k kid u_in first) rest)

  shown_number : (x : ℕ) → In x → shown_at h (number x) ≡ stands (label_of g x) (number x)
  shown_number x x_in = ap (λ l. stands l (number x)) (is.label x x_in)

  back : (x y : ℕ) → In x → In y → (a b : Option Label) → label_of g x ≡ a → label_of g y ≡ b → stands a (number x) ≡ stands b (number y) → shown_at g x ≡ shown_at g y
  back x y x_in y_in (Some a) (Some b) p q e =
      let same : ◌≡◌ {A = Option Label} (Some a) (Some b) = label_from_stands (Some a) (Some b) (number x) (number y) e in
      ap (λ l. stands l x) (p ∙ same) ∙ label_shown b x y ∙ ap (λ l. stands l y) (sym q)
  back x y x_in y_in None None p q e =
      same_Some (shown_at g x) (shown_at g y) (is.alike x y x_in y_in (free_same (number x) (number y) e) [])
  back x y x_in y_in (Some a) None p q e = cc
  back x y x_in y_in None (Some b) p q e = cc

  ends_back : (o p : Option ℕ) → ((x : ℕ) → o ≡ Some x → In x) → ((x : ℕ) → p ≡ Some x → In x) →
      option_map (shown_at h) (option_map number o) ≡ option_map (shown_at h) (option_map number p) → option_map (shown_at g) o ≡ option_map (shown_at g) p
  ends_back None None ow pw e = refl
  ends_back None (Some y) ow pw e = cc
  ends_back (Some x) None ow pw e = cc
  ends_back (Some x) (Some y) ow pw e =
      let x_in = ow x refl in let y_in = pw y refl in
      ap (λ s. Some s) (back x y x_in y_in (label_of g x) (label_of g y) refl refl
      (sym (shown_number x x_in) ∙ same_Some (shown_at h (number x)) (shown_at h (number y)) e ∙ shown_number y y_in))

  ends_forth : (o p : Option ℕ) → ((x : ℕ) → o ≡ Some x → In x) → ((x : ℕ) → p ≡ Some x → In x) →
      option_map (shown_at g) o ≡ option_map (shown_at g) p → option_map (shown_at h) (option_map number o) ≡ option_map (shown_at h) (option_map number p)
  ends_forth None None ow pw e = refl
  ends_forth None (Some y) ow pw e = cc
  ends_forth (Some x) None ow pw e = cc
  ends_forth (Some x) (Some y) ow pw e =
      let x_in = ow x refl in let y_in = pw y refl in
      ap (λ s. Some s) (shown_number x x_in ∙ stands_number number (label_of g x) (label_of g y) x y (same_Some (shown_at g x) (shown_at g y) e) ∙ sym (shown_number y y_in))

  -- two nodes are the same tree where their numbers are
  pub image_same : (u v : ℕ) → In u → In v → Same h (number u) h (number v) ↔ Same g u g v
  image_same u v u_in v_in =
      let left = λ (path : List ℕ). let e = ap (option_map (shown_at h)) (image_end path u u_in) in e in
      let right = λ (path : List ℕ). let e = ap (option_map (shown_at h)) (image_end path v v_in) in e in (
        λ s path. ends_back (end_of g u path) (end_of g v path) (λ x e. end_stays path u x u_in e) (λ x e. end_stays path v x v_in e) (sym (left path) ∙ s path ∙ right path),
        λ s path. left path ∙ ends_forth (end_of g u path) (end_of g v path) (λ x e. end_stays path u x u_in e) (λ x e. end_stays path v x v_in e) (s path) ∙ sym (right path),
      )

  -- where the numbers tell all trees apart, no two nodes are the same tree
  pub image_apart : ((u v : ℕ) → In u → In v → Same g u g v → number u ≡ number v) → IsReduced h
  image_apart tells i j i_in j_in s =
      let a = is.onto i i_in in let b = is.onto j j_in in
      let same : Same h (number a.0) h (number b.0) = subst (λ (n : ℕ). Same h n h (number b.0)) (sym a.2) (subst (λ (m : ℕ). Same h i h m) (sym b.2) s) in
      sym a.2 ∙ tells a.0 b.0 a.1 b.1 ((image_same a.0 b.0 a.1 b.1).0 same) ∙ b.2

  pub image_small : length h ≤ length g
  image_small = onto_small (length h) (length g) number (λ n n_in. let o = is.onto n n_in in (o.0, is.in_range o.0 o.1, o.2))

  node_of : (n u : ℕ) → IsGraph g → In u → number u ≡ n → IsNode (length h) (get_or h n free_leaf)
  node_of n u graph u_in e =
      let kids : kids_of h n ≡ map number (kids_of g u) = ap (kids_of h) (sym e) ∙ is.kids u u_in in
      let label : label_of g u ≡ label_of h n = sym (is.label u u_in) ∙ ap (label_of h) e in
      record {
        kids = ap length kids ∙ length-map (kids_of g u) number ∙ (node_in g u graph (is.in_range u u_in)).kids ∙ ap arity_at label;
        in_range = subst (All (λ kid. kid < length h)) (sym kids) (All-map (λ kid. kid < length h) number (kids_of g u)
            (All-from_gets (λ kid. number kid < length h) (kids_of g u) (λ k kid at. is.below kid (is.closed u k kid u_in at))));
      }

  pub image_graph : IsGraph g → IsGraph h
  image_graph graph = All-from_get_or (IsNode (length h)) h free_leaf (λ n n_in. let o = is.onto n n_in in node_of n o.0 graph o.1 o.2)

  module _ (roots : List ℕ) (roots_in : All In roots) where
    -- a walk ends at the number of the node at which it ended
    pub image_walk : (w : ℕ × List ℕ) → walk_end h (map number roots) w ≡ option_map number (walk_end g roots w)
    image_walk w = ap (option_and_then (λ r. end_of h r w.1)) (slice_get-map number roots w.0) ∙ step w.1 (slice_get roots w.0) (λ x e. All-slice_get In roots w.0 x roots_in e) (image_end w.1)

    pub walk_stays : (w : ℕ × List ℕ) (x : ℕ) → walk_end g roots w ≡ Some x → In x
    walk_stays w x e = option_and_then_some (λ r. end_of g r w.1) (slice_get roots w.0) x e (λ root first rest. end_stays w.1 root x (All-slice_get In roots w.0 root roots_in first) rest)

    labels : (o : Option ℕ) → ((x : ℕ) → o ≡ Some x → In x) → option_and_then (λ n. Some (label_of h n)) (option_map number o) ≡ option_and_then (λ n. Some (label_of g n)) o
    labels None within = refl
    labels (Some x) within = ap (λ l. Some l) (is.label x (within x refl))

    pub image_keeps : KeepsWalks g roots h (map number roots)
    image_keeps = record {
      count = length-map roots number;
      shown = λ w. ap (option_and_then (λ n. Some (label_of h n))) (image_walk w) ∙ labels (walk_end g roots w) (walk_stays w);
      alike = λ w v. (
        λ e.
            let a = from_map number (walk_end g roots w) e.0 (sym (image_walk w) ∙ e.2) in
            let b = from_map number (walk_end g roots v) e.1 (sym (image_walk v) ∙ e.3) in
            let same : Same h (number a.0) h (number b.0) = subst (λ (n : ℕ). Same h n h (number b.0)) (sym a.2) (subst (λ (m : ℕ). Same h e.0 h m) (sym b.2) e.4) in
            (a.0, b.0, a.1, b.1, (image_same a.0 b.0 (walk_stays w a.0 a.1) (walk_stays v b.0 b.1)).0 same),
        λ e. (
          number e.0,
          number e.1,
          image_walk w ∙ ap (option_map number) e.2,
          image_walk v ∙ ap (option_map number) e.3,
          (image_same e.0 e.1 (walk_stays w e.0 e.2) (walk_stays v e.1 e.3)).1 e.4,
        ),
      );
    }

    -- where each node was reached, each is
    pub image_reached : ((u : ℕ) → In u → IsReached g roots u) → (n : ℕ) → n < length h → IsReached h (map number roots) n
    image_reached reached n n_in =
        let o = is.onto n n_in in
        let r = reached o.0 o.1 in
        (r.0, image_walk r.0 ∙ ap (option_map number) r.1 ∙ ap (λ m. Some m) o.2)

    pub image_roots_in : All (λ root. root < length h) (map number roots)
    image_roots_in = All-map (λ root. root < length h) number roots (All-from_gets (λ root. number root < length h) roots (λ k root e. is.below root (All-slice_get In roots k root roots_in e)))
