-- The canonical graph of one node of a graph without free leaves.
use Rattle.std.proofs.Common.{◌≡◌, ◌≢◌, ℕ, ◌<◌, ◌≤◌, ◌⊎◌, List, [], ◌∷◌, length, Option, Some, None, option_and_then, refl, sym, subst, ap, ◌∙◌, arith, inl, inr}
use Rattle.std.specs.Option.{option_map}
use Rattle.std.proofs.lemmas.Bool.{cases_lt}
use Rattle.std.proofs.lemmas.Option.{same_Some, slice_get_within, get_or_from_slice_get}
use Rattle.mars_base.proofs.ListFacts.{All-from_gets}
use Rattle.mars_tree.specs.Graph.{Node, IsGraph, IsGround, label_of, free_leaf, shown_at, end_of, at, Same}
use Rattle.mars_tree.specs.Canonical.{IsCanonical, KeepsWalks}
use Rattle.mars_tree.proofs.CallerLemmas.{Twice, pigeonhole, stands_from_label, label_in, end_in}
use Rattle.mars_comp.proofs.Following.{same_end}
use Rattle.mars_canon.specs.Canon.{Rooted, IsCanon}
use Rattle.mars_canon.proofs.Forms.{one_root}
use Rattle.mars_rows.specs.TreeGraph.{IsTreeGraph}
use Rattle.mars_rows.proofs.TreeFacts.{reached_below}

-- walks show the same from node 0 of a canonical graph as from the node of which it is the graph
module _ (g : List Node) (root : ℕ) (c : List Node) (keeps : KeepsWalks g (root ∷ []) c (0 ∷ [])) (g_is : IsGraph g) (ground : IsGround g) (root_in : root < length g) where
  shows_same : (path : List ℕ) → option_and_then (λ n. Some (label_of c n)) (end_of c 0 path) ≡ option_and_then (λ n. Some (label_of g n)) (end_of g root path)
  shows_same path = keeps.shown (0, path)

  shown_from : (o p : Option ℕ) (n : ℕ) → option_and_then (λ n. Some (label_of c n)) o ≡ option_and_then (λ n. Some (label_of g n)) p → o ≡ Some n → (m : ℕ) × (p ≡ Some m) × (label_of g m ≡ label_of c n)
  shown_from None None n e f = cc
  shown_from None (Some m) n e f = cc
  shown_from (Some x) None n e f = cc
  shown_from (Some x) (Some m) n e f = (m, refl, sym (same_Some (label_of c x) (label_of g m) e) ∙ ap (label_of c) (same_Some x n f))

  both_at : (o p : Option ℕ) → ((n : ℕ) → p ≡ Some n → label_of g n ≢ None) → option_and_then (λ n. Some (label_of c n)) o ≡ option_and_then (λ n. Some (label_of g n)) p →
      option_map (shown_at c) o ≡ option_map (shown_at g) p
  both_at None None some e = refl
  both_at None (Some m) some e = cc
  both_at (Some n) None some e = cc
  both_at (Some n) (Some m) some e =
      let same : label_of g m ≡ label_of c n = sym (same_Some (label_of c n) (label_of g m) e) in
      ap (λ s. Some s) (sym (stands_from_label (label_of g m) (label_of c n) m n same (some m refl)))

  -- what the node reaches has labels
  labelled_at : (path : List ℕ) (m : ℕ) → end_of g root path ≡ Some m → label_of g m ≢ None
  labelled_at path m e = label_in g m ground (end_in g root path m g_is root_in e)

  same_tree : Same c 0 g root
  same_tree path = both_at (end_of c 0 path) (end_of g root path) (labelled_at path) (shows_same path)

  ground_form : IsCanonical c (0 ∷ []) → IsGround c
  ground_form is =
      All-from_gets (λ (node : Node). node.label ≢ None) c (λ k node e none.
      let k_in : k < length c = slice_get_within c k node e in
      let path = reached_below c is (length c) k k_in k_in in
      let there = shown_from (end_of c 0 path.0) (end_of g root path.0) k (shows_same path.0) path.1 in
      let label : label_of c k ≡ node.label = ap (λ (n : Node). n.label) (get_or_from_slice_get c k node free_leaf e) in
      labelled_at path.0 there.0 there.1 (there.2 ∙ label ∙ none))

-- the canonical graph with its root
module _ (g : List Node) (root : ℕ) (c : Rooted) (is : IsCanon c) (keeps : KeepsWalks g (root ∷ []) c.nodes c.roots) (g_is : IsGraph g) (ground : IsGround g) (root_in : root < length g) where
  pub one_is_root : length c.roots ≡ 1
  one_is_root = keeps.count

  roots_are : c.roots ≡ 0 ∷ []
  roots_are = one_root c.nodes c.roots is.canonical one_is_root

  is_at_zero : IsCanonical c.nodes (0 ∷ [])
  is_at_zero = subst (IsCanonical c.nodes) roots_are is.canonical

  keeps_at_zero : KeepsWalks g (root ∷ []) c.nodes (0 ∷ [])
  keeps_at_zero = subst (KeepsWalks g (root ∷ []) c.nodes) roots_are keeps

  pub form_ground : IsGround c.nodes
  form_ground = ground_form g root c.nodes keeps_at_zero g_is ground root_in is_at_zero

  pub form_tree : IsTreeGraph c.nodes
  form_tree = record { graph = is.graph; labels = form_ground; canonical = is_at_zero }

  pub form_same : Same c.nodes 0 g root
  form_same = same_tree g root c.nodes keeps_at_zero g_is ground root_in

-- no graph of a tree has fewer nodes than its canonical one
module _ (c g : List Node) (m : ℕ) (is : IsTreeGraph c) (g_is : IsGraph g) (within : m < length g) (same : Same c 0 g m) where
  beside : (k : ℕ) → k < length c → (x : ℕ) × (x < length g) × Same c k g x
  beside k k_in =
      let path = reached_below c is.canonical (length c) k k_in k_in in
      let b = same_end c g 0 m path.0 k same path.1 in
      (b.node, end_in g m path.0 b.node g_is within b.ends, b.same)

  pick : (k : ℕ) → (k < length c) ⊎ (length c ≤ k) → ℕ
  pick k (inl lt) = (beside k lt).0
  pick k (inr le) = 0

  picked : (k : ℕ) (w : (k < length c) ⊎ (length c ≤ k)) → k < length c → (pick k w < length g) × Same c k g (pick k w)
  unfolding pick
  picked k (inl lt) k_in = ((beside k lt).1, (beside k lt).2)
  picked k (inr le) k_in = absurd (omega (arith, le, k_in))

  chosen : ℕ → ℕ
  chosen k = pick k (cases_lt k (length c))

  chosen_is : (k : ℕ) → k < length c → (chosen k < length g) × Same c k g (chosen k)
  unfolding chosen
  chosen_is k k_in = picked k (cases_lt k (length c)) k_in

  never_more : length g < length c → ⊥
  never_more lt =
      let t : Twice (length g) chosen = pigeonhole (length g) chosen (λ k le. (chosen_is k (omega (arith, le, lt))).0) in
      let i_in : t.i < length c = omega (arith, t.before, t.within, lt) in
      let j_in : t.j < length c = omega (arith, t.within, lt) in
      let left : Same c t.i g (chosen t.i) = (chosen_is t.i i_in).1 in
      let right : Same c t.j g (chosen t.j) = (chosen_is t.j j_in).1 in
      let one : t.i ≡ t.j = is.canonical.distinct t.i t.j i_in j_in (λ path. left path ∙ ap (λ (x : ℕ). at g x path) t.same ∙ sym (right path)) in
      omega (arith, one, t.before)

  pub fewest : length c ≤ length g
  fewest = elim (cases_lt (length g) (length c)) [
    | inl lt ↦ absurd (never_more lt)
    | inr le ↦ le
  ]
