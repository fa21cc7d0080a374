-- The tree of a node by its canonical graph: whether it has a free leaf, and how many distinct subtrees.
use Rattle.std.proofs.Common.{◌≡◌, ◌≢◌, ℕ, zero, suc, ◌<◌, ◌≤◌, Bool, true, false, nat_lt, List, [], ◌∷◌, length, Option, Some, None, option_and_then, refl, sym, subst, ap, ◌∙◌, arith}
use Rattle.std.specs.Option.{option_map}
use Rattle.std.proofs.lemmas.Bool.Decides.{nat_tests}
use Rattle.std.proofs.lemmas.Option.{same_Some}
use Rattle.std.proofs.lemmas.List.Elements.{All-cons, All-nil}
use Rattle.mars_tree.specs.declared.label.Label.{Label}
use Rattle.mars_tree.specs.Graph.{Node, IsGraph, IsGround, label_of, shown_at, end_of, Same}
use Rattle.mars_tree.specs.Canonical.{IsCanonical, KeepsWalks}
use Rattle.mars_tree.proofs.CallerLemmas.{stands_from_label, label_in, end_in, roots_in}
use Rattle.mars_reach.specs.Reach.{ReachesFree, ReachesNoFree}
use Rattle.mars_canon.specs.Canon.{Rooted, IsCanon}
use Rattle.mars_canon.specs.Tree.{FitsTree, most_nodes}
use Rattle.mars_canon.proofs.Forms.{one_root}
use Rattle.mars_rows.specs.TreeGraph.{IsTreeGraphOf}
use Rattle.mars_rows.proofs.CallerLemmas.{node_is_reached}

-- a node that is a free leaf, where not every node has a label
free_node : (g : List Node) → (IsGround g → ⊥) → (n : ℕ) × (n < length g) × (label_of g n ≡ None)
free_node [] none = absurd (none (All-nil (λ (node : Node). node.label ≢ None)))
free_node (v ∷ g) none = by_label v.label refl (free_node g)
  where
    later : (n : ℕ) × (n < length g) × (label_of g n ≡ None) → (n : ℕ) × (n < length (v ∷ g)) × (label_of (v ∷ g) n ≡ None)
    later (n, lt, e) = (suc n, omega (arith, lt), e)

    by_label : (o : Option Label) → v.label ≡ o → ((IsGround g → ⊥) → (n : ℕ) × (n < length g) × (label_of g n ≡ None)) → (n : ℕ) × (n < length (v ∷ g)) × (label_of (v ∷ g) n ≡ None)
    by_label None e rest = (0, omega arith, e)
    by_label (Some l) e rest = later (rest (λ ground. none (All-cons (λ (node : Node). node.label ≢ None) v g (λ f. let h : ◌≡◌ {A = Option Label} (Some l) None = sym e ∙ f in cc) ground)))

-- the canonical graph of one node
module _ (g : List Node) (root : ℕ) (c : List Node) (keeps : KeepsWalks g (root ∷ []) c (0 ∷ [])) where
  shows_same : (path : List ℕ) → option_and_then (λ n. Some (label_of c n)) (end_of c 0 path) ≡ option_and_then (λ n. Some (label_of g n)) (end_of g root path)
  shows_same path = keeps.shown (0, path)

  -- where one of them shows a node, the other shows one with the same label
  shown_by : (o p : Option ℕ) (m : ℕ) → option_and_then (λ n. Some (label_of c n)) o ≡ option_and_then (λ n. Some (label_of g n)) p → p ≡ Some m → (n : ℕ) × (o ≡ Some n) × (label_of c n ≡ label_of g m)
  shown_by None None m e f = cc
  shown_by None (Some x) m e f = cc
  shown_by (Some n) None m e f = cc
  shown_by (Some n) (Some x) m e f = (n, refl, same_Some (label_of c n) (label_of g x) e ∙ ap (label_of g) (same_Some x m f))

  shown_from : (o p : Option ℕ) (n : ℕ) → option_and_then (λ n. Some (label_of c n)) o ≡ option_and_then (λ n. Some (label_of g n)) p → o ≡ Some n → (m : ℕ) × (p ≡ Some m) × (label_of g m ≡ label_of c n)
  shown_from None None n e f = cc
  shown_from None (Some m) n e f = cc
  shown_from (Some x) None n e f = cc
  shown_from (Some x) (Some m) n e f = (m, refl, sym (same_Some (label_of c x) (label_of g m) e) ∙ ap (label_of c) (same_Some x n f))

  both_at : (o p : Option ℕ) → ((n : ℕ) → p ≡ Some n → label_of g n ≢ None) → option_and_then (λ n. Some (label_of c n)) o ≡ option_and_then (λ n. Some (label_of g n)) p →
      option_map (shown_at c) o ≡ option_map (shown_at g) p
  both_at None None some e = refl
  both_at None (Some m) some e = cc
  both_at (Some n) None some e = cc
  both_at (Some n) (Some m) some e =
      let same : label_of g m ≡ label_of c n = sym (same_Some (label_of c n) (label_of g m) e) in
      ap (λ s. Some s) (sym (stands_from_label (label_of g m) (label_of c n) m n same (some m refl)))

  same_tree : ReachesNoFree g root → Same c 0 g root
  same_tree no_free path = both_at (end_of c 0 path) (end_of g root path) (λ n e. no_free path n e) (shows_same path)

  no_free_from : IsGraph c → 0 < length c → IsGround c → ReachesNoFree g root
  no_free_from graph some ground path m e none =
      let at_end = shown_by (end_of c 0 path) (end_of g root path) m (shows_same path) e in
      label_in c at_end.0 ground (end_in c 0 path at_end.0 graph some at_end.1) (at_end.2 ∙ none)

  free_from : IsCanonical c (0 ∷ []) → (IsGround c → ⊥) → ReachesFree g root
  free_from is free =
      let leaf = free_node c free in
      let path = node_is_reached c is leaf.0 leaf.1 in
      let at_end = shown_from (end_of c 0 path.0) (end_of g root path.0) leaf.0 (shows_same path.0) path.1 in
      record { path = path.0; leaf = at_end.0; ends = at_end.1; free = at_end.2 ∙ leaf.2 }

-- the same for a canonical graph with its roots
module _ (g : List Node) (root : ℕ) (c : Rooted) (is : IsCanon c) (keeps : KeepsWalks g (root ∷ []) c.nodes c.roots) where
  pub one_is_root : length c.roots ≡ 1
  one_is_root = keeps.count

  roots_are : c.roots ≡ 0 ∷ []
  roots_are = one_root c.nodes c.roots is.canonical one_is_root

  is_at_zero : IsCanonical c.nodes (0 ∷ [])
  is_at_zero = subst (IsCanonical c.nodes) roots_are is.canonical

  keeps_at_zero : KeepsWalks g (root ∷ []) c.nodes (0 ∷ [])
  keeps_at_zero = subst (KeepsWalks g (root ∷ []) c.nodes) roots_are keeps

  -- a canonical graph with a free leaf is that of a tree with one
  pub reaches_free : (IsGround c.nodes → ⊥) → ReachesFree g root
  reaches_free free = free_from g root c.nodes keeps_at_zero is_at_zero free

  pub reaches_no_free : IsGround c.nodes → ReachesNoFree g root
  reaches_no_free ground = no_free_from g root c.nodes keeps_at_zero is.graph (roots_in c.nodes (0 ∷ []) is_at_zero 0 0 (omega arith)) ground

  -- a ground canonical graph is that of the tree
  pub is_tree_of : IsGround c.nodes → IsTreeGraphOf g root c.nodes
  is_tree_of ground = record {
    is_tree = record { graph = is.graph; labels = ground; canonical = is_at_zero };
    same = same_tree g root c.nodes keeps_at_zero (reaches_no_free ground);
  }

  -- it is no `Tree` only where it is too large
  pub is_too_large : IsGround c.nodes → (FitsTree c → ⊥) → (tree : List Node) × IsTreeGraphOf g root tree × (length tree ≡ length c.nodes) × (most_nodes < length c.nodes)
  is_too_large ground unfit = (c.nodes, is_tree_of ground, refl, by_size (nat_lt most_nodes (length c.nodes)) refl)
    where
      by_size : (b : Bool) → nat_lt most_nodes (length c.nodes) ≡ b → most_nodes < length c.nodes
      by_size true e = grind (arith, nat_tests, e)
      by_size false e = absurd (unfit (record { ground = ground; root = one_is_root; few = grind (arith, nat_tests, e) }))

-- where there is no such node, nothing has a label
label_past : (g : List Node) (n : ℕ) → length g ≤ n → label_of g n ≡ None
label_past [] n le = refl
label_past (v ∷ g) zero le = absurd (omega (arith, le))
label_past (v ∷ g) (suc n) le = label_past g n (omega (arith, le))

pub past_free : (g : List Node) (n : ℕ) → length g ≤ n → ReachesFree g n
past_free g n le = record { path = []; leaf = n; ends = refl; free = label_past g n le }
