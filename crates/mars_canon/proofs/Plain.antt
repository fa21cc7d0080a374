-- Graphs whose labels are all there.
use Rattle.std.proofs.Common.{◌≡◌, ◌≢◌, ℕ, ◌<◌, ◌≤◌, List, [], ◌∷◌, Bool, true, false, Option, Some, None, length, map, drop, get_or, nat_eq, refl, sym, subst, ap, ◌∙◌, arith}
use Rattle.std.specs.Bool.{Decides}
use Rattle.std.specs.List.{filter_map}
use Rattle.std.specs.Cmp.Lexicographic.{pointwise, pointwise_decides, bytes_decides}
use Rattle.std.proofs.lemmas.List.{get_or-map, length-map}
use Rattle.std.proofs.lemmas.List.Elements.{All-nil, All-cons}
use Rattle.mars_tree.specs.declared.label.Label.{Label}
use Rattle.mars_tree.specs.Label.{arity_of}
use Rattle.mars_tree.specs.Graph.{Node, IsGround, IsGraph, arity_at, label_of, kids_of}
use Rattle.mars_tree.specs.Canonical.{IsCanonical}
use Rattle.mars_tree.specs.Stored.{nodes_of, IsLaid, kid_count}
use Rattle.mars_tree.specs.Equality.{same_label, all_kids}
use Rattle.mars_tree.specs.EqualityLaws.{label_decides}
use Rattle.mars_tree.proofs.Laid.{seen-length, seen-label, seen-arity, laid_graph}
use Rattle.mars_tree.proofs.Equal.{all_kids-nodes}
use Rattle.mars_tree.proofs.Unique.{roots_in}
use Rattle.mars_canon.specs.Canon.{IsCanon}
use Rattle.mars_canon.specs.Tree.{IsTree, most_nodes}

is_ground : (ls : List Label) (kids : List ℕ) → IsGround (nodes_of (map Some ls) kids)
is_ground [] kids = All-nil (λ (node : Node). node.label ≢ None)
is_ground (l ∷ ls) kids = All-cons (λ (node : Node). node.label ≢ None) _ (nodes_of (map Some ls) (drop (arity_of l) kids)) (λ e. cc) (is_ground ls (drop (arity_of l) kids))

labels_read : (ls : List Label) (kids : List ℕ) → filter_map (λ (node : Node). node.label) (nodes_of (map Some ls) kids) ≡ ls
labels_read [] kids = refl
labels_read (l ∷ ls) kids = ap (λ (rest : List Label). l ∷ rest) (labels_read ls (drop (arity_of l) kids))

module _ (ls : List Label) (kids : List ℕ) (g : List Node) (view : nodes_of (map Some ls) kids ≡ g) where
  pub plain-length : length ls ≡ length g
  plain-length = sym (length-map ls Some) ∙ seen-length (map Some ls) kids g view

  pub is_tree : (starts : List ℕ) → IsLaid (map Some ls) starts kids → IsCanonical (nodes_of (map Some ls) kids) (0 ∷ []) → length ls ≤ most_nodes → IsTree g
  is_tree starts laid canonical few =
      let there : IsCanonical g (0 ∷ []) = subst (λ (h : List Node). IsCanonical h (0 ∷ [])) view canonical in
      record {
        graph = subst IsGraph view (laid_graph (map Some ls) kids laid.size laid.in_range);
        ground = subst IsGround view (is_ground ls kids);
        canonical = there;
        root = (roots_in g (0 ∷ []) there) 0 0 (omega arith);
        few = omega (arith, plain-length, few);
      }

  pub plain-label : (n : ℕ) (l : Label) → n < length g → l ≡ get_or ls n l → label_of g n ≡ Some l
  plain-label n l h e = sym (seen-label (map Some ls) kids g n view) ∙ get_or-map Some ls n l None (omega (arith, plain-length)) ∙ ap Some (sym e)

  pub plain-arity : (starts : List ℕ) (n : ℕ) (l : Label) → IsLaid (map Some ls) starts kids → n < length g → l ≡ get_or ls n l → arity_of l ≡ length (kids_of g n)
  plain-arity starts n l laid h e =
      ap arity_at (ap Some e ∙ sym (get_or-map Some ls n l None (omega (arith, plain-length)))) ∙ seen-arity (map Some ls) starts kids g n laid view

  pub plain-labels : filter_map (λ (node : Node). node.label) g ≡ ls
  plain-labels = sym (ap (filter_map (λ (node : Node). node.label)) view) ∙ labels_read ls kids

-- what tests of the flat lists say of the nodes
module _ (ls ls' : List Label) (kids kids' : List ℕ) (g h : List Node) (size : length kids ≡ kid_count (map Some ls)) (size' : length kids' ≡ kid_count (map Some ls')) (left : nodes_of (map Some ls) kids ≡ g) (right : nodes_of (map Some ls') kids' ≡ h) where
  seen_labels : g ≡ h → ls ≡ ls'
  seen_labels e = sym (plain-labels ls kids g left) ∙ ap (λ (ns : List Node). filter_map (λ (node : Node). node.label) ns) e ∙ plain-labels ls' kids' h right

  seen_kids : g ≡ h → kids ≡ kids'
  seen_kids e = sym (all_kids-nodes (map Some ls) kids size) ∙ ap all_kids (left ∙ e ∙ sym right) ∙ all_kids-nodes (map Some ls') kids' size'

  pub trees_by_both : (labels_test kids_test : Bool) → labels_test ≡ pointwise same_label ls ls' → kids_test ≡ pointwise nat_eq kids kids' → labels_test ≡ true → Decides kids_test (g ≡ h)
  trees_by_both labels_test kids_test e f same = (
    λ t. sym left ∙ ap (λ (xs : List Label). nodes_of (map Some xs) kids) ((pointwise_decides label_decides ls ls').0 (sym e ∙ same)) ∙ ap (nodes_of (map Some ls')) ((bytes_decides kids kids').0 (sym f ∙ t)) ∙ right,
    λ t. f ∙ (bytes_decides kids kids').1 (seen_kids t),
  )

  pub trees_by_labels : (labels_test : Bool) → labels_test ≡ pointwise same_label ls ls' → labels_test ≡ false → Decides labels_test (g ≡ h)
  trees_by_labels labels_test e differ = (
    λ t. cc,
    λ t. e ∙ (pointwise_decides label_decides ls ls').1 (seen_labels t),
  )

pub remade : (h : List Node) (ls : List (Option Label)) (kids : List ℕ) (plain : List Label) (numbers : List ℕ) (g : List Node) → h ≡ nodes_of ls kids → ls ≡ map Some plain → kids ≡ numbers → nodes_of (map Some plain) numbers ≡ g → h ≡ g
remade h ls kids plain numbers g made labels all view = made ∙ ap (λ (xs : List (Option Label)). nodes_of xs kids) labels ∙ ap (nodes_of (map Some plain)) all ∙ view

-- the canonical graph of a tree
pub canon_of_tree : (g h : List Node) (roots : List ℕ) → IsTree g → h ≡ g → roots ≡ 0 ∷ [] → IsCanon (record { nodes = h; roots = roots })
canon_of_tree g h roots is e f = rw (e, f) (record { graph = is.graph; canonical = is.canonical; roots_in = roots_in g (0 ∷ []) is.canonical })
