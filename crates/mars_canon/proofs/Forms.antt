-- Canonical graphs are one exactly where their trees are.
use Rattle.std.proofs.Common.{◌≡◌, ℕ, List, [], ◌∷◌, Bool, true, false, length, refl, sym, subst, ap, ◌∙◌, ⊎_elim, nat_eq, arith}
use Rattle.std.specs.Bool.{Decides}
use Rattle.std.specs.Cmp.Lexicographic.{pointwise, bytes_decides}
use Rattle.mars_tree.specs.Graph.{Node}
use Rattle.mars_tree.specs.Canonical.{IsCanonical, SameRoots, known_with, known_after}
use Rattle.std.proofs.lemmas.Option.{option_and_then_some}
use Rattle.mars_tree.proofs.Numbering.{known_with_cases}
use Rattle.mars_tree.proofs.Unique.{known_first, one_from_same_roots, one_from_same_walks}
use Rattle.mars_canon.specs.Canon.{Rooted, IsCanon, HaveAlikeWalks, HaveSameTrees, rooted_writes}
use Rattle.mars_canon.specs.CanonLaws.{one_rooted}
use Rattle.mars_canon.specs.Tree.{IsTree, IsSameTree, tree_writes}
use Rattle.mars_canon.specs.Laws.{OneFormOfWalks, OneFormOfTrees, SameTreesHashAlike, AlikeWalksHashAlike, OneTree, SameTreeHashesAlike}

alike_itself : (c : Rooted) → HaveAlikeWalks c c
alike_itself c = record { count = refl; walks = record { shown = λ walk. refl; together = λ walk other. (λ t. t, λ t. t) } }

same_itself : (g : List Node) (roots : List ℕ) → SameRoots g roots g roots
same_itself g [] = tt
same_itself g (root ∷ roots) = (λ path. refl, same_itself g roots)

pub one_form_of_walks : OneFormOfWalks
one_form_of_walks c d left right = (
  λ e. subst (HaveAlikeWalks c) e (alike_itself c),
  λ alike. let t = one_from_same_walks c.nodes d.nodes c.roots d.roots left.graph right.graph left.canonical right.canonical alike.count alike.walks in one_rooted c d t.0 t.1,
)

pub one_form_of_trees : OneFormOfTrees
one_form_of_trees c d left right = (
  λ e. subst (HaveSameTrees c) e (same_itself c.nodes c.roots),
  λ same. let t = one_from_same_roots c.nodes d.nodes c.roots d.roots left.graph right.graph left.canonical right.canonical same in one_rooted c d t.0 t.1,
)

pub same_trees_hash_alike : SameTreesHashAlike
same_trees_hash_alike c d left right same = ap rooted_writes ((one_form_of_trees c d left right).1 same)

pub alike_walks_hash_alike : AlikeWalksHashAlike
alike_walks_hash_alike c d left right alike = ap rooted_writes ((one_form_of_walks c d left right).1 alike)

pub one_tree : OneTree
one_tree g h left right = (
  λ e. subst (IsSameTree g) e (λ path. refl),
  λ same. (one_from_same_roots g h (0 ∷ []) (0 ∷ []) left.graph right.graph left.canonical right.canonical (same, tt)).0,
)

pub same_tree_hashes_alike : SameTreeHashesAlike
same_tree_hashes_alike g h left right same = ap tree_writes ((one_tree g h left right).1 same)

-- a test that decides whether two are one decides what is said of their trees
pub walks_decided : (c d : Rooted) (test : Bool) → IsCanon c → IsCanon d → Decides test (c ≡ d) → Decides test (HaveAlikeWalks c d)
walks_decided c d test left right one = (λ t. (one_form_of_walks c d left right).0 (one.0 t), λ alike. one.1 ((one_form_of_walks c d left right).1 alike))

pub trees_decided : (c d : Rooted) (test : Bool) → IsCanon c → IsCanon d → Decides test (c ≡ d) → Decides test (HaveSameTrees c d)
trees_decided c d test left right one = (λ t. (one_form_of_trees c d left right).0 (one.0 t), λ same. one.1 ((one_form_of_trees c d left right).1 same))

pub tree_decided : (g h : List Node) (test : Bool) → IsTree g → IsTree h → Decides test (g ≡ h) → Decides test (IsSameTree g h)
tree_decided g h test left right one = (λ t. (one_tree g h left right).0 (one.0 t), λ same. one.1 ((one_tree g h left right).1 same))

-- what tests of the nodes and of the roots say of both
module _ (g h : List Node) (roots others : List ℕ) (c d : Rooted) (left : c.nodes ≡ g) (left_roots : c.roots ≡ roots) (right : d.nodes ≡ h) (right_roots : d.roots ≡ others) (first : Bool) (nodes : Decides first (g ≡ h)) where
  pub decided_by_roots : (second : Bool) → second ≡ pointwise nat_eq roots others → first ≡ true → Decides second (c ≡ d)
  decided_by_roots second e same = (
    λ t. one_rooted c d (left ∙ nodes.0 same ∙ sym right) (left_roots ∙ (bytes_decides roots others).0 (sym e ∙ t) ∙ sym right_roots),
    λ t. e ∙ (bytes_decides roots others).1 (sym left_roots ∙ ap (λ (x : Rooted). x.roots) t ∙ right_roots),
  )

  pub decided_by_nodes : first ≡ false → Decides first (c ≡ d)
  decided_by_nodes differ = (λ t. cc, λ t. nodes.1 (sym left ∙ ap (λ (x : Rooted). x.nodes) t ∙ right))

-- the one root of a canonical graph is node 0
pub one_root : (g : List Node) (roots : List ℕ) → IsCanonical g roots → length roots ≡ 1 → roots ≡ 0 ∷ []
one_root g [] is one = absurd (omega arith)
one_root g (root ∷ other ∷ roots) is one = absurd (omega arith)
one_root g (root ∷ []) is one =
    let first = known_first g (root ∷ []) is in
    let here : root ≡ 0 = option_and_then_some (λ more. known_after more []) (known_with 0 root) first.0 first.1 (λ more known rest. ⊎_elim (λ t. absurd (omega (arith, t.0))) (λ t. t.0) (known_with_cases 0 root more known)) in
    ap (λ n. n ∷ []) here

pub one_root_canonical : (g : List Node) (roots : List ℕ) → IsCanonical g roots → length roots ≡ 1 → IsCanonical g (0 ∷ [])
one_root_canonical g roots is one = subst (IsCanonical g) (one_root g roots is one) is
