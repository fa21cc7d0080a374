-- That the tests of equality decide it, and what follows for the comparisons and hashes.
use Rattle.std.specs.Prelude.{◌≡◌, List, Bool, true, false, ◌&&◌, nat_eq, refl}
use Rattle.std.proofs.Common.{ap}
use Rattle.std.specs.Bool.{Decides}
use Rattle.std.specs.Cmp.{IsEquivalence, IsPartialEquivalence, partial_equiv_from_equiv}
use Rattle.std.specs.Cmp.Lexicographic.{pointwise, bytes_decides}
use Rattle.mars_base.proofs.Deciding.{both, joined}
use Rattle.mars_tree.specs.Graph.{Node}
use Rattle.mars_tree.specs.Equality.{same_nodes}
use Rattle.mars_tree.specs.EqualityLaws.{nodes_decide, equivalence_from_decides}
use Rattle.mars_canon.specs.Canon.{Rooted, same_rooted, rooted_writes}
use Rattle.mars_canon.specs.Tree.{tree_writes}

pub one_rooted : (c d : Rooted) → c.nodes ≡ d.nodes → c.roots ≡ d.roots → c ≡ d
one_rooted c d e f i = record { nodes = e i; roots = f i }

pub rooted_decides : (c d : Rooted) → Decides (same_rooted c d) (c ≡ d)
rooted_decides c d = (
  λ e. let t = both (same_nodes c.nodes d.nodes) (pointwise nat_eq c.roots d.roots) e in
      one_rooted c d ((nodes_decide c.nodes d.nodes).0 t.0) ((bytes_decides c.roots d.roots).0 t.1),
  λ e. joined (same_nodes c.nodes d.nodes) (pointwise nat_eq c.roots d.roots)
      ((nodes_decide c.nodes d.nodes).1 (ap (λ (x : Rooted). x.nodes) e)) ((bytes_decides c.roots d.roots).1 (ap (λ (x : Rooted). x.roots) e)),
)

pub rooted_equivalence : IsEquivalence same_rooted
rooted_equivalence = equivalence_from_decides same_rooted rooted_decides

pub rooted_partial_equivalence : IsPartialEquivalence same_rooted
rooted_partial_equivalence = partial_equiv_from_equiv rooted_equivalence

pub rooted_alike : (c d : Rooted) → same_rooted c d ≡ true → rooted_writes c ≡ rooted_writes d
rooted_alike c d e = ap rooted_writes ((rooted_decides c d).0 e)

pub tree_alike : (g h : List Node) → same_nodes g h ≡ true → tree_writes g ≡ tree_writes h
tree_alike g h e = ap tree_writes ((nodes_decide g h).0 e)
