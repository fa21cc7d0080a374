-- Canonical graphs with their roots.
use Rattle.std.specs.Prelude.{◌≡◌, ℕ, ◌<◌, List, ◌++◌, Bool, ◌&&◌, length, nat_eq, All}
use Rattle.std.specs.Cmp.Lexicographic.{pointwise}
use Rattle.std.specs.Hash.{HashWrites, slice, usize}
use Rattle.mars_tree.specs.Graph.{Node, IsGraph}
use Rattle.mars_tree.specs.Canonical.{IsCanonical, SameRoots, SameWalks}
use Rattle.mars_tree.specs.Equality.{same_nodes, node_writes}

-- a graph and some of its nodes, in order
pub record Rooted : Type 0 where
  pub nodes : List Node
  pub roots : List ℕ

-- the smallest graph of its roots' trees, in its one numbering
pub record IsCanon (c : Rooted) : Type 0 where
  pub graph : IsGraph c.nodes
  pub canonical : IsCanonical c.nodes c.roots
  pub roots_in : All (λ root. root < length c.nodes) c.roots

-- equally many roots, and walks that show the same and end together
pub record HaveAlikeWalks (c d : Rooted) : Type 0 where
  pub count : length c.roots ≡ length d.roots
  pub walks : SameWalks c.nodes c.roots d.nodes d.roots

-- roots that are pairwise the same tree
abbrev pub HaveSameTrees : Rooted → Rooted → Type 0
HaveSameTrees c d = SameRoots c.nodes c.roots d.nodes d.roots

-- whether two are one: the same nodes and the same roots
abbrev pub same_rooted : Rooted → Rooted → Bool
same_rooted c d = same_nodes c.nodes d.nodes && pointwise nat_eq c.roots d.roots

-- what is written into a hash: the nodes, and then the roots
abbrev pub rooted_writes : Rooted → HashWrites
rooted_writes c = node_writes c.nodes ++ slice usize c.roots
