-- Laws: canonical graphs are equal exactly where their trees are, and equal ones hash alike.
use Rattle.std.specs.Prelude.{◌≡◌, ◌↔◌, List}
use Rattle.mars_tree.specs.Graph.{Node}
use Rattle.mars_canon.specs.Canon.{Rooted, IsCanon, HaveAlikeWalks, HaveSameTrees, rooted_writes}
use Rattle.mars_canon.specs.Tree.{IsTree, IsSameTree, tree_writes}

-- canonical graphs with their roots are one exactly where their walks are alike
abbrev pub OneFormOfWalks : Type 0
OneFormOfWalks = (c d : Rooted) → IsCanon c → IsCanon d → ((c ≡ d) ↔ HaveAlikeWalks c d)

-- they are one exactly where their roots are pairwise the same tree, a free leaf being told by its number
abbrev pub OneFormOfTrees : Type 0
OneFormOfTrees = (c d : Rooted) → IsCanon c → IsCanon d → ((c ≡ d) ↔ HaveSameTrees c d)

-- where the roots are pairwise the same tree, the same is hashed
abbrev pub SameTreesHashAlike : Type 0
SameTreesHashAlike = (c d : Rooted) → IsCanon c → IsCanon d → HaveSameTrees c d → rooted_writes c ≡ rooted_writes d

-- where the walks are alike, the same is hashed
abbrev pub AlikeWalksHashAlike : Type 0
AlikeWalksHashAlike = (c d : Rooted) → IsCanon c → IsCanon d → HaveAlikeWalks c d → rooted_writes c ≡ rooted_writes d

-- trees are one exactly where their roots are the same tree
abbrev pub OneTree : Type 0
OneTree = (g h : List Node) → IsTree g → IsTree h → ((g ≡ h) ↔ IsSameTree g h)

-- the same trees hash alike
abbrev pub SameTreeHashesAlike : Type 0
SameTreeHashesAlike = (g h : List Node) → IsTree g → IsTree h → IsSameTree g h → tree_writes g ≡ tree_writes h
