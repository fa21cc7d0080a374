-- Nodes in the order in which a walk over a queue meets them.
use Rattle.std.specs.Prelude.{◌≡◌, ℕ, suc, ◌<◌, List, [], ◌∷◌, ◌++◌, length, take, Some, nat_eq, if◌then◌else◌, All}
use Rattle.std.specs.List.{flat_map, list_any}
use Rattle.mars_tree.specs.Graph.{Node, kids_of}
use Rattle.mars_tree.specs.Canonical.{walk_end}
pub use Rattle.mars_base.specs.Lists.{AreDistinct}
pub use Rattle.mars_tree.specs.Canonical.{FirstInOrder}
pub use Rattle.mars_tree.specs.Renumbered.{renumbered_node, renumbered}

-- the numbers with one more, which goes last where it is new
abbrev pub with_number : List ℕ → ℕ → List ℕ
with_number met x = if list_any (nat_eq x) met then met else met ++ x ∷ []

-- the numbers met after a list, each once, in order of first appearance, after those met before
abbrev pub met_after : List ℕ → List ℕ → List ℕ
met_after met [] = met
met_after met (x ∷ xs) = met_after (with_number met x) xs

-- the first place of a number
abbrev pub place_in : List ℕ → ℕ → ℕ
place_in [] x = 0
place_in (y ∷ ys) x = if nat_eq y x then 0 else suc (place_in ys x)

-- the order of a walk over a queue: the roots, then the kids of what is in the queue; each node is in the queue before its own turn comes
pub record IsQueue (g : List Node) (roots order : List ℕ) : Type 0 where
  pub whole : met_after [] (roots ++ flat_map (kids_of g) order) ≡ order
  pub early : (i : ℕ) → i < length order → i < length (met_after [] (roots ++ flat_map (kids_of g) (take i order)))

-- a walk from a root ends at the node
abbrev pub IsReached : List Node → List ℕ → ℕ → Type 0
IsReached g roots n = (walk : ℕ × List ℕ) × (walk_end g roots walk ≡ Some n)

-- the nodes that walks from the roots end at, each once, in the order of a walk over a queue
pub record IsReach (g : List Node) (roots order : List ℕ) : Type 0 where
  pub queue : IsQueue g roots order
  pub distinct : AreDistinct order
  pub in_range : All (λ n. n < length g) order
  pub reached : All (IsReached g roots) order
