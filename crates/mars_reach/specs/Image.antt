-- Graphs that have the nodes of another under other numbers.
use Rattle.std.specs.Prelude.{◌≡◌, ℕ, ◌<◌, List, length, map, slice_get, Some}
use Rattle.mars_tree.specs.Graph.{Node, label_of, kids_of, Same}

-- `h` has the nodes of `g` in `In` under other numbers, with their labels and kids; only the same trees share a number
pub record IsImage (g : List Node) (In : ℕ → Type 0) (number : ℕ → ℕ) (h : List Node) : Type 0 where
  pub in_range : (u : ℕ) → In u → u < length g
  pub closed : (u k kid : ℕ) → In u → slice_get (kids_of g u) k ≡ Some kid → In kid
  pub below : (u : ℕ) → In u → number u < length h
  pub onto : (n : ℕ) → n < length h → (u : ℕ) × In u × (number u ≡ n)
  pub label : (u : ℕ) → In u → label_of h (number u) ≡ label_of g u
  pub kids : (u : ℕ) → In u → kids_of h (number u) ≡ map number (kids_of g u)
  pub alike : (u v : ℕ) → In u → In v → number u ≡ number v → Same g u g v
