-- What is shown at nodes, and numbers for it.
use Rattle.std.specs.Prelude.{◌≡◌, ◌↔◌, ℕ, ◌<◌, List, length, slice_index_or, Option, Some, None}
use Rattle.mars_tree.specs.declared.label.Label.{Label}
use Rattle.mars_tree.specs.Graph.{Node, shown_at, label_of}
use Rattle.mars_refine.specs.declared.marks.NodeLabel.{NodeLabel}
use Rattle.mars_refine.specs.declared.marks.NodeLabel.TheVariants as variant

-- numbers of nodes that are equal exactly where the same is shown
pub record AreNumbers (g : List Node) (numbers : List ℕ) : Type 0 where
  pub size : length numbers ≡ length g
  pub below : (u : ℕ) → u < length g → slice_index_or numbers u 0 < length g
  pub same : (u v : ℕ) → u < length g → v < length g → (slice_index_or numbers u 0 ≡ slice_index_or numbers v 0) ↔ (shown_at g u ≡ shown_at g v)

-- what is shown: the label, or the free leaf by its number
abbrev pub shown_from : Option Label → ℕ → NodeLabel
shown_from (Some label) n = variant.Label label
shown_from None n = variant.Free n

-- what is shown at a node
abbrev pub shown_of : List Node → ℕ → NodeLabel
shown_of g n = shown_from (label_of g n) n
