-- Inside: the nodes of a store and their links, as they are kept together.
use Rattle.std.specs.Prelude.{ℕ, List, [], ◌∷◌, ◌++◌, length, map, Option}
use Rattle.mars_tree.specs.declared.label.Label.{Label}
use Rattle.mars_tree.specs.Graph.{Node}
use Rattle.mars_store.specs.declared.nodes.Cell.{Cell}

-- nodes, each with the node that it is linked to
pub record LinkedNodes : Type 0 where
  pub nodes : List Node
  pub links : List ℕ

-- the nodes with one more, which is linked to itself
abbrev pub with_cell : LinkedNodes → Node → LinkedNodes
with_cell all node = record { nodes = all.nodes ++ node ∷ []; links = all.links ++ length all.links ∷ [] }

-- the labels of cells
abbrev pub labels_in : List Cell → List (Option Label)
labels_in cells = map (λ (cell : Cell). cell.label) cells

-- where the kids of each begin
abbrev pub starts_in : List Cell → List ℕ
starts_in cells = map (λ (cell : Cell). cell.start) cells

-- the nodes that they are linked to
abbrev pub links_in : List Cell → List ℕ
links_in cells = map (λ (cell : Cell). cell.link) cells
