-- Small canonical graphs, on which the definitions compute.
use Rattle.std.specs.Prelude.{◌≡◌, List, [], ◌∷◌, Some, None}
use Rattle.mars_tree.specs.declared.label.Label.TheVariants.{Dot}
use Rattle.mars_tree.specs.Graph.{Node, labelled, at}
use Rattle.mars_tree.specs.Graph as graph
use Rattle.mars_tree.specs.Canonical.{mentions, known_after}
use Rattle.mars_tree.specs.Examples.{named, loop}

-- aa.bb.nil, with the outer dot at 0, its kids aa and the inner dot at 1 and 2, and theirs at 3 and 4
abbrev pub list_of_two : List Node
list_of_two = labelled Dot (1 ∷ 2 ∷ []) ∷ labelled (named 13 0) [] ∷ labelled Dot (3 ∷ 4 ∷ []) ∷ labelled (named 14 0) [] ∷ labelled (named 15 0) [] ∷ []

-- the same list numbered depth first, where the inner dot comes last
abbrev pub list_of_two_depth_first : List Node
list_of_two_depth_first = labelled Dot (1 ∷ 4 ∷ []) ∷ labelled (named 13 0) [] ∷ labelled (named 14 0) [] ∷ labelled (named 15 0) [] ∷ labelled Dot (2 ∷ 3 ∷ []) ∷ []

-- which numberings are in order, and what paths end at
pub record Examples : Type 0 where
  pub breadth_first : known_after 0 (mentions (0 ∷ []) list_of_two) ≡ Some 5
  pub depth_first : known_after 0 (mentions (0 ∷ []) list_of_two_depth_first) ≡ None
  pub first_item : at list_of_two 0 (0 ∷ []) ≡ Some (graph.label (named 13 0))
  pub second_item : at list_of_two 0 (1 ∷ 0 ∷ []) ≡ Some (graph.label (named 14 0))
  pub end : at list_of_two 0 (1 ∷ 1 ∷ []) ≡ Some (graph.label (named 15 0))
  pub loop_in_order : known_after 0 (mentions (0 ∷ []) loop) ≡ Some 1
