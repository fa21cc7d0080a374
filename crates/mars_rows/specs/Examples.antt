-- The table object on small trees, computed.
use Rattle.std.specs.Prelude.{◌≡◌, ℕ, List, [], ◌∷◌}
use Rattle.mars_tree.specs.declared.label.Label.TheVariants.{Dot}
use Rattle.mars_tree.specs.Graph.{Node, labelled}
use Rattle.mars_tree.specs.Examples.{named, loop}
use Rattle.mars_canon.specs.Examples.{list_of_two}
use Rattle.mars_rows.specs.Object.{TableObject, Interned, empty_table, intern, sweep, swept, counts_of}
use Rattle.mars_rows.specs.Object.Interned.{kept, full}
use Rattle.mars_rows.specs.SoundLaws.{table_after}

-- bb.nil
abbrev pub one_item : List Node
one_item = labelled Dot (1 ∷ 2 ∷ []) ∷ labelled (named 14 0) [] ∷ labelled (named 15 0) [] ∷ []

-- the table after the trees of a list, the last first, all kept by caller 0
abbrev pub table_after_trees : ℕ → List (List Node) → TableObject
table_after_trees cap [] = empty_table cap
table_after_trees cap (g ∷ gs) = let old = table_after_trees cap gs in table_after old (intern old 0 g)

-- the number that the next tree gets, or the limit where it doesn't fit
abbrev pub answered_number : Interned → ℕ
answered_number (kept root new) = root
answered_number (full rows fresh cap) = cap

-- a table whose pins are gone
abbrev pub without_pins : TableObject → TableObject
without_pins t = record { rows = t.rows; pins = []; next = t.next; limit = t.limit }

pub record Examples : Type 0 where
  -- the same loop twice is one row with two pins
  pub loop_again : answered_number (intern (table_after_trees 9 (loop ∷ [])) 0 loop) ≡ 0
  pub loop_counts : counts_of (table_after_trees 9 (loop ∷ loop ∷ [])) ≡ (1, 2)
  -- the second tree occurs inside the first
  pub first_number : answered_number (intern (empty_table 9) 0 list_of_two) ≡ 0
  pub inner_number : answered_number (intern (table_after_trees 9 (list_of_two ∷ [])) 0 one_item) ≡ 2
  pub inner_counts : counts_of (table_after_trees 9 (one_item ∷ list_of_two ∷ [])) ≡ (5, 2)
  -- five nodes don't fit into four rows
  pub too_many : intern (empty_table 4) 0 list_of_two ≡ full 0 5 4
  -- a sweep keeps what a pin reaches, and takes a cycle that none reaches
  pub nothing_swept : swept (table_after_trees 9 (list_of_two ∷ [])) ≡ 0
  pub loop_swept : swept (without_pins (table_after_trees 9 (loop ∷ []))) ≡ 1
  -- a number isn't given again
  pub next_number : answered_number (intern (sweep (without_pins (table_after_trees 9 (one_item ∷ [])))) 0 loop) ≡ 3
