-- A small history of two callers, on which the definitions compute. An item is a caller and a number.
use Rattle.std.specs.Prelude.{◌≡◌, ℕ, List, [], ◌∷◌, Some, None}
use Rattle.mars_turn.specs.declared.pass_view.PassView.{PassView}
use Rattle.mars_turn.specs.Items.{made_by, times}
use Rattle.mars_turn.specs.Views.{numbers_of}
use Rattle.mars_turn.specs.Steps.{opening_view, new_view, after_split, split_off, joined_view, settled_view, inside_view}

abbrev pub caller_of : ℕ × ℕ → ℕ
caller_of item = item.0

-- caller 1 made an item, then caller 2, then caller 1 again
abbrev pub three_items : List (ℕ × ℕ)
three_items = (1, 10) ∷ (2, 20) ∷ (1, 11) ∷ []

-- the opening pass, after two passes were split off
abbrev pub two_split_off : PassView (ℕ × ℕ)
two_split_off = after_split (after_split (opening_view 7))

-- caller 1, which has seen the whole history
abbrev pub first_caller : PassView (ℕ × ℕ)
first_caller = record (new_view 1 7 three_items) { mine = (1, 10) ∷ (1, 11) ∷ [] }

-- caller 2, which has seen it up to its own item
abbrev pub second_caller : PassView (ℕ × ℕ)
second_caller = record (new_view 2 7 ((1, 10) ∷ (2, 20) ∷ [])) { mine = (2, 20) ∷ [] }

-- the opening pass, in which caller 2 and then caller 1 ended
abbrev pub all_ended : PassView (ℕ × ℕ)
all_ended = settled_view (joined_view (settled_view (joined_view two_split_off second_caller)) first_caller)

-- what was made, who has which number, and what two passes make together
pub record Examples : Type 0 where
  pub items_of_one : made_by caller_of 1 three_items ≡ (1, 10) ∷ (1, 11) ∷ []
  pub items_of_nobody : made_by caller_of 0 three_items ≡ []
  pub second_split : split_off (after_split (opening_view {X = ℕ × ℕ} 7)) ≡ new_view 2 7 []
  pub three_passes : two_split_off.made ≡ Some 3
  pub longer_kept : (joined_view second_caller first_caller).seen ≡ three_items
  pub shorter_kept : (joined_view second_caller first_caller).shorter ≡ (1, 10) ∷ (2, 20) ∷ []
  pub same_number : (joined_view second_caller first_caller).number ≡ 2
  pub nobody_counts : (joined_view second_caller first_caller).made ≡ None
  pub opening_counts : all_ended.made ≡ Some 3
  pub all_numbers : numbers_of all_ended ≡ 0 ∷ 2 ∷ 1 ∷ []
  pub once_each : times 1 (numbers_of all_ended) ≡ 1
  pub all_seen : all_ended.seen ≡ three_items
  pub found : (inside_view first_caller three_items).entered ≡ Some three_items
