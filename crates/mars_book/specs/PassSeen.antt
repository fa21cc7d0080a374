-- A pass of a book as contracts see it, and what holds of each one.
use Rattle.std.specs.Prelude.{◌≡◌}
use Rattle.atomic_table.specs.Seated.{TableId}
use Rattle.mars_turn.specs.declared.pass_view.PassView.{PassView}
use Rattle.mars_turn.specs.Views.{IsOutside}
use Rattle.mars_table.specs.declared.entry.Entry.{Entry}
use Rattle.mars_table.specs.History.{Legal, of}

-- which turn the pass is of, and what it knows; `fixed` is the row limit
pub record PassSeen : Type 0 where
  pub turn : TableId
  pub view : PassView Entry

-- the same pass, with other knowledge
abbrev pub knowing : PassSeen → PassView Entry → PassSeen
knowing pass view = record { turn = pass.turn; view = view }

-- it is outside, what it has seen is legal with the row limit, and its own entries there are those that it made
pub record KnowsHistory (view : PassView Entry) : Type 0 where
  pub outside : IsOutside view
  pub legal : Legal view.fixed view.seen
  pub own : of view.seen view.number ≡ view.mine
