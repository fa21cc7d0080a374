-- What contracts see of a pass and of a turn.
use Rattle.std.specs.Prelude.{◌≡◌}
use Rattle.atomic_table.specs.Seated.{TableId}
use Rattle.mars_turn.specs.declared.listed.Listed.{Ghosts}
use Rattle.mars_turn.specs.declared.pass_view.PassView.{PassView}
use Rattle.mars_turn.specs.declared.pass.Pass.{Pass}
use Rattle.mars_turn.specs.declared.turn.Turn.{Turn}
use Rattle.mars_turn.specs.Views.{IsOutside}

-- what the pass knows
abbrev pub pass_view : {A X : Type 0} {listed : Ghosts A X} → Pass A X listed → PassView X
pass_view pass = pass.seat.me.0

-- which turn the pass is of
abbrev pub turn_of : {A X : Type 0} {listed : Ghosts A X} → Pass A X listed → TableId
turn_of pass = pass.seat.table_id

-- what tells the turn from all others
abbrev pub turn_id : {A X : Type 0} → Turn A X → TableId
turn_id turn = turn.table.shared.table_id

-- the pass is of this turn, and outside
pub record MayEnter {A X : Type 0} {listed : Ghosts A X} (turn : TableId) (pass : Pass A X listed) : Type 0 where
  pub of : turn_of pass ≡ turn
  pub outside : IsOutside (pass_view pass)
