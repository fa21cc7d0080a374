-- What the close of a book tells of a pass that made the closing calls.
use Rattle.std.specs.Prelude.{◌≡◌, List}
use mathlib.Core.List.{IsPrefix}
use Rattle.mars_turn.specs.declared.pass_view.PassView.{PassView}
use Rattle.mars_turn.specs.Items.{AllMade}
use Rattle.mars_turn.specs.Views.{OnlyOf}
use Rattle.mars_table.specs.declared.entry.Entry.{Entry}
use Rattle.mars_table.specs.History.{of}
use Rattle.mars_gate.specs.declared.closing.ClosingReplies.{ClosingReplies}
use Rattle.mars_gate.specs.Closing.{closing_entries}

-- by what the pass knew before the closing calls: the history begins with all that it had seen, and has its closing calls,
-- the entries of those that ended in it, and no others
pub record IsClosedBy (view : PassView Entry) (told : ClosingReplies) (history : List Entry) : Type 0 where
  pub seen : IsPrefix view.seen history
  pub own : of history view.number ≡ closing_entries view.number told
  pub ended : AllMade (λ e. e.who) history view.ended
  pub others : OnlyOf (λ e. e.who) view history
