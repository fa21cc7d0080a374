-- The closing calls of the program, which come after all calls of the jobs.
use Rattle.std.specs.Prelude.{◌≡◌, ℕ, ◌<◌, List, [], ◌∷◌, ◌++◌, All}
use Rattle.mars_table.specs.declared.entry.Call.TheVariants.{Sweep, Count}
use Rattle.mars_table.specs.declared.entry.Reply.TheVariants.{Swept, Counted}
use Rattle.mars_table.specs.declared.entry.Entry.{Entry}
use Rattle.mars_table.specs.History.{call_entry}
use Rattle.mars_gate.specs.declared.closing.ClosingReplies.{ClosingReplies}

-- the program sweeps, and then it counts
abbrev pub closing_entries : ℕ → ClosingReplies → List Entry
closing_entries n told = call_entry n Sweep (Swept told.swept) ∷ call_entry n Count (Counted told.rows told.pins) ∷ []

-- the last entries of the history are the program's, and before them are entries of callers below n alone
pub record ClosingIsLast (n : ℕ) (last history : List Entry) : Type 0 where
  pub before : List Entry
  pub parts : history ≡ before ++ last
  pub others : All (λ e. e.who < n) before
