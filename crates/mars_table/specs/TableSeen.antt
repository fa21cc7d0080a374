-- A table as contracts see it: its limit and its history, which fix its rows and pins.
use Rattle.std.specs.Prelude.{◌≡◌, ⊤, ℕ, List, [], ◌∷◌, ◌++◌}
use Rattle.mars_rows.specs.Object.{TableObject}
use Rattle.mars_table.specs.Calls.{IsReply}
use Rattle.mars_table.specs.History.{after_history, call_entry}
use Rattle.mars_table.specs.declared.entry.Call.{Call}
use Rattle.mars_table.specs.declared.entry.Call.TheVariants.{Drop}
use Rattle.mars_table.specs.declared.entry.Reply.{Reply}
use Rattle.mars_table.specs.declared.entry.Entry.{Entry}

-- the row limit, and all calls that were made
pub record TableSeen : Type 0 where
  pub cap : ℕ
  pub history : List Entry

-- the rows and pins of a table
abbrev pub object_of : TableSeen → TableObject
object_of t = after_history t.cap t.history

-- a table that was never called
abbrev pub uncalled : ℕ → TableSeen
uncalled cap = record { cap = cap; history = [] }

-- the table with one more entry
abbrev pub with_entry : TableSeen → Entry → TableSeen
with_entry t e = record { cap = t.cap; history = t.history ++ e ∷ [] }

-- a call was made: the reply is the table's, and its entry is the last one
pub record Applied (old : TableSeen) (who : ℕ) (call : Call) (reply : Reply) (new : TableSeen) : Type 0 where
  pub is_reply : IsReply (object_of old) call reply
  pub is_new : new ≡ with_entry old (call_entry who call reply)

-- the call takes a pin off
abbrev pub IsDrop : Call → Type 0
IsDrop (Drop h) = ⊤
IsDrop call = ⊥
