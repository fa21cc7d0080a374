-- What legal histories mean: live numbers are trees, sweeps are exact, and pins are a caller's own.
use Rattle.std.specs.Prelude.{◌≡◌, ◌↔◌, ℕ, ◌*◌, ◌≤◌, List, [], ◌∷◌, ◌++◌, length, Contains}
use Rattle.mars_canon.specs.Tree.{most_nodes}
use Rattle.mars_tree.specs.Graph.{Node}
use Rattle.mars_rows.specs.Rows.{HasRow, SameRow}
use Rattle.mars_rows.specs.Object.{TableObject}
use Rattle.mars_rows.specs.Sound.{IsSound, IsMet}
use Rattle.mars_table.specs.Calls.{MayCall, after_call, IsReply}
use Rattle.mars_table.specs.History.{Legal, after_history, of, held, pins_of, call_entry, OwnsFor}
use Rattle.mars_table.specs.declared.entry.Call.{Call}
use Rattle.mars_table.specs.declared.entry.Call.TheVariants.{Intern, Sweep}
use Rattle.mars_table.specs.declared.entry.Reply.{Reply}
use Rattle.mars_table.specs.declared.entry.Entry.{Entry}

-- some caller has a pin on the number
abbrev pub IsPinned : TableObject → ℕ → Type 0
IsPinned t h = (who : ℕ) × Contains t.pins (who, h)

-- what holds at every moment of a history
pub record Live (cap : ℕ) (history : List Entry) : Type 0 where
  -- two pinned numbers are one exactly where their trees are
  pub numbers : (before rest : List Entry) (a b : ℕ) → history ≡ before ++ rest → IsPinned (after_history cap before) a → IsPinned (after_history cap before) b →
      (a ≡ b) ↔ SameRow (after_history cap before).rows a (after_history cap before).rows b
  -- a row is the same tree in every later table that has it
  pub lasts : (before between rest : List Entry) (h : ℕ) → history ≡ before ++ (between ++ rest) → HasRow (after_history cap before).rows h →
      HasRow (after_history cap (before ++ between)).rows h → SameRow (after_history cap (before ++ between)).rows h (after_history cap before).rows h
  -- a sweep leaves exactly the rows that a walk from a pin meets
  pub sweeps : (before rest : List Entry) (who h : ℕ) (reply : Reply) → history ≡ before ++ call_entry who Sweep reply ∷ rest →
      HasRow (after_history cap (before ++ call_entry who Sweep reply ∷ [])).rows h ↔ IsMet (after_history cap before) h

-- a legal history is live
abbrev pub LegalIsLive : Type 0
LegalIsLive = (cap : ℕ) (history : List Entry) → Legal cap history → Live cap history

-- each call keeps the table sound
abbrev pub CallsKeepSound : Type 0
CallsKeepSound = (t : TableObject) (who : ℕ) (call : Call) → IsSound t → MayCall t who call → IsSound (after_call t who call)

-- so the table after a legal history is sound
abbrev pub LegalIsSound : Type 0
LegalIsSound = (cap : ℕ) (history : List Entry) → Legal cap history → IsSound (after_history cap history)

-- a row that interning takes away is met by no walk from a pin
abbrev pub InternTakesUnmet : Type 0
InternTakesUnmet = (t : TableObject) (who h : ℕ) (tree : List Node) → IsSound t → MayCall t who (Intern tree) → HasRow t.rows h → IsMet t h →
    HasRow (after_call t who (Intern tree)).rows h

-- whether a caller has a pin depends on its own entries alone
abbrev pub PinsAreOwn : Type 0
PinsAreOwn = (cap : ℕ) (history : List Entry) (who : ℕ) → Legal cap history → pins_of who (after_history cap history).pins ≡ held (of history who)

-- so does whether it may make a call
abbrev pub CallsAreOwn : Type 0
CallsAreOwn = (cap : ℕ) (history : List Entry) (who : ℕ) (call : Call) → Legal cap history → MayCall (after_history cap history) who call ↔ OwnsFor (of history who) call

-- a call has one reply
abbrev pub RepliesAreDetermined : Type 0
RepliesAreDetermined = (t : TableObject) (call : Call) (reply again : Reply) → IsSound t → IsReply t call reply → IsReply t call again → reply ≡ again

-- numbers are counted up by at most the nodes of a tree a call
abbrev pub NextIsBounded : Type 0
NextIsBounded = (cap : ℕ) (history : List Entry) → Legal cap history → (after_history cap history).next ≤ most_nodes * length history
