-- The world: one table, and the point that each session has come to. Its events, and its schedules.
use Rattle.std.specs.Prelude.{◌≡◌, ◌⊎◌, ℕ, zero, suc, List, [], ◌∷◌, ◌++◌, length, map, replicate, Some, None, slice_get, slice_set}
use Rattle.std.specs.List.{flat_map}
use Rattle.mars_script.specs.declared.script.Input.{Input}
use Rattle.mars_script.specs.declared.words.Options.{Options}
use Rattle.mars_table.specs.declared.entry.Entry.{Entry}
use Rattle.mars_table.specs.History.{AreReplies}
use Rattle.mars_table.specs.TableSeen.{TableSeen, uncalled, object_of}
use Rattle.mars_session.specs.Lines.{last_line}
use Rattle.mars_session.specs.SessionPoints.{SessionPart, SessionPoint, session_start, session_parts}
use Rattle.mars_session.specs.SessionEvents.{IsEvent, HasNoCommand, AreEvents}
use Rattle.mars_session.specs.WholeRuns.{closing_calls}

-- a table, and where each session is
pub record World : Type 0 where
  pub table : TableSeen
  pub points : List SessionPoint

-- a table that was never called, and each session at its start
abbrev pub new_world : List SessionPart → ℕ → World
new_world parts rows = record { table = uncalled rows; points = map session_start parts }

-- a table with more entries
abbrev pub with_entries : TableSeen → List Entry → TableSeen
with_entries t made = record { cap = t.cap; history = t.history ++ made }

-- the table after calls, each with the table's reply
pub record MakesCalls (old : TableSeen) (made : List Entry) (new : TableSeen) : Type 0 where
  pub replies : AreReplies (object_of old) made
  pub table : new ≡ with_entries old made

-- one event of session `i`, which was at `p`; the call that it makes, where it makes one, has the table's reply
pub record MovesSession (part : SessionPart) (i : ℕ) (p : SessionPoint) (old new : World) : Type 0 where
  pub to : SessionPoint
  pub event : IsEvent part p to
  pub made : List Entry
  pub makes : to.mine ≡ p.mine ++ made
  pub table : MakesCalls old.table made new.table
  pub points : new.points ≡ slice_set old.points i to

-- one event of session `i` in the world; where the session has ended nothing changes
pub record Happens (parts : List SessionPart) (i : ℕ) (old new : World) : Type 0 where
  pub part : SessionPart
  pub point : SessionPoint
  pub is_part : slice_get parts i ≡ Some part
  pub is_point : slice_get old.points i ≡ Some point
  pub event : (HasNoCommand part point × (new ≡ old)) ⊎ MovesSession part i point old new

-- events of the sessions in this order
abbrev pub Plays : List SessionPart → World → List ℕ → World → Type 0
Plays parts old [] new = new ≡ old
Plays parts old (i ∷ order) new = (mid : World) × Happens parts i old mid × Plays parts mid order new

-- session `i` has ended
pub record HasEnded (parts : List SessionPart) (i : ℕ) (w : World) : Type 0 where
  pub part : SessionPart
  pub point : SessionPoint
  pub is_part : slice_get parts i ≡ Some part
  pub is_point : slice_get w.points i ≡ Some point
  pub ended : HasNoCommand part point

-- so many sessions from number `i` on, each to its end
abbrev pub RunsToEnds : List SessionPart → ℕ → ℕ → World → World → Type 0
RunsToEnds parts i zero old new = new ≡ old
RunsToEnds parts i (suc n) old new =
    (events : ℕ) × (mid : World) × Plays parts old (replicate events i) mid × HasEnded parts i mid × RunsToEnds parts (suc i) n mid new

-- the closing calls, and the last line after the texts of the sessions
pub record Finishes (parts : List SessionPart) (w : World) (history : List Entry) (text : List ℕ) : Type 0 where
  pub gone : ℕ
  pub rows : ℕ
  pub pins : ℕ
  pub replies : AreReplies (object_of w.table) (closing_calls (length parts) gone rows pins)
  pub history_is : history ≡ w.table.history ++ closing_calls (length parts) gone rows pins
  pub text_is : text ≡ flat_map (λ p. p.before) w.points ++ last_line gone rows pins

-- a schedule: the events of an order, then each session to its end by number, then the closing calls
pub record IsScheduled (parts : List SessionPart) (rows : ℕ) (order : List ℕ) (history : List Entry) (text : List ℕ) : Type 0 where
  pub ordered : World
  pub world : World
  pub plays : Plays parts (new_world parts rows) order ordered
  pub ends : RunsToEnds parts 0 (length parts) ordered world
  pub finishes : Finishes parts world history text

-- so many events of a session, of which the last makes an entry and the others none
pub record MakesEntry (part : SessionPart) (n : ℕ) (p : SessionPoint) (e : Entry) (q : SessionPoint) : Type 0 where
  pub until : SessionPoint
  pub steps : AreEvents part n p until
  pub none : until.mine ≡ p.mine
  pub last : IsEvent part until q
  pub makes : q.mine ≡ p.mine ++ e ∷ []

-- for each entry of a session in turn, the session's number as often as it has events since its entry before, this one included
abbrev pub IsOrderFrom : List SessionPart → List SessionPoint → List Entry → List ℕ → Type 0
IsOrderFrom parts points [] order = order ≡ []
IsOrderFrom parts points (e ∷ history) order =
    ((slice_get parts e.who ≡ None) × IsOrderFrom parts points history order)
    ⊎ ((n : ℕ) × (part : SessionPart) × (p : SessionPoint) × (q : SessionPoint) × (rest : List ℕ) × (slice_get parts e.who ≡ Some part) × (slice_get points e.who ≡ Some p)
    × MakesEntry part n p e q × (order ≡ replicate (suc n) e.who ++ rest) × IsOrderFrom parts (slice_set points e.who q) history rest)

-- the order of the events that a history has
abbrev pub IsOrderOf : List SessionPart → List Entry → List ℕ → Type 0
IsOrderOf parts history order = IsOrderFrom parts (map session_start parts) history order

-- what an input's events in this order give: history and text
abbrev pub Sched : Input → Options → List ℕ → List Entry → List ℕ → Type 0
Sched input options order history text = IsScheduled (session_parts input options) options.rows order history text
