-- Laws: whole runs and schedules are the same, and each is determined.
use Rattle.std.specs.Prelude.{◌≡◌, ℕ, List, ◌∷◌, ◌++◌, map, Some, slice_get}
use Rattle.mars_script.specs.declared.script.Input.{Input}
use Rattle.mars_script.specs.declared.words.Options.{Options}
use Rattle.mars_table.specs.declared.entry.Entry.{Entry}
use Rattle.mars_table.specs.Calls.{MayCall, IsReply}
use Rattle.mars_table.specs.TableSeen.{object_of}
use Rattle.mars_session.specs.SessionPoints.{SessionPart, SessionPoint, session_start, session_parts}
use Rattle.mars_session.specs.SessionEvents.{AreEvents, WantsCall}
use Rattle.mars_session.specs.WholeRuns.{IsWholeRun}
use Rattle.mars_session.specs.Worlds.{World, new_world, Plays, IsScheduled, IsOrderFrom, IsOrderOf}

-- sessions are numbered in order
abbrev pub NumberedInOrder : List SessionPart → Type 0
NumberedInOrder parts = (i : ℕ) (part : SessionPart) → slice_get parts i ≡ Some part → part.who ≡ i

-- so are those of an input
abbrev pub PartsAreNumbered : Type 0
PartsAreNumbered = (input : Input) (options : Options) → NumberedInOrder (session_parts input options)

-- a whole run is the run of a schedule, which its history tells
abbrev pub HistoryIsASchedule : Type 0
HistoryIsASchedule = (parts : List SessionPart) (rows : ℕ) (history : List Entry) (text : List ℕ) → NumberedInOrder parts → IsWholeRun parts rows history text →
    (order : List ℕ) × IsOrderOf parts history order × IsScheduled parts rows order history text

-- the run of a schedule is whole
abbrev pub ScheduleIsWhole : Type 0
ScheduleIsWhole = (parts : List SessionPart) (rows : ℕ) (order : List ℕ) (history : List Entry) (text : List ℕ) → NumberedInOrder parts → IsScheduled parts rows order history text → IsWholeRun parts rows history text

-- one order belongs to a history
abbrev pub OrderIsOne : Type 0
OrderIsOne = (parts : List SessionPart) (history : List Entry) (order other : List ℕ) → IsOrderOf parts history order → IsOrderOf parts history other → order ≡ other

-- one history and one text come of a schedule
abbrev pub ScheduleIsOne : Type 0
ScheduleIsOne = (parts : List SessionPart) (rows : ℕ) (order : List ℕ) (history other : List Entry) (text again : List ℕ) → NumberedInOrder parts → IsScheduled parts rows order history text → IsScheduled parts rows order other again → (history ≡ other) × (text ≡ again)

-- from where it is, the session of an entry comes without another entry to where it wants the entry's call, which may be made
-- there, and the entry's reply is the table's
pub record ComesToEntry (parts : List SessionPart) (w : World) (e : Entry) : Type 0 where
  pub part : SessionPart
  pub point : SessionPoint
  pub until : SessionPoint
  pub events : ℕ
  pub is_part : slice_get parts e.who ≡ Some part
  pub is_point : slice_get w.points e.who ≡ Some point
  pub steps : AreEvents part events point until
  pub none : until.mine ≡ point.mine
  pub wants : WantsCall part until e.call
  pub may : MayCall (object_of w.table) e.who e.call
  pub replies : IsReply (object_of w.table) e.call e.reply

-- so it is at each entry of a whole run, after those before it: what a replay checks
abbrev pub WholeGoesOn : Type 0
WholeGoesOn = (parts : List SessionPart) (rows : ℕ) (history : List Entry) (text : List ℕ) (xs ys : List Entry) (e : Entry) → NumberedInOrder parts → (whole : IsWholeRun parts rows history text) → whole.closes.sessions ≡ xs ++ e ∷ ys →
    (order : List ℕ) × (w : World) × IsOrderFrom parts (map session_start parts) xs order × Plays parts (new_world parts rows) order w × (w.table.history ≡ xs) × ComesToEntry parts w e
