-- The run of a world: events in an order, then each session to where it is through, then the closing calls; and what it gives.
use Rattle.std.specs.Prelude.{◌≡◌, ◌↔◌, ℕ, zero, suc, List, ◌++◌, length, replicate, Bool, true, false, Option, Some, slice_get}
use Rattle.std.specs.List.{flat_map, list_any}
use Rattle.mars_script.specs.declared.script.Input.{Input}
use Rattle.mars_script.specs.declared.words.Options.{Options}
use Rattle.mars_table.specs.declared.entry.Entry.{Entry}
use Rattle.mars_table.specs.History.{AreReplies}
use Rattle.mars_table.specs.TableSeen.{object_of}
use Rattle.mars_session.specs.Lines.{last_line}
use Rattle.mars_session.specs.SessionPoints.{SessionPart, session_parts}
use Rattle.mars_session.specs.SessionSeen.{SessionSeen, IsThrough, session_text}
use Rattle.mars_session.specs.WholeRuns.{closing_calls, IsWholeRun, IsCutRun}
use Rattle.mars_session.specs.Worlds.{IsScheduled}
use Rattle.mars_replay.specs.WorldSeen.{WorldSeen, AreWorldEvents}

-- session `i` has ended, or it was cut
abbrev pub IsThroughAt : ℕ → WorldSeen → Type 0
IsThroughAt i w = (s : SessionSeen) × (slice_get w.sessions i ≡ Some s) × IsThrough s

-- so many sessions from number `i` on, each to where it is through
abbrev pub RunsThrough : ℕ → ℕ → WorldSeen → WorldSeen → Type 0
RunsThrough i zero old new = new ≡ old
RunsThrough i (suc n) old new =
    (events : ℕ) × (mid : WorldSeen) × AreWorldEvents (replicate events i) old mid × IsThroughAt i mid × RunsThrough (suc i) n mid new

-- the closing calls; the texts of the sessions, in order, and the last line; whether a session was cut
pub record ClosesWorld (w : WorldSeen) (history : List Entry) (text : List ℕ) (cut : Bool) : Type 0 where
  pub gone : ℕ
  pub rows : ℕ
  pub pins : ℕ
  pub replies : AreReplies (object_of w.table) (closing_calls (length w.sessions) gone rows pins)
  pub history_is : history ≡ w.table.history ++ closing_calls (length w.sessions) gone rows pins
  pub text_is : text ≡ flat_map session_text w.sessions ++ last_line gone rows pins
  pub cut_is : cut ≡ list_any (λ s. s.cut) w.sessions

-- the run of a world: events in this order, each session to where it is through, by number, and the closing calls
pub record IsWorldRun (w : WorldSeen) (order : List ℕ) (history : List Entry) (text : List ℕ) (cut : Bool) : Type 0 where
  pub ordered : WorldSeen
  pub world : WorldSeen
  pub events : AreWorldEvents order w ordered
  pub ends : RunsThrough 0 (length w.sessions) ordered world
  pub closes : ClosesWorld world history text cut

-- what sessions give whose events came in this order, and who then ran to their ends: where none was cut the schedule's history
-- and text, which are whole; else they are whole but for the sessions that were cut, and `cut` tells that there are such
pub record GivesRun (parts : List SessionPart) (rows : ℕ) (order : List ℕ) (history : List Entry) (text : List ℕ) (cut : Bool) : Type 0 where
  pub cuts : List (Option ℕ)
  pub runs : IsCutRun parts rows history text cuts
  pub tells : (cut ≡ true) ↔ ((i : ℕ) × (j : ℕ) × (slice_get cuts i ≡ Some (Some j)))
  pub scheduled : cut ≡ false → IsScheduled parts rows order history text
  pub whole : cut ≡ false → IsWholeRun parts rows history text

-- those of an input
abbrev pub GivesRunOf : Input → Options → List ℕ → List Entry → List ℕ → Bool → Type 0
GivesRunOf input options order history text cut = GivesRun (session_parts input options) options.rows order history text cut
