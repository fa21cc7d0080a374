-- Sessions that are through, each over a door of its own, and the one history of the table.
use Rattle.std.specs.Prelude.{◌≡◌, ◌⊎◌, ℕ, ◌<◌, List, [], ◌∷◌, ◌++◌, length, map, Option, Some, None, Bool, true, false, if◌then◌else◌, slice_get}
use Rattle.mars_table.specs.declared.entry.Call.{Call}
use Rattle.mars_table.specs.declared.entry.Reply.{Reply}
use Rattle.mars_table.specs.declared.entry.Entry.{Entry}
use Rattle.mars_table.specs.History.{Legal, of, call_entry}
use Rattle.mars_session.specs.declared.events.Event.{Event}
use Rattle.mars_session.specs.SessionPoints.{SessionPart}
use Rattle.mars_session.specs.CommandActs.{AnswersCall}
use Rattle.mars_session.specs.SessionEvents.{WantsCall, HasNoCommand, ReachesPoint}
use Rattle.mars_session.specs.WholeRuns.{ClosesWith, ForEach, IsWholeRun, IsCutRun}
use Rattle.mars_session.specs.WorldLaws.{NumberedInOrder}
use Rattle.mars_session.specs.SessionSeen.{SessionSeen, session_text}
use Rattle.mars_session.specs.DoorEvents.{FollowsDoor}

-- a session that was cut has the entries of the commands before, with or without the present one's
pub record CutAtDoor (s : SessionSeen) (mine : List Entry) : Type 0 where
  pub left : s.point.done < length s.part.commands
  pub calls : (mine ≡ s.point.mine) ⊎ ((call : Call) × (reply : Reply) × WantsCall s.part s.point call × AnswersCall call reply × (mine ≡ s.point.mine ++ call_entry s.part.who call reply ∷ []))

-- a session, and the entries of its caller, after any events over its door
pub record IsWithEntries (s : SessionSeen) (mine : List Entry) : Type 0 where
  pub going : s.cut ≡ false → mine ≡ s.point.mine
  pub cut : s.cut ≡ true → CutAtDoor s mine

-- each event over a door keeps this
abbrev pub EventsKeepEntries : Type 0
EventsKeepEntries = (lone : Bool) (old : SessionSeen) (mine seen : List Entry) (event : Event) (new : SessionSeen) (mine_after seen_after : List Entry) → IsWithEntries old mine → FollowsDoor lone old mine seen event new mine_after seen_after → IsWithEntries new mine_after

-- a session of a list of parts that is through, with the entries that the history has of it
pub record EndsIn (history : List Entry) (part : SessionPart) (s : SessionSeen) : Type 0 where
  pub part_is : s.part ≡ part
  pub reached : ReachesPoint s.part s.point
  pub entries : IsWithEntries s (of history part.who)
  pub ended : s.cut ≡ false → HasNoCommand s.part s.point

-- the command at which a session was cut
abbrev pub cut_of : SessionSeen → Option ℕ
cut_of s = if s.cut then Some s.point.done else None

-- what sessions did, each over a door of its own, is a whole run, with those cut that were cut
abbrev pub TogetherTheyAreWhole : Type 0
TogetherTheyAreWhole = (parts : List SessionPart) (sessions : List SessionSeen) (rows : ℕ) (history : List Entry) (text : List ℕ) → NumberedInOrder parts → Legal rows history →
    ForEach (EndsIn history) parts sessions → ClosesWith (length parts) history (map session_text sessions) text → IsCutRun parts rows history text (map cut_of sessions)

-- where no session was cut, such a run is whole
abbrev pub UncutIsWhole : Type 0
UncutIsWhole = (parts : List SessionPart) (rows : ℕ) (history : List Entry) (text : List ℕ) (cuts : List (Option ℕ)) →
    ((i j : ℕ) → slice_get cuts i ≡ Some (Some j) → ⊥) → IsCutRun parts rows history text cuts → IsWholeRun parts rows history text
