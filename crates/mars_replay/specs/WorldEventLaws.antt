-- Laws: the events of a world are those of a schedule, its history stays legal, its texts only grow, and its run is whole.
use Rattle.std.specs.Prelude.{◌≡◌, ◌≢◌, ℕ, List, ◌++◌, Some, Bool, false, slice_get}
use Rattle.mars_table.specs.declared.entry.Entry.{Entry}
use Rattle.mars_table.specs.History.{Legal}
use Rattle.mars_session.specs.declared.events.Event.{Event}
use Rattle.mars_session.specs.declared.events.Event.TheVariants.{Cut}
use Rattle.mars_session.specs.SessionPoints.{SessionPart}
use Rattle.mars_session.specs.SessionAlone.{BeginsWith}
use Rattle.mars_session.specs.SessionSeen.{SessionSeen, session_text}
use Rattle.mars_session.specs.Worlds.{new_world, Plays}
use Rattle.mars_session.specs.WorldLaws.{NumberedInOrder}
use Rattle.mars_replay.specs.WorldSeen.{WorldSeen, started_world, world_of, NoneIsCut, IsWorldEvent, AreWorldEvents}
use Rattle.mars_replay.specs.WorldRuns.{IsWorldRun, GivesRun}

-- after events of which none was out of memory the world is that of the schedule's events
abbrev pub WorldFollowsEvents : Type 0
WorldFollowsEvents = (parts : List SessionPart) (rows : ℕ) (order : List ℕ) (w : WorldSeen) → NumberedInOrder parts → AreWorldEvents order (started_world parts rows) w → NoneIsCut w →
    Plays parts (new_world parts rows) order (world_of w)

-- sessions are cut by events that are out of memory alone
abbrev pub OthersCutNone : Type 0
OthersCutNone = (i : ℕ) (event : Event) (old new : WorldSeen) → IsWorldEvent i event old new → event ≢ Cut → NoneIsCut old → NoneIsCut new

-- after any events the history is legal
abbrev pub HistoriesAreLegal : Type 0
HistoriesAreLegal = (parts : List SessionPart) (rows : ℕ) (order : List ℕ) (w : WorldSeen) → AreWorldEvents order (started_world parts rows) w → Legal rows w.table.history

-- the text of a session that isn't cut begins with its text before further events
abbrev pub WorldTextsGrow : Type 0
WorldTextsGrow = (order : List ℕ) (old new : WorldSeen) (i : ℕ) (s t : SessionSeen) → AreWorldEvents order old new → slice_get old.sessions i ≡ Some s → slice_get new.sessions i ≡ Some t → t.cut ≡ false →
    BeginsWith (session_text s) (session_text t)

-- a run after events is that of the schedule with those events first
abbrev pub WorldRunIsWhole : Type 0
WorldRunIsWhole = (parts : List SessionPart) (rows : ℕ) (before order : List ℕ) (w : WorldSeen) (history : List Entry) (text : List ℕ) (cut : Bool) → NumberedInOrder parts →
    AreWorldEvents before (started_world parts rows) w → IsWorldRun w order history text cut → GivesRun parts rows (before ++ order) history text cut
