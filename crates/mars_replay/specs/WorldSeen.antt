-- A world as callers see it: a table, and each session, cut or not. Its events are those of its sessions over the table's own door.
use Rattle.std.specs.Prelude.{◌≡◌, ℕ, List, [], ◌∷◌, map, Some, true, false, slice_get, slice_set}
use Rattle.mars_script.specs.declared.script.Input.{Input}
use Rattle.mars_script.specs.declared.words.Options.{Options}
use Rattle.mars_table.specs.History.{Legal, of}
use Rattle.mars_table.specs.TableSeen.{TableSeen, uncalled}
use Rattle.mars_session.specs.declared.events.Event.{Event}
use Rattle.mars_session.specs.SessionPoints.{SessionPart, session_parts}
use Rattle.mars_session.specs.SessionSeen.{SessionSeen, started_session}
use Rattle.mars_session.specs.DoorEvents.{FollowsDoor}
use Rattle.mars_session.specs.Worlds.{World}

pub record WorldSeen : Type 0 where
  pub table : TableSeen
  pub sessions : List SessionSeen

-- sessions that did nothing, and a table that was never called
abbrev pub started_world : List SessionPart → ℕ → WorldSeen
started_world parts rows = record { table = uncalled rows; sessions = map started_session parts }

-- those of an input
abbrev pub input_world : Input → Options → WorldSeen
input_world input options = started_world (session_parts input options) options.rows

-- what its sessions were given
abbrev pub seen_parts : WorldSeen → List SessionPart
seen_parts w = map (λ s. s.part) w.sessions

-- the same table, and the points of the sessions
abbrev pub world_of : WorldSeen → World
world_of w = record { table = w.table; points = map (λ s. s.point) w.sessions }

-- no session was cut
abbrev pub NoneIsCut : WorldSeen → Type 0
NoneIsCut w = (i : ℕ) (s : SessionSeen) → slice_get w.sessions i ≡ Some s → s.cut ≡ false

-- one event of session `i` over the table's own door, through which nobody else calls; the history stays legal
pub record IsWorldEvent (i : ℕ) (event : Event) (old new : WorldSeen) : Type 0 where
  pub session : SessionSeen
  pub after : SessionSeen
  pub is_session : slice_get old.sessions i ≡ Some session
  pub follows : FollowsDoor true session (of old.table.history i) old.table.history event after (of new.table.history i) new.table.history
  pub sessions : new.sessions ≡ slice_set old.sessions i after
  pub cap : new.table.cap ≡ old.table.cap
  pub legal : Legal new.table.cap new.table.history

-- events of the sessions in this order, whatever each was
abbrev pub AreWorldEvents : List ℕ → WorldSeen → WorldSeen → Type 0
AreWorldEvents [] old new = new ≡ old
AreWorldEvents (i ∷ order) old new = (event : Event) × (mid : WorldSeen) × IsWorldEvent i event old mid × AreWorldEvents order mid new
