-- Law: an event of a session over the table's own door is an event of the world.
use Rattle.std.specs.Prelude.{◌≡◌, ◌≢◌, ℕ, List, Some, slice_get, slice_set, true, false}
use Rattle.mars_table.specs.declared.entry.Entry.{Entry}
use Rattle.mars_table.specs.History.{Legal}
use Rattle.mars_session.specs.declared.events.Event.{Event}
use Rattle.mars_session.specs.declared.events.Event.TheVariants.{Cut}
use Rattle.mars_session.specs.SessionPoints.{SessionPart}
use Rattle.mars_session.specs.SessionSeen.{SessionSeen}
use Rattle.mars_session.specs.DoorEvents.{FollowsDoor}
use Rattle.mars_session.specs.Worlds.{World, Happens}

-- the world after a session has come to a point, with this history
abbrev pub world_with : World → ℕ → SessionSeen → List Entry → World
world_with old i s history = record { table = record { cap = old.table.cap; history = history }; points = slice_set old.points i s.point }

-- where a session that isn't cut has an event over a door to the table, alone, which doesn't cut it, this happens in the world
abbrev pub EventIsOfTheWorld : Type 0
EventIsOfTheWorld = (parts : List SessionPart) (i : ℕ) (old : World) (s t : SessionSeen) (event : Event) (mine mine_after history : List Entry) →
    slice_get parts i ≡ Some s.part → slice_get old.points i ≡ Some s.point → s.cut ≡ false → event ≢ Cut → Legal old.table.cap history →
    FollowsDoor true s mine old.table.history event t mine_after history → Happens parts i old (world_with old i t history)
