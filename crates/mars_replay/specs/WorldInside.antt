-- Inside a world: its history is legal and its sessions' own, each session is where the entries of its number lead, and there is
-- a number for the caller after all sessions.
use Rattle.std.specs.Prelude.{◌≡◌, ℕ, ◌<◌, ◌^◌, length, Some, slice_get, All}
use Rattle.mars_table.specs.History.{Legal, of}
use Rattle.mars_session.specs.SessionEvents.{ReachesPoint}
use Rattle.mars_session.specs.SessionSeen.{SessionSeen}
use Rattle.mars_session.specs.Together.{IsWithEntries}
use Rattle.mars_replay.specs.WorldSeen.{WorldSeen}

pub record IsSoundWorld (w : WorldSeen) : Type 0 where
  pub legal : Legal w.table.cap w.table.history
  pub own : All (λ e. e.who < length w.sessions) w.table.history
  pub numbered : (i : ℕ) (s : SessionSeen) → slice_get w.sessions i ≡ Some s → s.part.who ≡ i
  pub reached : (i : ℕ) (s : SessionSeen) → slice_get w.sessions i ≡ Some s → ReachesPoint s.part s.point
  pub entries : (i : ℕ) (s : SessionSeen) → slice_get w.sessions i ≡ Some s → IsWithEntries s (of w.table.history i)

pub record IsKeptWorld (w : WorldSeen) : Type 0 where
  pub sound : IsSoundWorld w
  pub few : length w.sessions < 2 ^ 32
