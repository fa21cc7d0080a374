-- A session as callers see it: what it was given, the point that it has come to, and whether it was cut.
use Rattle.std.specs.Prelude.{◌≡◌, ◌⊎◌, ℕ, ◌<◌, List, [], ◌++◌, length, Bool, true, false, if◌then◌else◌, None}
use Rattle.mars_table.specs.declared.entry.Call.{Call}
use Rattle.mars_table.specs.declared.entry.Reply.{Reply}
use Rattle.mars_table.specs.History.{OwnsFor}
use Rattle.mars_session.specs.declared.events.Turned.{Turned}
use Rattle.mars_session.specs.declared.events.Turned.TheVariants.{Moved, Wants, Done}
use Rattle.mars_session.specs.Lines.{memory_line}
use Rattle.mars_session.specs.SessionPoints.{SessionPart, SessionPoint, session_start}
use Rattle.mars_session.specs.CommandActs.{AnswersCall}
use Rattle.mars_session.specs.SessionEvents.{IsEvent, HasNoCommand, WantsCall, answered}

pub record SessionSeen : Type 0 where
  pub part : SessionPart
  pub point : SessionPoint
  pub cut : Bool

-- a session that did nothing
abbrev pub started_session : SessionPart → SessionSeen
started_session part = record { part = part; point = session_start part; cut = false }

-- the session at another point
abbrev pub at_point : SessionSeen → SessionPoint → SessionSeen
at_point s p = record { part = s.part; point = p; cut = false }

-- the beginning of the present command
abbrev pub restarted : SessionPoint → SessionPoint
restarted p = record {
  done = p.done;
  steps = 0;
  answer = None;
  names = p.names;
  latest = p.latest;
  mine = p.mine;
  before = p.before;
  present = [];
}

-- the session cut at its present command
abbrev pub cut_session : SessionSeen → SessionSeen
cut_session s = record { part = s.part; point = restarted s.point; cut = true }

-- what a session wrote: up to the present line, and where it was cut, that of the commands before and the line `memory`
abbrev pub session_text : SessionSeen → List ℕ
session_text s = s.point.before ++ (if s.cut then memory_line else s.point.present)

-- no command is left, or it was cut
abbrev pub IsThrough : SessionSeen → Type 0
IsThrough s = (s.cut ≡ true) ⊎ HasNoCommand s.part s.point

-- it wasn't cut, and a command is left
pub record HasMore (s : SessionSeen) : Type 0 where
  pub going : s.cut ≡ false
  pub left : s.point.done < length s.part.commands

-- one event without a table call was done
pub record MovesOn (old new : SessionSeen) : Type 0 where
  pub going : old.cut ≡ false
  pub stays : new ≡ at_point old new.point
  pub event : IsEvent old.part old.point new.point
  pub none : new.point.mine ≡ old.point.mine

-- the next event makes this call, which the session may make
pub record WantsNext (s : SessionSeen) (call : Call) : Type 0 where
  pub going : s.cut ≡ false
  pub wants : WantsCall s.part s.point call
  pub may : OwnsFor s.point.mine call

-- a call that was wanted got a reply that answers it
pub record TakesReply (old : SessionSeen) (call : Call) (reply : Reply) (new : SessionSeen) : Type 0 where
  pub wants : WantsCall old.part old.point call
  pub fits : AnswersCall call reply
  pub new_is : new ≡ at_point old (answered old.part wants.wish reply old.point)

-- what a turn answers, and what it does
abbrev pub TurnsTo : SessionSeen → Turned → SessionSeen → Type 0
TurnsTo old Moved new = MovesOn old new
TurnsTo old (Wants call) new = WantsNext old call × (new ≡ old)
TurnsTo old Done new = IsThrough old × (new ≡ old)
