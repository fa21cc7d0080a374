-- Sessions as jobs: what a job shows of its session, which entry one that was cut may lack, and what events make of it.
use Rattle.std.specs.Prelude.{◌≡◌, ◌<◌, length, true}
use Rattle.mars_table.specs.declared.entry.Call.{Call}
use Rattle.mars_table.specs.declared.entry.Reply.{Reply}
use Rattle.mars_table.specs.declared.entry.Entry.{Entry}
use Rattle.mars_table.specs.History.{call_entry}
use Rattle.mars_session.specs.CommandActs.{AnswersCall}
use Rattle.mars_session.specs.SessionEvents.{WantsCall, ReachesPoint}
use Rattle.mars_session.specs.SessionSeen.{SessionSeen, IsThrough}
use Rattle.mars_gate.specs.Jobs.{JobSeen}

-- the session's number, its calls with the replies that it took, and whether it was cut
abbrev pub session_job : SessionSeen → JobSeen
session_job s = record { number = s.part.who; calls = s.point.mine; cut = s.cut }

-- the call of the present command, with a reply that answers it
pub record LacksReply (s : SessionSeen) (e : Entry) : Type 0 where
  pub call : Call
  pub reply : Reply
  pub wants : WantsCall s.part s.point call
  pub answers : AnswersCall call reply
  pub entry_is : e ≡ call_entry s.part.who call reply

-- where it was cut a command is left
abbrev pub LeavesCommand : SessionSeen → Type 0
LeavesCommand s = s.cut ≡ true → s.point.done < length s.part.commands

-- the same session after some events: where they cut it they leave a command
pub record IsLaterSession (old new : SessionSeen) : Type 0 where
  pub part : new.part ≡ old.part
  pub leaves : LeavesCommand old → LeavesCommand new

-- it is through, at a point that it reaches
pub record HasComeThrough (s : SessionSeen) : Type 0 where
  pub through : IsThrough s
  pub reached : ReachesPoint s.part s.point
