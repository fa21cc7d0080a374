-- One event of a session: a step of an ask, a command with its table call, or a command with neither.
use Rattle.std.specs.Prelude.{◌≡◌, ℕ, zero, suc, List, [], ◌∷◌, ◌++◌, Bool, true, false, Option, Some, None, slice_get}
use Rattle.mars_tree.specs.declared.label.NameId.{NameId}
use Rattle.mars_canon.specs.Canon.{Rooted}
use Rattle.mars_script.specs.declared.script.Command.{Command}
use Rattle.mars_table.specs.declared.entry.Call.{Call}
use Rattle.mars_table.specs.declared.entry.Reply.{Reply}
use Rattle.mars_table.specs.History.{call_entry}
use Rattle.mars_session.specs.SessionPoints.{SessionPart, SessionPoint, session_start}
use Rattle.mars_session.specs.CommandActs.{TableUse, CommandAct, Writes, Uses, Asks, ActsAt, AnswersCall, call_of, use_line, names_after}
use Rattle.mars_session.specs.AskEvents.{AskEvent, IsAskEvent}

-- the present command is done, with a line
abbrev pub command_done : SessionPoint → List ℕ → SessionPoint
command_done p line = record {
  done = suc p.done;
  steps = 0;
  answer = None;
  names = p.names;
  latest = p.latest;
  mine = p.mine;
  before = p.before ++ (p.present ++ line);
  present = [];
}

-- its call was answered
abbrev pub answered : SessionPart → TableUse → Reply → SessionPoint → SessionPoint
answered part wish reply p = record {
  done = suc p.done;
  steps = 0;
  answer = None;
  names = names_after p.names wish reply;
  latest = p.latest;
  mine = p.mine ++ call_entry part.who (call_of wish) reply ∷ [];
  before = p.before ++ (p.present ++ use_line part.names wish reply);
  present = [];
}

-- the later of two answers
abbrev pub later_answer : Option Rooted → Option Rooted → Option Rooted
later_answer earlier (Some c) = Some c
later_answer earlier None = earlier

-- an event of the present ask: after its last one it is the latest ask that ran
abbrev pub stepped_by : Bool → List NameId → AskEvent → SessionPoint → SessionPoint
stepped_by true vars event p = record {
  done = suc p.done;
  steps = 0;
  answer = None;
  names = p.names;
  latest = Some (record { vars = vars; answer = later_answer p.answer event.answer });
  mine = p.mine;
  before = p.before ++ (p.present ++ event.text);
  present = [];
}
stepped_by false vars event p = record {
  done = p.done;
  steps = suc p.steps;
  answer = later_answer p.answer event.answer;
  names = p.names;
  latest = p.latest;
  mine = p.mine;
  before = p.before;
  present = p.present ++ event.text;
}

-- what is done leads from `p` to `q`; a call has some reply that answers it
abbrev pub DoesAct : SessionPart → CommandAct → SessionPoint → SessionPoint → Type 0
DoesAct part (Writes line) p q = q ≡ command_done p line
DoesAct part (Uses wish) p q = (reply : Reply) × AnswersCall (call_of wish) reply × (q ≡ answered part wish reply p)
DoesAct part (Asks ask kept) p q = (event : AskEvent) × IsAskEvent part.names part.rules ask kept part.budget p.steps event × (q ≡ stepped_by event.ends ask.vars event p)

-- one event leads from `p` to `q`: what the next command does there is done
pub record IsEvent (part : SessionPart) (p q : SessionPoint) : Type 0 where
  pub command : Command
  pub is_next : slice_get part.commands p.done ≡ Some command
  pub act : CommandAct
  pub acts : ActsAt p command act
  pub does : DoesAct part act p q

-- no command is left
abbrev pub HasNoCommand : SessionPart → SessionPoint → Type 0
HasNoCommand part p = slice_get part.commands p.done ≡ None

-- the next command makes this call
pub record WantsCall (part : SessionPart) (p : SessionPoint) (call : Call) : Type 0 where
  pub command : Command
  pub is_next : slice_get part.commands p.done ≡ Some command
  pub wish : TableUse
  pub acts : ActsAt p command (Uses wish)
  pub call_is : call ≡ call_of wish

-- so many events lead from `p` to `q`
abbrev pub AreEvents : SessionPart → ℕ → SessionPoint → SessionPoint → Type 0
AreEvents part zero p q = q ≡ p
AreEvents part (suc n) p q = (m : SessionPoint) × IsEvent part p m × AreEvents part n m q

-- events lead from the start to this point
abbrev pub ReachesPoint : SessionPart → SessionPoint → Type 0
ReachesPoint part p = (n : ℕ) × AreEvents part n (session_start part) p
