-- What the code knows of a session's next command.
use Rattle.std.specs.Prelude.{◌≡◌, ⊤, ℕ, ◌+◌, List, Some, false, slice_get}
use Rattle.mars_tree.specs.Graph.{Node}
use Rattle.mars_term.specs.Clauses.{IsAsk}
use Rattle.mars_term.specs.declared.clause.Ask.{Ask}
use Rattle.mars_script.specs.declared.script.Command.{Command}
use Rattle.mars_script.specs.declared.script.Command.TheVariants as command
use Rattle.mars_table.specs.declared.entry.Call.{Call}
use Rattle.mars_table.specs.declared.entry.Reply.{Reply}
use Rattle.mars_session.specs.declared.asking.AskStepped.{AskStepped}
use Rattle.mars_session.specs.declared.asking.Asking.{Asking}
use Rattle.mars_session.specs.declared.wishes.Wish.{Wish}
use Rattle.mars_session.specs.SessionPoints.{SessionPart, SessionPoint, named_trees}
use Rattle.mars_session.specs.CommandActs.{TableUse, Writes, Uses, ActsAt, AnswersCall}
use Rattle.mars_session.specs.AskEvents.{IsAskEvent}
use Rattle.mars_session.specs.AskingInside.{IsAskGoing, event_seen}
use Rattle.mars_session.specs.SessionSeen.{SessionSeen, WantsNext}
use Rattle.mars_session.specs.WishesInside.{IsWish}

-- a command's ask, where it is one, is well formed
abbrev pub IsFormedAsk : Command → Type 0
IsFormedAsk (command.Ask ask) = IsAsk ask
IsFormedAsk _ = ⊤

-- the next command is this ask, and its kept names have these trees
pub record IsNextAsk (part : SessionPart) (p : SessionPoint) (ask : Ask) (kept : List (List Node)) : Type 0 where
  pub is_next : slice_get part.commands p.done ≡ Some (command.Ask ask)
  pub trees : named_trees p.names ask.kept ≡ Some kept

-- the machine is that of the present ask, after the steps that are done
pub record RunsAsk (part : SessionPart) (p : SessionPoint) (a : Asking) : Type 0 where
  pub ask : Ask
  pub kept : List (List Node)
  pub next : IsNextAsk part p ask kept
  pub machine : a.machine.value ≡ record { rules = part.rules; ask = ask; kept = kept; steps = p.steps; broken = false }
  pub asks : IsAskGoing part.budget a.machine.value a.answers

-- the wish stands for what the next command wants
pub record IsPending (part : SessionPart) (p : SessionPoint) (wish : Wish) : Type 0 where
  pub command : Command
  pub is_next : slice_get part.commands p.done ≡ Some command
  pub wanted : TableUse
  pub acts : ActsAt p command (Uses wanted)
  pub stands : IsWish p.names wish wanted

-- the next command writes this line, and does nothing else
pub record WritesNext (s : SessionSeen) (line : List ℕ) : Type 0 where
  pub going : s.cut ≡ false
  pub command : Command
  pub is_next : slice_get s.part.commands s.point.done ≡ Some command
  pub acts : ActsAt s.point command (Writes line)

-- the next event is that of an ask
pub record AsksNext (s : SessionSeen) (ask : Ask) (e : AskStepped) : Type 0 where
  pub going : s.cut ≡ false
  pub kept : List (List Node)
  pub next : IsNextAsk s.part s.point ask kept
  pub event : IsAskEvent s.part.names s.part.rules ask kept s.part.budget s.point.steps (event_seen e)

-- the machine after an event with which its ask goes on
pub record RunsOn (s : SessionSeen) (ask : Ask) (a : Asking) : Type 0 where
  pub kept : List (List Node)
  pub next : IsNextAsk s.part s.point ask kept
  pub machine : a.machine.value ≡ record { rules = s.part.rules; ask = ask; kept = kept; steps = s.point.steps + 1; broken = false }
  pub asks : IsAskGoing s.part.budget a.machine.value a.answers

-- the next command wants what the wish stands for
pub record WishesNext (s : SessionSeen) (wish : Wish) : Type 0 where
  pub going : s.cut ≡ false
  pub next : IsPending s.part s.point wish

-- the next event makes a call that the reply answers
abbrev pub WantsReply : SessionSeen → Reply → Type 0
WantsReply s reply = (call : Call) × WantsNext s call × AnswersCall call reply
