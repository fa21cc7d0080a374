-- Laws: what a session alone does is determined by its replies, and its text only grows with them; what it asks of the table it
-- may ask; the events of an ask write the ask's text; its text only grows.
use Rattle.std.specs.Prelude.{◌≡◌, ℕ, suc, ◌<◌, List, [], ◌++◌, length, Some, slice_get}
use Rattle.mars_tree.specs.Graph.{Node}
use Rattle.mars_term.specs.declared.clause.Ask.{Ask}
use Rattle.mars_script.specs.declared.script.Command.TheVariants as command
use Rattle.mars_table.specs.declared.entry.Call.{Call}
use Rattle.mars_table.specs.declared.entry.Reply.{Reply}
use Rattle.mars_table.specs.History.{OwnsFor}
use Rattle.mars_session.specs.SessionPoints.{SessionPart, SessionPoint, named_trees}
use Rattle.mars_session.specs.AskEvents.{IsAskText}
use Rattle.mars_session.specs.SessionEvents.{IsEvent, WantsCall, AreEvents, ReachesPoint}
use Rattle.mars_session.specs.SessionAlone.{BeginsWith, replies_of, IsSessionAlone}

-- an event has one result: two events from one point, whose replies are among the same ones, lead to one point
abbrev pub EventIsOne : Type 0
EventIsOne = (part : SessionPart) (given : List Reply) (p q r : SessionPoint) → IsEvent part p q → IsEvent part p r → BeginsWith (replies_of q.mine) given → BeginsWith (replies_of r.mine) given → q ≡ r

-- the session alone has one text and one list of calls
abbrev pub AloneIsOne : Type 0
AloneIsOne = (part : SessionPart) (given : List Reply) (text again : List ℕ) (made others : List Call) → IsSessionAlone part given text made → IsSessionAlone part given again others → (text ≡ again) × (made ≡ others)

-- with more replies its text begins with its text with fewer
abbrev pub AloneGrows : Type 0
AloneGrows = (part : SessionPart) (given more : List Reply) (text again : List ℕ) (made others : List Call) → IsSessionAlone part given text made → IsSessionAlone part (given ++ more) again others → BeginsWith text again

-- a call that is wanted at a point that the session reaches may be made by a caller with the session's entries
abbrev pub CallsAreAllowed : Type 0
CallsAreAllowed = (part : SessionPart) (p : SessionPoint) (call : Call) → ReachesPoint part p → WantsCall part p call → OwnsFor p.mine call

-- the text of a session with what the present ask wrote so far only grows
abbrev pub TextsGrow : Type 0
TextsGrow = (part : SessionPart) (p q : SessionPoint) → IsEvent part p q → BeginsWith (p.before ++ p.present) (q.before ++ q.present)

-- an ask is begun: its kept names have these trees, and no event of it was done
pub record BeginsAsk (part : SessionPart) (p : SessionPoint) (ask : Ask) (kept : List (List Node)) : Type 0 where
  pub is_next : slice_get part.commands p.done ≡ Some (command.Ask ask)
  pub trees : named_trees p.names ask.kept ≡ Some kept
  pub none_done : p.steps ≡ 0
  pub none_written : p.present ≡ []

-- the events of an ask, up to the one with which it is done, write the whole text of the ask
abbrev pub AskWritesItsText : Type 0
AskWritesItsText = (part : SessionPart) (n : ℕ) (p m q : SessionPoint) (ask : Ask) (kept : List (List Node)) → BeginsAsk part p ask kept → AreEvents part n p m → m.done ≡ p.done → IsEvent part m q → q.done ≡ suc p.done →
    (text : List ℕ) × IsAskText part.names part.rules ask kept part.budget text × (q.before ≡ p.before ++ text)

-- a command is done, or one step more of its ask, which is less than the budget
pub data Advances (part : SessionPart) (p q : SessionPoint) : Type 0 where
  command_more : q.done ≡ suc p.done → q.steps ≡ 0 → Advances part p q
  step_more : q.done ≡ p.done → q.steps ≡ suc p.steps → q.steps < part.budget → Advances part p q

-- so each event does, while a command is left: a session comes to its end
abbrev pub EventsAdvance : Type 0
EventsAdvance = (part : SessionPart) (p q : SessionPoint) → ReachesPoint part p → IsEvent part p q → (p.done < length part.commands) × Advances part p q
