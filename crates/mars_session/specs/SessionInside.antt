-- Inside a session: its fields as contracts see them, and what the code knows of the ask that runs and of the call that is wanted.
use Rattle.std.specs.Prelude.{◌≡◌, Some, All}
use Rattle.mars_session.specs.declared.asking.Asking.{Asking}
use Rattle.mars_session.specs.declared.wishes.Wish.{Wish}
use Rattle.mars_session.specs.declared.session.Session.TheInside.{Inside}
use Rattle.mars_session.specs.SessionPoints.{SessionPart, SessionPoint}
use Rattle.mars_session.specs.SessionSeen.{SessionSeen}
use Rattle.mars_session.specs.SessionEvents.{ReachesPoint}
use Rattle.mars_session.specs.ActsInside.{latest_of}
use Rattle.mars_session.specs.AskingInside.{answer_canon}
use Rattle.mars_session.specs.NextInside.{RunsAsk, IsPending, IsFormedAsk}

abbrev pub part_in : Inside → SessionPart
part_in p = record { who = p.who; name = p.name; commands = p.commands.now; rules = p.rules.now; names = p.names.now; budget = p.budget }

abbrev pub point_in : Inside → SessionPoint
point_in p = record {
  done = p.done;
  steps = p.steps;
  answer = answer_canon p.answer;
  names = p.map.items;
  latest = latest_of p.latest;
  mine = p.mine.items;
  before = p.text.before;
  present = p.text.present;
}

abbrev pub seen_in : Inside → SessionSeen
seen_in p = record { part = part_in p; point = point_in p; cut = p.text.cut }

pub record IsSessionKept (p : Inside) : Type 0 where
  pub reached : ReachesPoint (part_in p) (point_in p)
  pub asks : All IsFormedAsk p.commands.now
  pub runs : (a : Asking) → p.asking ≡ Some a → RunsAsk (part_in p) (point_in p) a
  pub waits : (w : Wish) → p.pending ≡ Some w → IsPending (part_in p) (point_in p) w
