-- One event of a session over a door: what the session, the door's entries and what the door has seen are after it.
use Rattle.std.specs.Prelude.{◌≡◌, ◌⊎◌, List, [], ◌∷◌, ◌++◌, Bool, false}
use Rattle.mars_table.specs.declared.entry.Call.{Call}
use Rattle.mars_table.specs.declared.entry.Reply.{Reply}
use Rattle.mars_table.specs.declared.entry.Entry.{Entry}
use Rattle.mars_table.specs.History.{call_entry}
use Rattle.mars_table.specs.Door.{SeesMore}
use Rattle.mars_session.specs.declared.events.Event.{Event}
use Rattle.mars_session.specs.declared.events.Event.TheVariants.{Moved, Called, Done, Cut}
use Rattle.mars_session.specs.CommandActs.{AnswersCall}
use Rattle.mars_session.specs.SessionSeen.{SessionSeen, IsThrough, HasMore, MovesOn, WantsNext, TakesReply, cut_session}

-- the session was cut, or the door's entries are its calls with the replies that it took
abbrev pub IsAtDoor : SessionSeen → List Entry → Type 0
IsAtDoor s mine = s.cut ≡ false → mine ≡ s.point.mine

-- a call was answered through the door
pub record CallsDoor (lone : Bool) (call : Call) (reply : Reply) (old : SessionSeen) (mine seen mine_after seen_after : List Entry) : Type 0 where
  pub more : mine_after ≡ mine ++ call_entry old.part.who call reply ∷ []
  pub sees : SeesMore lone seen seen_after (call_entry old.part.who call reply)

-- out of memory, before the present command's call or after it
pub record CutsShort (lone : Bool) (old : SessionSeen) (mine seen : List Entry) (new : SessionSeen) (mine_after seen_after : List Entry) : Type 0 where
  pub went : HasMore old
  pub cut : new ≡ cut_session old
  pub door : ((mine_after ≡ mine) × (seen_after ≡ seen)) ⊎ ((call : Call) × (reply : Reply) × WantsNext old call × AnswersCall call reply × CallsDoor lone call reply old mine seen mine_after seen_after)

-- the event of a session over a door, by what it was
abbrev pub FollowsDoor : Bool → SessionSeen → List Entry → List Entry → Event → SessionSeen → List Entry → List Entry → Type 0
FollowsDoor lone old mine seen Moved new mine_after seen_after = MovesOn old new × (mine_after ≡ mine) × (seen_after ≡ seen)
FollowsDoor lone old mine seen Called new mine_after seen_after = (call : Call) × (reply : Reply) × TakesReply old call reply new × WantsNext old call × CallsDoor lone call reply old mine seen mine_after seen_after
FollowsDoor lone old mine seen Done new mine_after seen_after = IsThrough old × (new ≡ old) × (mine_after ≡ mine) × (seen_after ≡ seen)
FollowsDoor lone old mine seen Cut new mine_after seen_after = CutsShort lone old mine seen new mine_after seen_after
