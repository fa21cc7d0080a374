-- The session alone: its text and its table calls are functions of its script and of the replies that it got.
use Rattle.std.specs.Prelude.{◌≡◌, ℕ, List, [], ◌∷◌, ◌++◌, map}
use Rattle.mars_table.specs.declared.entry.Call.{Call}
use Rattle.mars_table.specs.declared.entry.Reply.{Reply}
use Rattle.mars_table.specs.declared.entry.Entry.{Entry}
use Rattle.mars_session.specs.SessionPoints.{SessionPart, SessionPoint}
use Rattle.mars_session.specs.SessionEvents.{HasNoCommand, WantsCall, ReachesPoint}

-- the second list begins with the first
abbrev pub BeginsWith : {A : Type 0} → List A → List A → Type 0
BeginsWith {A} xs ys = (rest : List A) × (ys ≡ xs ++ rest)

-- the replies of entries, and their calls
abbrev pub replies_of : List Entry → List Reply
replies_of mine = map (λ e. e.reply) mine

abbrev pub calls_of : List Entry → List Call
calls_of mine = map (λ e. e.call) mine

-- with these replies a session comes to `p` and no further: to its end, or to the first call for which there is no reply, which
-- is then its last call
pub data ComesTo (part : SessionPart) (given : List Reply) (p : SessionPoint) : List Call → Type 0 where
  at_end : HasNoCommand part p → BeginsWith (replies_of p.mine) given → ComesTo part given p (calls_of p.mine)
  at_call : (call : Call) → WantsCall part p call → replies_of p.mine ≡ given → ComesTo part given p (calls_of p.mine ++ call ∷ [])

-- the session alone, with these replies: what it writes, and the calls that it makes
pub record IsSessionAlone (part : SessionPart) (given : List Reply) (text : List ℕ) (made : List Call) : Type 0 where
  pub point : SessionPoint
  pub reached : ReachesPoint part point
  pub comes : ComesTo part given point made
  pub text_is : text ≡ point.before
