-- A call that was answered through a door.
use Rattle.std.proofs.Common.{◌≡◌, ℕ, List, [], ◌∷◌, ◌++◌, ap, sym, ◌∙◌, subst, inr}
use Rattle.std.specs.Prelude.{Bool}
use Rattle.std.proofs.lemmas.Option.{slice_get_within}
use Rattle.mars_rows.specs.Object.{TableObject, empty_table}
use Rattle.mars_rows.specs.RowsObject.{Adding, add}
use Rattle.mars_rows.specs.RowsObject.Adding.{root, too_many}
use Rattle.mars_table.specs.declared.entry.Call.{Call}
use Rattle.mars_table.specs.declared.entry.Call.TheVariants.{Intern, Pin, Show, Drop, Sweep, Count}
use Rattle.mars_table.specs.declared.entry.Reply.{Reply}
use Rattle.mars_table.specs.declared.entry.Entry.{Entry}
use Rattle.mars_table.specs.Calls.{IsReply, reply_to_adding}
use Rattle.mars_table.specs.Door.{SeesMore}
use Rattle.mars_table.specs.History.{Legal, call_entry}
use Rattle.mars_table.proofs.HistoryLemmas.{replies_after}
use Rattle.mars_session.specs.declared.events.Event.TheVariants.{Called}
use Rattle.mars_session.specs.CommandActs.{AnswersCall}
use Rattle.mars_session.specs.SessionEvents.{WantsCall}
use Rattle.mars_session.specs.SessionSeen.{SessionSeen, HasMore, WantsNext, TakesReply, cut_session}
use Rattle.mars_session.specs.DoorEvents.{IsAtDoor, CallsDoor, CutsShort, FollowsDoor}
use Rattle.mars_session.specs.NextInside.{WantsReply}

-- The table's reply to a call answers it.
adding_fits : (tree : _) (limit : ℕ) (a : Adding) → AnswersCall (Intern tree) (reply_to_adding limit a)
adding_fits tree limit (root h new) = tt
adding_fits tree limit (too_many rows fresh) = tt

pub reply_fits : (t : TableObject) (call : Call) (reply : Reply) → IsReply t call reply → AnswersCall call reply
reply_fits t (Intern tree) reply is = subst (λ (r : Reply). AnswersCall (Intern tree) r) (sym is) (adding_fits tree t.limit (add t tree))
reply_fits t (Pin h) reply is = subst (λ (r : Reply). AnswersCall (Pin h) r) (sym is) tt
reply_fits t (Show h) reply is = subst (λ (r : Reply). AnswersCall (Show h) r) (sym is.is) tt
reply_fits t (Drop h) reply is = subst (λ (r : Reply). AnswersCall (Drop h) r) (sym is) tt
reply_fits t Sweep reply is = subst (λ (r : Reply). AnswersCall Sweep r) (sym is) tt
reply_fits t Count reply is = subst (λ (r : Reply). AnswersCall Count r) (sym is) tt

pub door_fits : (lone : Bool) (cap who : ℕ) (call : Call) (reply : Reply) (seen after : List Entry) → SeesMore lone seen after (call_entry who call reply) → Legal cap after → AnswersCall call reply
door_fits lone cap who call reply seen after sees legal =
    let last = replies_after (empty_table cap) (seen ++ sees.between) (call_entry who call reply ∷ []) (subst (λ (l : List Entry). Legal cap l) sees.ends legal) in
    reply_fits _ call reply last.1

pub has_more : (s : SessionSeen) (call : Call) → WantsNext s call → HasMore s
has_more s call w = record { going = w.going; left = slice_get_within s.part.commands s.point.done w.wants.command w.wants.is_next }

-- the session's entries after its reply
pub taken_mine : (old new : SessionSeen) (call : Call) (reply : Reply) → TakesReply old call reply new → new.point.mine ≡ old.point.mine ++ call_entry old.part.who call reply ∷ []
taken_mine old new call reply t = ap (λ (s : SessionSeen). s.point.mine) t.new_is ∙ ap (λ (c : Call). old.point.mine ++ call_entry old.part.who c reply ∷ []) (sym t.wants.call_is)

module _ (lone : Bool) (cap : ℕ) (old mid : SessionSeen) (call : Call) (reply : Reply) (who : ℕ) (mine seen mine_after seen_after : List Entry) (w : WantsNext old call × (mid ≡ old)) (number : who ≡ old.part.who)
    (more : mine_after ≡ mine ++ call_entry who call reply ∷ []) (sees : SeesMore lone seen seen_after (call_entry who call reply)) (legal : Legal cap seen_after) where
  pub takes_requires : WantsReply mid reply
  takes_requires = (call, subst (λ (s : SessionSeen). WantsNext s call) (sym w.1) w.0, door_fits lone cap who call reply seen seen_after sees legal)

  pub called_door : CallsDoor lone call reply old mine seen mine_after seen_after
  called_door = record {
    more = more ∙ ap (λ (k : ℕ). mine ++ call_entry k call reply ∷ []) number;
    sees = subst (λ (k : ℕ). SeesMore lone seen seen_after (call_entry k call reply)) number sees;
  }

  pub cut_after_call : (new : SessionSeen) → new ≡ cut_session mid → CutsShort lone old mine seen new mine_after seen_after
  cut_after_call new is = record {
    went = has_more old call w.0;
    cut = is ∙ ap cut_session w.1;
    door = inr (call, reply, w.0, door_fits lone cap who call reply seen seen_after sees legal, called_door);
  }

  taken : (new : SessionSeen) → ((c : Call) → WantsCall mid.part mid.point c → TakesReply mid c reply new) → TakesReply old call reply new
  taken new takes = subst (λ (s : SessionSeen). TakesReply s call reply new) w.1 (takes call (subst (λ (s : SessionSeen). WantsCall s.part s.point call) (sym w.1) w.0.wants))

  pub taken_at : (new : SessionSeen) → ((c : Call) → WantsCall mid.part mid.point c → TakesReply mid c reply new) → IsAtDoor old mine → mine_after ≡ new.point.mine
  taken_at new takes at = called_door.more ∙ ap (λ (l : List Entry). l ++ call_entry old.part.who call reply ∷ []) (at w.0.going) ∙ sym (taken_mine old new call reply (taken new takes))

  pub taken_follows : (new : SessionSeen) → ((c : Call) → WantsCall mid.part mid.point c → TakesReply mid c reply new) → FollowsDoor lone old mine seen Called new mine_after seen_after
  taken_follows new takes = (call, reply, taken new takes, w.0, called_door)
