-- An event over the table's own door is an event of the world.
use Rattle.std.proofs.Common.{◌≡◌, List, [], ◌∷◌, ◌++◌, refl, ap, sym, ◌∙◌, subst, append-nil, inl, inr}
use Rattle.std.specs.Prelude.{slice_set}
use Rattle.mars_table.specs.declared.entry.Entry.{Entry}
use Rattle.mars_table.specs.History.{Legal, call_entry}
use Rattle.mars_table.specs.TableSeen.{uncalled, object_of}
use Rattle.mars_session.specs.declared.events.Event.TheVariants.{Moved, Called, Done, Cut}
use Rattle.mars_session.specs.SessionEvents.{HasNoCommand, IsEvent}
use Rattle.mars_session.specs.CommandActs.{Uses, AnswersCall}
use Rattle.mars_session.specs.SessionSeen.{SessionSeen, TakesReply}
use Rattle.mars_session.specs.DoorLaws.{EventIsOfTheWorld}
use Rattle.mars_session.proofs.Lists.{set_same}
use Rattle.mars_session.proofs.Tables.{replies_apart}
use Rattle.mars_session.proofs.TogetherLemmas.{taken_mine}

-- a reply that was taken is an event
taken_event : (old new : SessionSeen) (call : _) (reply : _) → TakesReply old call reply new → IsEvent old.part old.point new.point
taken_event old new call reply t = record {
  command = t.wants.command;
  is_next = t.wants.is_next;
  act = Uses t.wants.wish;
  acts = t.wants.acts;
  does = (reply, subst (λ c. AnswersCall c reply) t.wants.call_is t.fits, ap (λ (s : SessionSeen). s.point) t.new_is);
}

pub event_is_of_the_world : EventIsOfTheWorld
event_is_of_the_world parts i old s t Moved mine mine_after history is_part is_point going un legal f = record {
  part = s.part;
  point = s.point;
  is_part = is_part;
  is_point = is_point;
  event = inr (record {
    to = t.point;
    event = f.0.event;
    made = [];
    makes = f.0.none ∙ sym (append-nil s.point.mine);
    table = record { replies = tt; table = λ k. record { cap = old.table.cap; history = (f.2 ∙ sym (append-nil old.table.history)) k } };
    points = refl;
  });
}
event_is_of_the_world parts i old s t Called mine mine_after history is_part is_point going un legal (call, reply, takes, wants, calls) =
    let e : Entry = call_entry s.part.who call reply in
    let longer : history ≡ old.table.history ++ e ∷ [] = calls.sees.ends ∙ ap (λ (l : List Entry). (old.table.history ++ l) ++ e ∷ []) (calls.sees.alone refl) ∙ ap (λ (l : List Entry). l ++ e ∷ []) (append-nil old.table.history) in
    let apart = replies_apart (object_of (uncalled old.table.cap)) old.table.history (e ∷ []) (subst (λ (l : List Entry). Legal old.table.cap l) longer legal) in
    record {
      part = s.part;
      point = s.point;
      is_part = is_part;
      is_point = is_point;
      event = inr (record {
        to = t.point;
        event = taken_event s t call reply takes;
        made = e ∷ [];
        makes = taken_mine s t call reply takes;
        table = record { replies = apart.1; table = λ k. record { cap = old.table.cap; history = longer k } };
        points = refl;
      });
    }
event_is_of_the_world parts i old s t Done mine mine_after history is_part is_point going un legal f =
    let ended : HasNoCommand s.part s.point = (elim f.0 [ inl is ↦ absurd (cc (is, going)) | inr e ↦ e ]) in
    let stays : slice_set old.points i t.point ≡ old.points = ap (λ (x : SessionSeen). slice_set old.points i x.point) f.1 ∙ set_same old.points i s.point is_point in
    record {
      part = s.part;
      point = s.point;
      is_part = is_part;
      is_point = is_point;
      event = inl (ended, λ k. record { table = record { cap = old.table.cap; history = f.3 k }; points = stays k });
    }
event_is_of_the_world parts i old s t Cut mine mine_after history is_part is_point going un legal f = absurd (un refl)
