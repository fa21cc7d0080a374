-- What an event over the table's own door leaves: the session's part, and the entries of others.
use Rattle.std.proofs.Common.{◌≡◌, ◌≢◌, ℕ, List, [], ◌∷◌, ◌++◌, refl, ap, sym, ◌∙◌, append-nil, inl, inr}
use Rattle.std.specs.Prelude.{true, All}
use Rattle.std.proofs.lemmas.List.Elements.{All-nil, All-cons}
use Rattle.mars_table.specs.declared.entry.Call.{Call}
use Rattle.mars_table.specs.declared.entry.Reply.{Reply}
use Rattle.mars_table.specs.declared.entry.Entry.{Entry}
use Rattle.mars_table.specs.History.{call_entry, of}
use Rattle.mars_session.specs.declared.events.Event.{Event}
use Rattle.mars_session.specs.declared.events.Event.TheVariants.{Moved, Called, Done, Cut}
use Rattle.mars_session.specs.SessionSeen.{SessionSeen}
use Rattle.mars_session.specs.DoorEvents.{CallsDoor, FollowsDoor}
use Rattle.mars_session.proofs.Worlds.{of_append, of_others}

-- more entries, all of one session
pub record Made (who : ℕ) (old new : List Entry) : Type 0 where
  pub made : List Entry
  pub is : new ≡ old ++ made
  pub own : All (λ (e : Entry). e.who ≡ who) made

pub longer : (s : SessionSeen) (call : Call) (reply : Reply) (mine old mine_after new : List Entry) → CallsDoor true call reply s mine old mine_after new → new ≡ old ++ call_entry s.part.who call reply ∷ []
longer s call reply mine old mine_after new calls =
    let e : Entry = call_entry s.part.who call reply in
    calls.sees.ends ∙ ap (λ (l : List Entry). (old ++ l) ++ e ∷ []) (calls.sees.alone refl) ∙ ap (λ (l : List Entry). l ++ e ∷ []) (append-nil old)

made_none : (who : ℕ) (old new : List Entry) → new ≡ old → Made who old new
made_none who old new same = record { made = []; is = same ∙ sym (append-nil old); own = All-nil (λ (e : Entry). e.who ≡ who) }

made_one : (s : SessionSeen) (call : Call) (reply : Reply) (mine old mine_after new : List Entry) → CallsDoor true call reply s mine old mine_after new → Made s.part.who old new
made_one s call reply mine old mine_after new calls = record {
  made = call_entry s.part.who call reply ∷ [];
  is = longer s call reply mine old mine_after new calls;
  own = All-cons (λ (e : Entry). e.who ≡ s.part.who) (call_entry s.part.who call reply) [] refl (All-nil (λ (e : Entry). e.who ≡ s.part.who));
}

pub event_makes : (s t : SessionSeen) (mine old : List Entry) (event : Event) (mine_after new : List Entry) → FollowsDoor true s mine old event t mine_after new → Made s.part.who old new
event_makes s t mine old Moved mine_after new f = made_none s.part.who old new f.2
event_makes s t mine old Done mine_after new f = made_none s.part.who old new f.3
event_makes s t mine old Called mine_after new (call, reply, takes, wants, calls) = made_one s call reply mine old mine_after new calls
event_makes s t mine old Cut mine_after new f = elim f.door [
  | inl same ↦ made_none s.part.who old new same.1
  | inr c ↦ made_one s c.0 c.1 mine old mine_after new c.4
]

pub others_stay : (who j : ℕ) (old new : List Entry) → j ≢ who → Made who old new → of new j ≡ of old j
others_stay who j old new ne m =
    ap (λ (l : List Entry). of l j) m.is ∙ of_append old m.made j ∙ ap (λ (l : List Entry). of old j ++ l) (of_others m.made j who (λ same. ne (sym same)) m.own) ∙ append-nil (of old j)

pub part_stays : (s t : SessionSeen) (mine old : List Entry) (event : Event) (mine_after new : List Entry) → FollowsDoor true s mine old event t mine_after new → t.part ≡ s.part
part_stays s t mine old Moved mine_after new f = ap (λ (x : SessionSeen). x.part) f.0.stays
part_stays s t mine old Done mine_after new f = ap (λ (x : SessionSeen). x.part) f.1
part_stays s t mine old Called mine_after new (call, reply, takes, wants, calls) = ap (λ (x : SessionSeen). x.part) takes.new_is
part_stays s t mine old Cut mine_after new f = ap (λ (x : SessionSeen). x.part) f.cut
