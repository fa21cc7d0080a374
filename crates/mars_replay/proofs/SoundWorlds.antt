-- What each event of a world keeps.
use Rattle.std.proofs.Common.{◌≡◌, ◌≢◌, ℕ, zero, ◌<◌, List, [], ◌∷◌, ◌++◌, length, map, refl, ap, sym, ◌∙◌, subst, arith, inl, inr}
use Rattle.std.specs.Prelude.{Some, true, slice_get, slice_set, All}
use Rattle.std.proofs.lemmas.List.Elements.{All-nil, All-append}
use Rattle.std.proofs.lemmas.Bool.Decides.{eqb_tells}
use Rattle.std.proofs.lemmas.Option.{slice_get_within}
use Rattle.mars_table.specs.declared.entry.Entry.{Entry}
use Rattle.mars_table.specs.History.{of}
use Rattle.mars_session.specs.declared.events.Event.{Event}
use Rattle.mars_session.specs.SessionPoints.{SessionPart}
use Rattle.mars_session.specs.SessionEvents.{ReachesPoint}
use Rattle.mars_session.specs.SessionSeen.{SessionSeen, started_session}
use Rattle.mars_session.specs.Together.{IsWithEntries}
use Rattle.mars_session.specs.WorldLaws.{NumberedInOrder}
use Rattle.mars_session.proofs.Lists.{get_set_same, get_set_other, length_set}
use Rattle.mars_session.proofs.TogetherLemmas.{events_keep_entries}
use Rattle.mars_replay.specs.WorldSeen.{WorldSeen, started_world, IsWorldEvent, AreWorldEvents}
use Rattle.mars_replay.specs.WorldInside.{IsSoundWorld}
use Rattle.mars_replay.proofs.Mapped.{map_place}
use Rattle.mars_replay.proofs.Followed.{Made, event_makes, others_stay, part_stays}
use Rattle.mars_replay.proofs.Reached.{event_reaches}

pub event_count : (i : ℕ) (event : Event) (old new : WorldSeen) → IsWorldEvent i event old new → length new.sessions ≡ length old.sessions
event_count i event old new e = ap (λ (l : List SessionSeen). length l) e.sessions ∙ length_set old.sessions i e.after

pub event_made : (i : ℕ) (event : Event) (old new : WorldSeen) → (e : IsWorldEvent i event old new) → Made e.session.part.who old.table.history new.table.history
event_made i event old new e = event_makes e.session e.after (of old.table.history i) old.table.history event (of new.table.history i) new.table.history e.follows

pub event_part : (i : ℕ) (event : Event) (old new : WorldSeen) → (e : IsWorldEvent i event old new) → e.after.part ≡ e.session.part
event_part i event old new e = part_stays e.session e.after (of old.table.history i) old.table.history event (of new.table.history i) new.table.history e.follows

-- the session of a place after an event: that of the event, or one that stays
pub data After (i : ℕ) (event : Event) (old new : WorldSeen) (e : IsWorldEvent i event old new) (j : ℕ) (t : SessionSeen) : Type 0 where
  this : j ≡ i → t ≡ e.after → After i event old new e j t
  other : j ≢ i → slice_get old.sessions j ≡ Some t → After i event old new e j t

pub after_at : (i : ℕ) (event : Event) (old new : WorldSeen) (e : IsWorldEvent i event old new) (j : ℕ) (t : SessionSeen) → slice_get new.sessions j ≡ Some t → After i event old new e j t
after_at i event old new e j t is =
    let at_set : slice_get (slice_set old.sessions i e.after) j ≡ Some t = sym (ap (λ (l : List SessionSeen). slice_get l j) e.sessions) ∙ is in
    elim (eqb_tells j i) [
      | inl k ↦
          let here : slice_get (slice_set old.sessions i e.after) i ≡ Some t = subst (λ (x : ℕ). slice_get (slice_set old.sessions i e.after) x ≡ Some t) k.1 at_set in
          let there = get_set_same old.sessions i e.session e.after e.is_session in
          this k.1 (cc (here, there))
      | inr k ↦ other k.1 (sym (get_set_other old.sessions i j e.after k.1) ∙ at_set)
    ]

pub event_sound : (i : ℕ) (event : Event) (old new : WorldSeen) → IsWorldEvent i event old new → IsSoundWorld old → IsSoundWorld new
event_sound i event old new e h =
    let who : e.session.part.who ≡ i = h.numbered i e.session e.is_session in
    let made = event_made i event old new e in
    let count = event_count i event old new e in
    let within = slice_get_within old.sessions i e.session e.is_session in
    let own_all : All (λ (x : Entry). x.who < length new.sessions) (old.table.history ++ made.made) = All-append (λ (x : Entry). x.who < length new.sessions) old.table.history made.made
    (λ k d lt. let at = h.own k d lt in omega (arith, at, count))
    (λ k d lt. let at = made.own k d lt in omega (arith, at, who, within, count)) in
    record {
      legal = e.legal;
      own = subst (λ (l : List Entry). All (λ (x : Entry). x.who < length new.sessions) l) (sym made.is) own_all;
      numbered = λ j t is. elim (after_at i event old new e j t is) [
        | this k same ↦ ap (λ (x : SessionSeen). x.part.who) same ∙ ap (λ (x : SessionPart). x.who) (event_part i event old new e) ∙ who ∙ sym k
        | other k at ↦ h.numbered j t at
      ];
      reached = λ j t is. elim (after_at i event old new e j t is) [
        | this k same ↦ subst (λ (x : SessionSeen). ReachesPoint x.part x.point) (sym same)
            (event_reaches e.session e.after (of old.table.history i) old.table.history event (of new.table.history i) new.table.history (h.reached i e.session e.is_session) e.follows)
        | other k at ↦ h.reached j t at
      ];
      entries = λ j t is. elim (after_at i event old new e j t is) [
        | this k same ↦ subst (λ (x : SessionSeen). IsWithEntries x (of new.table.history j)) (sym same) (subst (λ (x : ℕ). IsWithEntries e.after (of new.table.history x)) (sym k)
            (events_keep_entries true e.session (of old.table.history i) old.table.history event e.after (of new.table.history i) new.table.history (h.entries i e.session e.is_session) e.follows))
        | other k at ↦ subst (λ (l : List Entry). IsWithEntries t l) (sym (others_stay e.session.part.who j old.table.history new.table.history (λ same. k (same ∙ who)) made)) (h.entries j t at)
      ];
    }

pub events_sound : (order : List ℕ) (old new : WorldSeen) → AreWorldEvents order old new → IsSoundWorld old → IsSoundWorld new
events_sound [] old new a h = subst IsSoundWorld (sym a) h
events_sound (i ∷ order) old new a h = events_sound order a.1 new a.3 (event_sound i a.0 old a.1 a.2 h)

pub events_count : (order : List ℕ) (old new : WorldSeen) → AreWorldEvents order old new → length new.sessions ≡ length old.sessions
events_count [] old new a = ap (λ (w : WorldSeen). length w.sessions) a
events_count (i ∷ order) old new a = events_count order a.1 new a.3 ∙ event_count i a.0 old a.1 a.2

pub events_cap : (order : List ℕ) (old new : WorldSeen) → AreWorldEvents order old new → new.table.cap ≡ old.table.cap
events_cap [] old new a = ap (λ (w : WorldSeen). w.table.cap) a
events_cap (i ∷ order) old new a = events_cap order a.1 new a.3 ∙ a.2.cap

pub events_join : (xs ys : List ℕ) (old mid new : WorldSeen) → AreWorldEvents xs old mid → AreWorldEvents ys mid new → AreWorldEvents (xs ++ ys) old new
events_join [] ys old mid new a b = subst (λ (w : WorldSeen). AreWorldEvents ys w new) a b
events_join (i ∷ xs) ys old mid new a b = (a.0, a.1, a.2, events_join xs ys a.1 mid new a.3 b)

-- the beginning
pub started_sound : (parts : List SessionPart) (rows : ℕ) → NumberedInOrder parts → IsSoundWorld (started_world parts rows)
started_sound parts rows numbered = record {
  legal = tt;
  own = All-nil (λ (e : Entry). e.who < length (map started_session parts));
  numbered = λ i s is. let p = map_place started_session parts i s is in ap (λ (x : SessionSeen). x.part.who) p.2 ∙ numbered i p.0 p.1;
  reached = λ i s is. let p = map_place started_session parts i s is in subst (λ (x : SessionSeen). ReachesPoint x.part x.point) (sym p.2) (zero, refl);
  entries = λ i s is. let p = map_place started_session parts i s is in subst (λ (x : SessionSeen). IsWithEntries x []) (sym p.2) (record { going = λ e. refl; cut = λ e. absurd (cc e) });
}
