-- Events of a world in which no session is cut are those of the schedule's world.
use Rattle.std.proofs.Common.{◌≡◌, ℕ, List, [], ◌∷◌, map, ap, sym, ◌∙◌, subst, inl, inr}
use Rattle.std.specs.Prelude.{Some, slice_get, slice_set, true, false}
use Rattle.std.proofs.lemmas.Bool.Decides.{eqb_tells}
use Rattle.mars_table.specs.declared.entry.Entry.{Entry}
use Rattle.mars_table.specs.History.{Legal, of}
use Rattle.mars_session.specs.declared.events.Event.{Event}
use Rattle.mars_session.specs.declared.events.Event.TheVariants.{Moved, Called, Done, Cut}
use Rattle.mars_session.specs.SessionPoints.{SessionPart}
use Rattle.mars_session.specs.SessionSeen.{SessionSeen}
use Rattle.mars_session.specs.DoorEvents.{FollowsDoor}
use Rattle.mars_session.specs.DoorLaws.{world_with}
use Rattle.mars_session.proofs.Happenings.{event_is_of_the_world}
use Rattle.mars_session.specs.Worlds.{World, Happens, Plays}
use Rattle.mars_session.proofs.Lists.{set_same, get_set_same, get_set_other}
use Rattle.mars_replay.specs.WorldSeen.{WorldSeen, seen_parts, world_of, NoneIsCut, IsWorldEvent, AreWorldEvents}
use Rattle.mars_replay.proofs.Mapped.{map_get, map_set}
use Rattle.mars_replay.proofs.SoundWorlds.{event_part}

-- The parts stay.

pub event_parts : (i : ℕ) (event : Event) (old new : WorldSeen) → IsWorldEvent i event old new → seen_parts new ≡ seen_parts old
event_parts i event old new e =
    ap (λ (l : List SessionSeen). map (λ (s : SessionSeen). s.part) l) e.sessions ∙ map_set (λ (s : SessionSeen). s.part) old.sessions i e.after
    ∙ ap (λ (p : SessionPart). slice_set (seen_parts old) i p) (event_part i event old new e)
    ∙ set_same (seen_parts old) i e.session.part (map_get (λ (s : SessionSeen). s.part) old.sessions i e.session e.is_session)

pub events_parts : (order : List ℕ) (old new : WorldSeen) → AreWorldEvents order old new → seen_parts new ≡ seen_parts old
events_parts [] old new a = ap seen_parts a
events_parts (i ∷ order) old new a = events_parts order a.1 new a.3 ∙ event_parts i a.0 old a.1 a.2

-- What was cut stays cut.

pub not_cut : (s t : SessionSeen) (mine seen : List Entry) (event : Event) (mine_after seen_after : List Entry) → FollowsDoor true s mine seen event t mine_after seen_after → t.cut ≡ false → s.cut ≡ false
not_cut s t mine seen Moved mine_after seen_after f e = f.0.going
not_cut s t mine seen Called mine_after seen_after (call, reply, takes, wants, calls) e = wants.going
not_cut s t mine seen Done mine_after seen_after f e = sym (ap (λ (x : SessionSeen). x.cut) f.1) ∙ e
not_cut s t mine seen Cut mine_after seen_after f e = f.went.going

pub after_event : (i : ℕ) (event : Event) (old new : WorldSeen) → (e : IsWorldEvent i event old new) → slice_get new.sessions i ≡ Some e.after
after_event i event old new e = ap (λ (l : List SessionSeen). slice_get l i) e.sessions ∙ get_set_same old.sessions i e.session e.after e.is_session

pub stayed_at : (i j : ℕ) (event : Event) (old new : WorldSeen) (s : SessionSeen) → (e : IsWorldEvent i event old new) → (j ≡ i → ⊥) → slice_get old.sessions j ≡ Some s → slice_get new.sessions j ≡ Some s
stayed_at i j event old new s e ne is = ap (λ (l : List SessionSeen). slice_get l j) e.sessions ∙ get_set_other old.sessions i j e.after ne ∙ is

pub event_uncut : (i : ℕ) (event : Event) (old new : WorldSeen) → IsWorldEvent i event old new → NoneIsCut new → NoneIsCut old
event_uncut i event old new e none j s is = elim (eqb_tells j i) [
  | inl k ↦
      let same : e.session ≡ s = (cc (e.is_session, subst (λ (x : ℕ). slice_get old.sessions x ≡ Some s) k.1 is)) in
      subst (λ (x : SessionSeen). x.cut ≡ false) same
      (not_cut e.session e.after (of old.table.history i) old.table.history event (of new.table.history i) new.table.history e.follows (none i e.after (after_event i event old new e)))
  | inr k ↦ none j s (stayed_at i j event old new s e k.1 is)
]

pub events_uncut : (order : List ℕ) (old new : WorldSeen) → AreWorldEvents order old new → NoneIsCut new → NoneIsCut old
events_uncut [] old new a none = subst NoneIsCut a none
events_uncut (i ∷ order) old new a none = event_uncut i a.0 old a.1 a.2 (events_uncut order a.1 new a.3 none)

-- An event of a session that isn't cut after it.

cut_after : (s t : SessionSeen) (mine seen : List Entry) (event : Event) (mine_after seen_after : List Entry) → event ≡ Cut → FollowsDoor true s mine seen event t mine_after seen_after → t.cut ≡ true
cut_after s t mine seen event mine_after seen_after is f =
    let short = subst (λ (x : Event). FollowsDoor true s mine seen x t mine_after seen_after) is f in
    ap (λ (x : SessionSeen). x.cut) short.cut

new_points : (i : ℕ) (event : Event) (old new : WorldSeen) → (e : IsWorldEvent i event old new) → (world_of new).points ≡ slice_set (world_of old).points i e.after.point
new_points i event old new e = ap (λ (l : List SessionSeen). map (λ (s : SessionSeen). s.point) l) e.sessions ∙ map_set (λ (s : SessionSeen). s.point) old.sessions i e.after

event_happens : (i : ℕ) (event : Event) (old new : WorldSeen) → IsWorldEvent i event old new → NoneIsCut new → Happens (seen_parts old) i (world_of old) (world_of new)
event_happens i event old new e none =
    let mine = of old.table.history i in
    let mine_after = of new.table.history i in
    let still = none i e.after (after_event i event old new e) in
    let points = new_points i event old new e in
    let is : world_with (world_of old) i e.after new.table.history ≡ world_of new = λ k. record { table = record { cap = sym e.cap k; history = new.table.history }; points = sym points k } in
    subst (λ (w : World). Happens (seen_parts old) i (world_of old) w) is
    (event_is_of_the_world (seen_parts old) i (world_of old) e.session e.after event mine mine_after new.table.history
    (map_get (λ (s : SessionSeen). s.part) old.sessions i e.session e.is_session)
    (map_get (λ (s : SessionSeen). s.point) old.sessions i e.session e.is_session)
    (not_cut e.session e.after mine old.table.history event mine_after new.table.history e.follows still)
    (λ cut. absurd (cc (still, cut_after e.session e.after mine old.table.history event mine_after new.table.history cut e.follows)))
    (subst (λ (n : ℕ). Legal n new.table.history) e.cap e.legal) e.follows)

pub events_play : (parts : List SessionPart) (order : List ℕ) (old new : WorldSeen) → seen_parts old ≡ parts → AreWorldEvents order old new → NoneIsCut new → Plays parts (world_of old) order (world_of new)
events_play parts [] old new are a none = ap world_of a
events_play parts (i ∷ order) old new are a none = (
  world_of a.1,
  subst (λ (l : List SessionPart). Happens l i (world_of old) (world_of a.1)) are (event_happens i a.0 old a.1 a.2 (events_uncut order a.1 new a.3 none)),
  events_play parts order a.1 new (event_parts i a.0 old a.1 a.2 ∙ are) a.3 none,
)
