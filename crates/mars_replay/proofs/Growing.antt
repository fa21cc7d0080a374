-- Texts of a world only grow, and sessions are cut by events that are out of memory alone.
use Rattle.std.proofs.Common.{◌≡◌, ◌≢◌, ℕ, List, [], ◌∷◌, ◌++◌, refl, ap, sym, ◌∙◌, subst}
use Rattle.std.specs.Prelude.{Some, slice_get, true, false, Bool, if◌then◌else◌}
use Rattle.mars_table.specs.declared.entry.Entry.{Entry}
use Rattle.mars_table.specs.History.{Legal, of}
use Rattle.mars_session.specs.declared.events.Event.{Event}
use Rattle.mars_session.specs.declared.events.Event.TheVariants.{Moved, Called, Done, Cut}
use Rattle.mars_session.specs.Lines.{memory_line}
use Rattle.mars_session.specs.SessionAlone.{BeginsWith}
use Rattle.mars_session.specs.SessionSeen.{SessionSeen, session_text}
use Rattle.mars_session.specs.DoorEvents.{FollowsDoor}
use Rattle.mars_session.proofs.Lists.{begins_same, begins_on}
use Rattle.mars_session.proofs.AskTexts.{texts_grow}
use Rattle.mars_replay.specs.WorldSeen.{WorldSeen, started_world, IsWorldEvent, AreWorldEvents}
use Rattle.mars_replay.specs.WorldEventLaws.{WorldTextsGrow, OthersCutNone, HistoriesAreLegal}
use Rattle.mars_replay.proofs.Reached.{takes_event}
use Rattle.mars_replay.proofs.SoundWorlds.{this, other, after_at}
use Rattle.mars_replay.proofs.Happenings.{not_cut}

-- the text of a session that isn't cut
pub uncut_text : (s : SessionSeen) → s.cut ≡ false → session_text s ≡ s.point.before ++ s.point.present
uncut_text s un = ap (λ (b : Bool). s.point.before ++ (if b then memory_line else s.point.present)) un

text_grows : (s t : SessionSeen) (mine seen : List Entry) (event : Event) (mine_after seen_after : List Entry) → FollowsDoor true s mine seen event t mine_after seen_after → t.cut ≡ false → BeginsWith (session_text s) (session_text t)
text_grows s t mine seen Moved mine_after seen_after f un =
    subst (λ (l : List ℕ). BeginsWith l (session_text t)) (sym (uncut_text s f.0.going)) (subst (λ (l : List ℕ). BeginsWith (s.point.before ++ s.point.present) l) (sym (uncut_text t un)) (texts_grow s.part s.point t.point f.0.event))
text_grows s t mine seen Called mine_after seen_after (call, reply, takes, wants, calls) un =
    subst (λ (l : List ℕ). BeginsWith l (session_text t)) (sym (uncut_text s wants.going)) (subst (λ (l : List ℕ). BeginsWith (s.point.before ++ s.point.present) l) (sym (uncut_text t un)) (texts_grow s.part s.point t.point (takes_event s t call reply takes)))
text_grows s t mine seen Done mine_after seen_after f un = subst (λ (x : SessionSeen). BeginsWith (session_text s) (session_text x)) (sym f.1) (begins_same (session_text s))
text_grows s t mine seen Cut mine_after seen_after f un = absurd (cc (un, ap (λ (x : SessionSeen). x.cut) f.cut))

-- where a session is after an event, from where it was
pub record Went (j : ℕ) (old : WorldSeen) (event : Event) (t : SessionSeen) : Type 0 where
  pub was : SessionSeen
  pub at : slice_get old.sessions j ≡ Some was
  pub going : t.cut ≡ false → was.cut ≡ false
  pub grows : t.cut ≡ false → BeginsWith (session_text was) (session_text t)

went : (i : ℕ) (event : Event) (old new : WorldSeen) → (e : IsWorldEvent i event old new) → (j : ℕ) (t : SessionSeen) → slice_get new.sessions j ≡ Some t → Went j old event t
went i event old new e j t is = elim (after_at i event old new e j t is) [
  | this k same ↦ record {
    was = e.session;
    at = subst (λ (x : ℕ). slice_get old.sessions x ≡ Some e.session) (sym k) e.is_session;
    going = λ un. not_cut e.session e.after (of old.table.history i) old.table.history event (of new.table.history i) new.table.history e.follows (sym (ap (λ (x : SessionSeen). x.cut) same) ∙ un);
    grows = λ un. subst (λ (x : SessionSeen). BeginsWith (session_text e.session) (session_text x)) (sym same)
        (text_grows e.session e.after (of old.table.history i) old.table.history event (of new.table.history i) new.table.history e.follows (sym (ap (λ (x : SessionSeen). x.cut) same) ∙ un));
  }
  | other k at ↦ record { was = t; at = at; going = λ un. un; grows = λ un. begins_same (session_text t) }
]

-- from the end backwards
pub record Comes (j : ℕ) (old : WorldSeen) (t : SessionSeen) : Type 0 where
  pub was : SessionSeen
  pub at : slice_get old.sessions j ≡ Some was
  pub going : was.cut ≡ false
  pub grows : BeginsWith (session_text was) (session_text t)

comes : (order : List ℕ) (old new : WorldSeen) (j : ℕ) (t : SessionSeen) → AreWorldEvents order old new → slice_get new.sessions j ≡ Some t → t.cut ≡ false → Comes j old t
comes [] old new j t a is un = record { was = t; at = subst (λ (w : WorldSeen). slice_get w.sessions j ≡ Some t) a is; going = un; grows = begins_same (session_text t) }
comes (i ∷ order) old new j t a is un =
    let later = comes order a.1 new j t a.3 is un in
    let first = went i a.0 old a.1 a.2 j later.was later.at in
    record {
      was = first.was;
      at = first.at;
      going = first.going later.going;
      grows = begins_on (session_text first.was) (session_text later.was) (session_text t) (first.grows later.going) later.grows;
    }

pub world_texts_grow : WorldTextsGrow
world_texts_grow order old new j s t a at_s at_t un =
    let c = comes order old new j t a at_t un in
    let same : c.was ≡ s = (cc (c.at, at_s)) in
    subst (λ (x : SessionSeen). BeginsWith (session_text x) (session_text t)) same c.grows

uncut_after : (s t : SessionSeen) (mine seen : List Entry) (event : Event) (mine_after seen_after : List Entry) → FollowsDoor true s mine seen event t mine_after seen_after → event ≢ Cut → s.cut ≡ false → t.cut ≡ false
uncut_after s t mine seen Moved mine_after seen_after f ne un = ap (λ (x : SessionSeen). x.cut) f.0.stays
uncut_after s t mine seen Called mine_after seen_after (call, reply, takes, wants, calls) ne un = ap (λ (x : SessionSeen). x.cut) takes.new_is
uncut_after s t mine seen Done mine_after seen_after f ne un = ap (λ (x : SessionSeen). x.cut) f.1 ∙ un
uncut_after s t mine seen Cut mine_after seen_after f ne un = absurd (ne refl)

pub others_cut_none : OthersCutNone
others_cut_none i event old new e ne none j t is = elim (after_at i event old new e j t is) [
  | this k same ↦ ap (λ (x : SessionSeen). x.cut) same ∙ uncut_after e.session e.after (of old.table.history i) old.table.history event (of new.table.history i) new.table.history e.follows ne (none i e.session e.is_session)
  | other k at ↦ none j t at
]

events_legal : (order : List ℕ) (rows : ℕ) (old new : WorldSeen) → old.table.cap ≡ rows → Legal rows old.table.history → AreWorldEvents order old new → Legal rows new.table.history
events_legal [] rows old new c legal a = subst (λ (w : WorldSeen). Legal rows w.table.history) (sym a) legal
events_legal (i ∷ order) rows old new c legal a =
    events_legal order rows a.1 new (a.2.cap ∙ c) (subst (λ (n : ℕ). Legal n a.1.table.history) (a.2.cap ∙ c) a.2.legal) a.3

pub histories_are_legal : HistoriesAreLegal
histories_are_legal parts rows order w a = events_legal order rows (started_world parts rows) w refl tt a
