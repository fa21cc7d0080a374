-- From each session over its own door to the whole run.
use Rattle.std.proofs.Common.{◌≡◌, ℕ, zero, suc, List, [], ◌∷◌, ◌++◌, length, map, refl, ap, sym, ◌∙◌, subst, append-nil, inl, inr}
use Rattle.std.specs.Prelude.{◌⊎◌, Option, Some, None, slice_get, Bool, true, false, if◌then◌else◌}
use Rattle.std.proofs.lemmas.List.{length-map}
use Rattle.mars_script.specs.declared.script.Command.TheVariants as command
use Rattle.mars_table.specs.declared.entry.Call.{Call}
use Rattle.mars_table.specs.declared.entry.Reply.{Reply}
use Rattle.mars_table.specs.declared.entry.Entry.{Entry}
use Rattle.mars_table.specs.History.{of, call_entry}
use Rattle.mars_session.specs.declared.events.Event.TheVariants.{Moved, Called, Done, Cut}
use Rattle.mars_session.specs.Lines.{memory_line}
use Rattle.mars_session.specs.SessionPoints.{SessionPart, SessionPoint}
use Rattle.mars_session.specs.CommandActs.{ActsAt, Uses, CommandAct}
use Rattle.mars_session.specs.SessionEvents.{WantsCall, HasNoCommand, ReachesPoint}
use Rattle.mars_session.specs.WholeRuns.{ClosesWith, WritesAlone, WritesEither}
use Rattle.mars_session.specs.SessionSeen.{SessionSeen, session_text, restarted, TakesReply}
use Rattle.mars_session.specs.Together.{IsWithEntries, EventsKeepEntries, EndsIn, cut_of, TogetherTheyAreWhole, UncutIsWhole}
use Rattle.mars_session.proofs.Closed.{alone_with}
use Rattle.mars_session.proofs.Points.{ended_whole}

-- Each event keeps the session at its door.
-- what is wanted at a point doesn't depend on how far the present ask has come
restart_acts : (p : SessionPoint) (command : _) (act : CommandAct) → ActsAt p command act → ActsAt (restarted p) command act
unfolding ActsAt
restart_acts p (command.Put name graph root) act a = a
restart_acts p (command.Ask ask) act a = a
restart_acts p (command.Keep name var) act a = a
restart_acts p (command.Same left right) act a = a
restart_acts p (command.Show name) act a = a
restart_acts p (command.Pin new old) act a = a
restart_acts p (command.Drop name) act a = a
restart_acts p command.Sweep act a = a
restart_acts p command.Count act a = a

pub restart_wants : (part : SessionPart) (p : SessionPoint) (call : Call) → WantsCall part p call → WantsCall part (restarted p) call
restart_wants part p call w = record { command = w.command; is_next = w.is_next; wish = w.wish; acts = restart_acts p w.command (Uses w.wish) w.acts; call_is = w.call_is }

pub taken_mine : (old new : SessionSeen) (call : Call) (reply : Reply) → TakesReply old call reply new → new.point.mine ≡ old.point.mine ++ call_entry old.part.who call reply ∷ []
taken_mine old new call reply t = ap (λ (s : SessionSeen). s.point.mine) t.new_is ∙ ap (λ (c : Call). old.point.mine ++ call_entry old.part.who c reply ∷ []) (sym t.wants.call_is)

pub events_keep_entries : EventsKeepEntries
events_keep_entries lone old mine seen Moved new mine_after seen_after at f = record {
  going = λ e. f.1 ∙ at.going f.0.going ∙ sym f.0.none;
  cut = λ e. absurd (cc (e, ap (λ (s : SessionSeen). s.cut) f.0.stays));
}
events_keep_entries lone old mine seen Called new mine_after seen_after at (call, reply, takes, wants, calls) = record {
  going = λ e. calls.more ∙ ap (λ (l : List Entry). l ++ call_entry old.part.who call reply ∷ []) (at.going wants.going) ∙ sym (taken_mine old new call reply takes);
  cut = λ e. absurd (cc (e, ap (λ (s : SessionSeen). s.cut) takes.new_is));
}
events_keep_entries lone old mine seen Done new mine_after seen_after at f = subst (λ (l : List Entry). IsWithEntries new l) (sym f.2) (subst (λ (s : SessionSeen). IsWithEntries s mine) (sym f.1) at)
events_keep_entries lone old mine seen Cut new mine_after seen_after at f = subst (λ (s : SessionSeen). IsWithEntries s mine_after) (sym f.cut) (record {
  going = λ e. absurd (cc e);
  cut = λ e. record {
    left = f.went.left;
    calls = elim f.door [
      | inl same ↦ inl (same.0 ∙ at.going f.went.going)
      | inr c ↦ inr (c.0, c.1, restart_wants old.part old.point c.0 c.2.wants, c.3, c.4.more ∙ ap (λ (l : List Entry). l ++ call_entry old.part.who c.0 c.1 ∷ []) (at.going f.went.going))
    ];
  };
})

told : (b : Bool) → (b ≡ true) ⊎ (b ≡ false)
told true = inl refl
told false = inr refl

-- what one session did
through_by : (history : List Entry) (s : SessionSeen) (b : Bool) → s.cut ≡ b → ReachesPoint s.part s.point → IsWithEntries s (of history s.part.who) → (s.cut ≡ false → HasNoCommand s.part s.point)
    → WritesEither history s.part (s.point.before ++ (if b then memory_line else s.point.present), if b then Some s.point.done else None)
through_by history s true is reached at ended =
    let c = at.cut is in record { point = s.point; reached = reached; at = refl; left = c.left; calls = c.calls; text_is = refl }
through_by history s false is reached at ended =
    let nothing = ended_whole s.part s.point reached (ended is) in
    alone_with s.part (of history s.part.who) (s.point.before ++ s.point.present) (record {
      point = s.point;
      reached = reached;
      ended = ended is;
      mine_is = sym (at.going is);
      text_is = ap (λ (l : List ℕ). s.point.before ++ l) nothing ∙ append-nil s.point.before;
    })

through : (history : List Entry) (part : SessionPart) (s : SessionSeen) → EndsIn history part s → WritesEither history part (session_text s, cut_of s)
through history part s t =
    let at : IsWithEntries s (of history s.part.who) = subst (λ (x : SessionPart). IsWithEntries s (of history x.who)) (sym t.part_is) t.entries in
    subst (λ (x : SessionPart). WritesEither history x (session_text s, cut_of s)) t.part_is (through_by history s s.cut refl t.reached at t.ended)

map_place : {A B : Type 0} (f : A → B) (xs : List A) (i : ℕ) (y : B) → slice_get (map f xs) i ≡ Some y → (x : A) × (slice_get xs i ≡ Some x) × (y ≡ f x)
map_place f [] i y e = absurd (cc e)
map_place f (x ∷ xs) zero y e = (x, refl, (cc e))
map_place f (x ∷ xs) (suc i) y e = map_place f xs i y e

pub together_they_are_whole : TogetherTheyAreWhole
together_they_are_whole parts sessions limit history text numbered legal each closes = record {
  texts = map (λ (s : SessionSeen). (session_text s, cut_of s)) sessions;
  cuts_are = seconds sessions;
  legal = legal;
  each = record {
    count = length-map sessions (λ (s : SessionSeen). (session_text s, cut_of s)) ∙ each.count;
    each = λ i part x at_part at_x.
        let s = map_place (λ (s : SessionSeen). (session_text s, cut_of s)) sessions i x at_x in
        subst (λ (y : List ℕ × Option ℕ). WritesEither history part y) (sym s.2) (through history part s.0 (each.each i part s.0 at_part s.1));
  };
  closes = subst (λ (l : List (List ℕ)). ClosesWith (length parts) history l text) (sym (firsts sessions)) closes;
}
  where
    firsts : (sessions : List SessionSeen) → map (λ (t : List ℕ × Option ℕ). t.0) (map (λ (s : SessionSeen). (session_text s, cut_of s)) sessions) ≡ map session_text sessions
    firsts [] = refl
    firsts (s ∷ sessions) = ap (λ (l : List (List ℕ)). session_text s ∷ l) (firsts sessions)

    seconds : (sessions : List SessionSeen) → map (λ (t : List ℕ × Option ℕ). t.1) (map (λ (s : SessionSeen). (session_text s, cut_of s)) sessions) ≡ map cut_of sessions
    seconds [] = refl
    seconds (s ∷ sessions) = ap (λ (l : List (Option ℕ)). cut_of s ∷ l) (seconds sessions)

pub uncut_is_whole : UncutIsWhole
uncut_is_whole parts limit history text cuts uncut w = record {
  texts = map (λ (t : List ℕ × Option ℕ). t.0) w.texts;
  legal = w.legal;
  closes = w.closes;
  each = record {
    count = length-map w.texts (λ (t : List ℕ × Option ℕ). t.0) ∙ w.each.count;
    each = λ i part text' at_part at_text.
        let t = map_place (λ (t : List ℕ × Option ℕ). t.0) w.texts i text' at_text in
        subst (λ (x : List ℕ). WritesAlone history part x) (sym t.2) (alone_of history part t.0 (λ j e. uncut i j (subst (λ (l : List (Option ℕ)). slice_get l i ≡ Some (Some j)) w.cuts_are (at_map w.texts i t.0 t.1 ∙ ap (λ (o : Option ℕ). Some o) e))) (w.each.each i part t.0 at_part t.1));
  };
}
  where
    at_map : (texts : List (List ℕ × Option ℕ)) (i : ℕ) (t : List ℕ × Option ℕ) → slice_get texts i ≡ Some t → slice_get (map (λ (t : List ℕ × Option ℕ). t.1) texts) i ≡ Some (t.1)
    at_map [] i t e = absurd (cc e)
    at_map (x ∷ texts) zero t e = let same : x ≡ t = (cc e) in ap (λ (t : List ℕ × Option ℕ). Some (t.1)) same
    at_map (x ∷ texts) (suc i) t e = at_map texts i t e

    alone_of : (history : List Entry) (part : SessionPart) (t : List ℕ × Option ℕ) → ((j : ℕ) → t.1 ≡ Some j → ⊥) → WritesEither history part t → WritesAlone history part (t.0)
    alone_of history part (text, None) never e = e
    alone_of history part (text, Some j) never e = absurd (never j refl)
