-- What a world keeps: its history is legal, and each session has got its own entries of it.
use Rattle.std.proofs.Common.{◌≡◌, ◌≢◌, ℕ, zero, suc, ◌+◌, ◌<◌, List, [], ◌∷◌, ◌++◌, length, map, refl, ap, sym, ◌∙◌, subst, arith, append-nil, inl, inr}
use Rattle.std.specs.Prelude.{Some, slice_get, slice_set, All, nat_eq, replicate}
use Rattle.std.specs.List.{flat_map}
use Rattle.std.proofs.lemmas.List.{length-map}
use Rattle.std.proofs.lemmas.List.Elements.{All-nil, All-cons, All-append, All-head, All-tail, filter-append}
use Rattle.std.proofs.lemmas.Bool.Decides.{eqb_tells}
use Rattle.std.proofs.lemmas.Option.{slice_get_within}
use Rattle.mars_table.specs.declared.entry.Entry.{Entry}
use Rattle.mars_rows.specs.Sound.{IsSound}
use Rattle.mars_table.specs.History.{call_entry, of, AreReplies, Legal, after_history}
use Rattle.mars_table.specs.TableSeen.{TableSeen, uncalled, object_of}
use Rattle.mars_table.proofs.HistoryLemmas.{legal_is_sound}
use Rattle.mars_session.specs.Lines.{last_line}
use Rattle.mars_session.specs.SessionPoints.{SessionPart, SessionPoint, session_start}
use Rattle.mars_session.specs.SessionEvents.{IsEvent, HasNoCommand, ReachesPoint}
use Rattle.mars_session.specs.WholeRuns.{closing_calls, IsWholeRun}
use Rattle.mars_session.specs.Worlds.{World, new_world, MovesSession, Happens, Plays, HasEnded, RunsToEnds, Finishes}
use Rattle.mars_session.specs.WorldLaws.{NumberedInOrder, ScheduleIsWhole}
use Rattle.mars_session.proofs.Tables.{replies_on}
use Rattle.mars_session.proofs.Lists.{get_set_same, get_set_other, length_set}
use Rattle.mars_session.proofs.Places.{cancel}
use Rattle.mars_session.proofs.Points.{Grows, none, one, grows, after_snoc}
use Rattle.mars_session.proofs.Closed.{alone_with}
use Rattle.mars_session.proofs.Schedules.{own_first, other_first, of_closing, map_places}

abbrev AllOf : ℕ → List Entry → Type 0
AllOf who xs = All (λ (e : Entry). e.who ≡ who) xs

pub of_all : (xs : List Entry) (who : ℕ) → All (λ (e : Entry). e.who ≡ who) xs → of xs who ≡ xs
of_all [] who own = refl
of_all (x ∷ xs) who own = own_first x xs who (All-head (λ (e : Entry). e.who ≡ who) x xs own) ∙ ap (λ (l : List Entry). x ∷ l) (of_all xs who (All-tail (λ (e : Entry). e.who ≡ who) x xs own))

pub of_others : (xs : List Entry) (who other : ℕ) → other ≢ who → All (λ (e : Entry). e.who ≡ other) xs → of xs who ≡ []
of_others [] who other ne own = refl
of_others (x ∷ xs) who other ne own =
    let by = All-head (λ (e : Entry). e.who ≡ other) x xs own in
    other_first x xs who (λ same. ne (sym by ∙ same)) ∙ of_others xs who other ne (All-tail (λ (e : Entry). e.who ≡ other) x xs own)

pub of_append : (xs ys : List Entry) (who : ℕ) → of (xs ++ ys) who ≡ of xs who ++ of ys who
of_append xs ys who = filter-append (λ (e : Entry). nat_eq e.who who) xs ys

pub made_own : (part : SessionPart) (p q : SessionPoint) (made : List Entry) → IsEvent part p q → q.mine ≡ p.mine ++ made → All (λ (e : Entry). e.who ≡ part.who) made
made_own part p q made next is = by_growth part p q made is (grows part p q next)
  where
    by_growth : (part : SessionPart) (p q : SessionPoint) (made : List Entry) → q.mine ≡ p.mine ++ made → Grows part p q → All (λ (e : Entry). e.who ≡ part.who) made
    by_growth part p q made is (none e) =
        let nothing : [] ≡ made = cancel p.mine [] made (append-nil p.mine ∙ sym e ∙ is) in
        subst (λ (l : List Entry). All (λ (e : Entry). e.who ≡ part.who) l) nothing (All-nil (λ (e : Entry). e.who ≡ part.who))
    by_growth part p q made is (one call reply fits e) =
        let this : call_entry part.who call reply ∷ [] ≡ made = cancel p.mine (call_entry part.who call reply ∷ []) made (sym e ∙ is) in
        subst (λ (l : List Entry). All (λ (e : Entry). e.who ≡ part.who) l) this (All-cons (λ (e : Entry). e.who ≡ part.who) (call_entry part.who call reply) [] refl (All-nil (λ (e : Entry). e.who ≡ part.who)))

pub record Got (part : SessionPart) (history : List Entry) (p : SessionPoint) : Type 0 where
  pub reached : ReachesPoint part p
  pub mine : p.mine ≡ of history part.who

pub record Sound (parts : List SessionPart) (limit : ℕ) (w : World) : Type 0 where
  pub cap : w.table.cap ≡ limit
  pub legal : Legal limit w.table.history
  pub own : All (λ (e : Entry). e.who < length parts) w.table.history
  pub count : length w.points ≡ length parts
  pub each : (i : ℕ) (part : SessionPart) (p : SessionPoint) → slice_get parts i ≡ Some part → slice_get w.points i ≡ Some p → Got part w.table.history p

moves_sound : (parts : List SessionPart) (limit i : ℕ) (part : SessionPart) (p : SessionPoint) (old new : World) → NumberedInOrder parts → slice_get parts i ≡ Some part → slice_get old.points i ≡ Some p → Sound parts limit old → MovesSession part i p old new → Sound parts limit new
moves_sound parts limit i part p old new numbered is_part is_point s m =
    let own_made = made_own part p m.to m.made m.event m.makes in
    let history : new.table.history ≡ old.table.history ++ m.made = ap (λ (t : TableSeen). t.history) m.table.table in
    let who : part.who ≡ i = numbered i part is_part in
    record {
      cap = ap (λ (t : TableSeen). t.cap) m.table.table ∙ s.cap;
      legal = subst (λ (l : List Entry). Legal limit l) (sym history) (replies_on (object_of (uncalled limit)) old.table.history m.made s.legal (subst (λ (n : ℕ). AreReplies (after_history n old.table.history) m.made) s.cap m.table.replies));
      own = subst (λ (l : List Entry). All (λ (e : Entry). e.who < length parts) l) (sym history)
          (All-append (λ (e : Entry). e.who < length parts) old.table.history m.made s.own
          (λ k d lt. let at = own_made k d lt in let within = slice_get_within parts i part is_part in omega (arith, at, who, within)));
      count = ap (λ (l : List SessionPoint). length l) m.points ∙ length_set old.points i m.to ∙ s.count;
      each = λ j part' p' at_part at_point.
          let at_set : slice_get (slice_set old.points i m.to) j ≡ Some p' = sym (ap (λ (l : List SessionPoint). slice_get l j) m.points) ∙ at_point in
          elim (eqb_tells j i) [
            | inl t ↦
                let one_part : part ≡ part' = (cc (is_part, at_part, t.1)) in
                let here : slice_get (slice_set old.points i m.to) i ≡ Some p' = subst (λ (k : ℕ). slice_get (slice_set old.points i m.to) k ≡ Some p') t.1 at_set in
                let there = get_set_same old.points i p m.to is_point in
                let one_point : m.to ≡ p' = (cc (here, there)) in
                let g = s.each i part p is_part is_point in
                subst (λ (x : SessionPoint). Got part' new.table.history x) one_point (subst (λ (x : SessionPart). Got x new.table.history m.to) one_part
                (record {
                  reached = (suc g.reached.0, after_snoc part g.reached.0 (session_start part) p m.to g.reached.1 m.event);
                  mine = m.makes ∙ ap (λ (l : List Entry). l ++ m.made) g.mine ∙ ap (λ (l : List Entry). of old.table.history part.who ++ l) (sym (of_all m.made part.who own_made)) ∙ sym (of_append old.table.history m.made part.who) ∙ ap (λ (l : List Entry). of l part.who) (sym history);
                }))
            | inr t ↦
                let g = s.each j part' p' at_part (sym (get_set_other old.points i j m.to t.1) ∙ at_set) in
                let other : part.who ≢ part'.who = λ same. t.1 (sym (numbered j part' at_part) ∙ sym same ∙ who) in
                record {
                  reached = g.reached;
                  mine = g.mine ∙ sym (append-nil (of old.table.history part'.who)) ∙ ap (λ (l : List Entry). of old.table.history part'.who ++ l) (sym (of_others m.made part'.who part.who other own_made)) ∙ sym (of_append old.table.history m.made part'.who) ∙ ap (λ (l : List Entry). of l part'.who) (sym history);
                }
          ];
    }

pub happens_sound : (parts : List SessionPart) (limit i : ℕ) (old new : World) → NumberedInOrder parts → Sound parts limit old → Happens parts i old new → Sound parts limit new
happens_sound parts limit i old new numbered s h = elim h.event [
  | inl same ↦ subst (λ (w : World). Sound parts limit w) (sym same.1) s
  | inr m ↦ moves_sound parts limit i h.part h.point old new numbered h.is_part h.is_point s m
]

pub plays_sound : (parts : List SessionPart) (limit : ℕ) (order : List ℕ) (old new : World) → NumberedInOrder parts → Sound parts limit old → Plays parts old order new → Sound parts limit new
plays_sound parts limit [] old new numbered s a = subst (λ (w : World). Sound parts limit w) (sym a) s
plays_sound parts limit (i ∷ order) old new numbered s a = plays_sound parts limit order a.0 new numbered (happens_sound parts limit i old a.0 numbered s a.1) a.2

pub begins_sound : (parts : List SessionPart) (limit : ℕ) → Sound parts limit (new_world parts limit)
begins_sound parts limit = record {
  cap = refl;
  legal = tt;
  own = All-nil (λ (e : Entry). e.who < length parts);
  count = length-map parts session_start;
  each = λ i part p at_part at_point. subst (λ (x : SessionPoint). Got part [] x) (sym (map_places parts i part p at_part at_point)) (record { reached = (zero, refl); mine = refl });
}

pub sound_table : (parts : List SessionPart) (limit : ℕ) (w : World) → Sound parts limit w → IsSound (object_of w.table)
sound_table parts limit w s = subst (λ (n : ℕ). IsSound (after_history n w.table.history)) (sym s.cap) (legal_is_sound limit w.table.history s.legal)

-- An ended session stays ended.

happens_ended : (parts : List SessionPart) (i j : ℕ) (old new : World) → Happens parts i old new → j ≢ i → HasEnded parts j old → HasEnded parts j new
happens_ended parts i j old new h ne e = elim h.event [
  | inl same ↦ subst (λ (w : World). HasEnded parts j w) (sym same.1) e
  | inr m ↦ record { part = e.part; point = e.point; is_part = e.is_part; ended = e.ended; is_point = ap (λ (l : List SessionPoint). slice_get l j) m.points ∙ get_set_other old.points i j m.to ne ∙ e.is_point }
]

plays_ended : (parts : List SessionPart) (i j k : ℕ) (old new : World) → Plays parts old (replicate k i) new → j ≢ i → HasEnded parts j old → HasEnded parts j new
plays_ended parts i j zero old new a ne e = subst (λ (w : World). HasEnded parts j w) (sym a) e
plays_ended parts i j (suc k) old new a ne e = plays_ended parts i j k a.0 new a.2 ne (happens_ended parts i j old a.0 a.1 ne e)

pub runs_ended : (parts : List SessionPart) (i n : ℕ) (old new : World) → RunsToEnds parts i n old new → ((j : ℕ) → j < i → HasEnded parts j old) → (j : ℕ) → j < i + n → HasEnded parts j new
runs_ended parts i zero old new r before j lt = subst (λ (w : World). HasEnded parts j w) (sym r) (before j (omega (arith, lt)))
runs_ended parts i (suc n) old new r before j lt = runs_ended parts (suc i) n r.1 new r.4
    (λ k below. elim (eqb_tells k i) [ inl t ↦ subst (λ (x : ℕ). HasEnded parts x r.1) (sym t.1) r.3 | inr t ↦ plays_ended parts i k r.0 old r.1 r.2 t.1 (before k (omega (arith, below, t.1))) ])
    j (omega (arith, lt))

pub runs_sound : (parts : List SessionPart) (limit i n : ℕ) (old new : World) → NumberedInOrder parts → Sound parts limit old → RunsToEnds parts i n old new → Sound parts limit new
runs_sound parts limit i zero old new numbered s r = subst (λ (w : World). Sound parts limit w) (sym r) s
runs_sound parts limit i (suc n) old new numbered s r = runs_sound parts limit (suc i) n r.1 new numbered (plays_sound parts limit (replicate r.0 i) old r.1 numbered s r.2) r.4

-- A world whose sessions have all ended, with the closing calls, is whole.
pub finishes_whole : (parts : List SessionPart) (limit : ℕ) (w : World) (history : List Entry) (text : List ℕ) → NumberedInOrder parts → Sound parts limit w → ((j : ℕ) → j < length parts → HasEnded parts j w) → Finishes parts w history text → IsWholeRun parts limit history text
finishes_whole parts limit w history text numbered s ended f =
    let last = closing_calls (length parts) f.gone f.rows f.pins in
    record {
      texts = map (λ (p : SessionPoint). p.before) w.points;
      legal = subst (λ (l : List Entry). Legal limit l) (sym f.history_is) (replies_on (object_of (uncalled limit)) w.table.history last s.legal (subst (λ (n : ℕ). AreReplies (after_history n w.table.history) last) s.cap f.replies));
      each = record {
        count = length-map w.points (λ (p : SessionPoint). p.before) ∙ s.count;
        each = λ i part text' at_part at_text.
            let within = slice_get_within parts i part at_part in
            let e = ended i within in
            let who : part.who < length parts = subst (λ (k : ℕ). k < length parts) (sym (numbered i part at_part)) within in
            let one_part : e.part ≡ part = (cc (e.is_part, at_part)) in
            let g = s.each i part e.point at_part e.is_point in
            alone_with part (of history part.who) text' (record {
              point = e.point;
              reached = g.reached;
              ended = subst (λ (x : SessionPart). HasNoCommand x e.point) one_part e.ended;
              mine_is = g.mine ∙ sym (ap (λ (l : List Entry). of l part.who) f.history_is ∙ of_closing (length parts) part.who f.gone f.rows f.pins w.table.history who);
              text_is = map_at w.points i e.point text' e.is_point at_text;
            });
      };
      closes = record {
        sessions = w.table.history;
        gone = f.gone;
        rows = f.rows;
        pins = f.pins;
        entries = f.history_is;
        own = s.own;
        text_is = f.text_is ∙ ap (λ (l : List ℕ). l ++ last_line f.gone f.rows f.pins) (joined w.points);
      };
    }
  where
    map_at : (points : List SessionPoint) (i : ℕ) (p : SessionPoint) (text : List ℕ) → slice_get points i ≡ Some p → slice_get (map (λ (p : SessionPoint). p.before) points) i ≡ Some text → text ≡ p.before
    map_at [] i p text a b = absurd (cc a)
    map_at (x ∷ points) zero p text a b = let e : x ≡ p = (cc a) in let f : x.before ≡ text = (cc b) in sym f ∙ ap (λ (p : SessionPoint). p.before) e
    map_at (x ∷ points) (suc i) p text a b = map_at points i p text a b

    joined : (points : List SessionPoint) → flat_map (λ (p : SessionPoint). p.before) points ≡ flat_map (λ (t : List ℕ). t) (map (λ (p : SessionPoint). p.before) points)
    joined [] = refl
    joined (x ∷ points) = ap (λ (l : List ℕ). x.before ++ l) (joined points)

pub schedule_is_whole : ScheduleIsWhole
schedule_is_whole parts limit order history text numbered s =
    let ordered = plays_sound parts limit order (new_world parts limit) s.ordered numbered (begins_sound parts limit) s.plays in
    let ran = runs_sound parts limit 0 (length parts) s.ordered s.world numbered ordered s.ends in
    finishes_whole parts limit s.world history text numbered ran (λ j lt. runs_ended parts 0 (length parts) s.ordered s.world s.ends (λ k below. absurd (omega (arith, below))) j (omega (arith, lt))) s.finishes
