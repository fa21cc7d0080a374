-- A whole run is the run of a schedule.
use Rattle.std.proofs.Common.{◌≡◌, ◌≢◌, ℕ, zero, suc, ◌+◌, ◌<◌, List, [], ◌∷◌, ◌++◌, length, map, refl, ap, sym, ◌∙◌, subst, arith, append-nil, append_assoc, length-append, inl, inr}
use Rattle.std.specs.Prelude.{Some, slice_get, slice_set, All, nat_eq, replicate}
use Rattle.std.specs.List.{flat_map}
use Rattle.std.proofs.lemmas.List.{length-map}
use Rattle.std.proofs.lemmas.List.Elements.{All-head, All-tail, filter-append}
use Rattle.std.proofs.lemmas.Bool.{eq-eqb}
use Rattle.std.proofs.lemmas.Bool.Decides.{eqb_tells}
use Rattle.std.proofs.lemmas.Option.{slice_get_within, slice_get_past}
use Rattle.mars_table.specs.declared.entry.Entry.{Entry}
use Rattle.mars_table.specs.declared.entry.Call.TheVariants.{Sweep, Count}
use Rattle.mars_table.specs.declared.entry.Reply.TheVariants.{Swept, Counted}
use Rattle.mars_table.specs.History.{call_entry, of, AreReplies}
use Rattle.mars_table.specs.TableSeen.{TableSeen, uncalled, object_of}
use Rattle.mars_session.specs.Lines.{last_line}
use Rattle.mars_session.specs.SessionPoints.{SessionPart, SessionPoint, session_start}
use Rattle.mars_session.specs.SessionEvents.{IsEvent, HasNoCommand, AreEvents, ReachesPoint}
use Rattle.mars_session.specs.SessionAlone.{BeginsWith}
use Rattle.mars_session.specs.WholeRuns.{closing_calls}
use Rattle.mars_session.specs.Worlds.{World, new_world, with_entries, Happens, Plays, HasEnded, RunsToEnds, MakesEntry, IsOrderFrom, IsOrderOf}
use Rattle.mars_session.specs.WorldLaws.{NumberedInOrder, HistoryIsASchedule}
use Rattle.mars_session.proofs.Tables.{replies_apart, with_none, with_more, object_with}
use Rattle.mars_session.proofs.Lists.{get_set_same, get_set_other, set_same, set_twice, length_set, replicate_snoc}
use Rattle.mars_session.proofs.Places.{cancel, get_some, same_places, choose, same_joined}
use Rattle.mars_session.proofs.Points.{Grows, none, one, grows, after_mine}
use Rattle.mars_session.proofs.Closed.{ended_with, of_own}

-- The events up to the next entry.

pub record Split (part : SessionPart) (p : SessionPoint) (e : Entry) (rest : List Entry) (end : SessionPoint) : Type 0 where
  pub n : ℕ
  pub at : SessionPoint
  pub makes : MakesEntry part n p e at
  pub left : ℕ
  pub after : AreEvents part left at end
  pub mine : end.mine ≡ at.mine ++ rest

pub split : (part : SessionPart) (k : ℕ) (p end : SessionPoint) (e : Entry) (rest : List Entry) → AreEvents part k p end → end.mine ≡ p.mine ++ e ∷ rest → Split part p e rest end
split part zero p end e rest a is = absurd (omega (arith, ap length is, ap (λ (x : SessionPoint). length x.mine) a, length-append p.mine (e ∷ rest)))
split part (suc k) p end e rest a is = by_growth part k p end e rest a is (λ more. split part k a.0 end e rest a.2 more) (grows part p a.0 a.1)
  where
    further : (part : SessionPart) (p m end : SessionPoint) (e : Entry) (rest : List Entry) → IsEvent part p m → m.mine ≡ p.mine → Split part m e rest end → Split part p e rest end
    further part p m end e rest next same s = record {
      n = suc s.n;
      at = s.at;
      left = s.left;
      after = s.after;
      mine = s.mine;
      makes = record { until = s.makes.until; steps = (m, next, s.makes.steps); none = s.makes.none ∙ same; last = s.makes.last; makes = s.makes.makes ∙ ap (λ (l : List Entry). l ++ e ∷ []) same };
    }

    by_growth : (part : SessionPart) (k : ℕ) (p end : SessionPoint) (e : Entry) (rest : List Entry) → (a : AreEvents part (suc k) p end) → end.mine ≡ p.mine ++ e ∷ rest → (end.mine ≡ a.0.mine ++ e ∷ rest → Split part a.0 e rest end) → Grows part p a.0 → Split part p e rest end
    by_growth part k p end e rest a is again (none same) = further part p a.0 end e rest a.1 same (again (is ∙ ap (λ (l : List Entry). l ++ e ∷ rest) (sym same)))
    by_growth part k p end e rest a is again (one call reply fits more) =
        let on = after_mine part k a.0 end a.2 in
        let both : p.mine ++ (call_entry part.who call reply ∷ on.0) ≡ p.mine ++ e ∷ rest = sym (append_assoc p.mine (call_entry part.who call reply ∷ []) on.0) ∙ ap (λ (l : List Entry). l ++ on.0) (sym more) ∙ sym on.1 ∙ is in
        let items = cancel p.mine (call_entry part.who call reply ∷ on.0) (e ∷ rest) both in
        let first : call_entry part.who call reply ≡ e = (cc items) in
        let others : on.0 ≡ rest = (cc items) in
        record {
          n = zero;
          at = a.0;
          left = k;
          after = a.2;
          mine = on.1 ∙ ap (λ (l : List Entry). a.0.mine ++ l) others;
          makes = record { until = p; steps = refl; none = refl; last = a.1; makes = more ∙ ap (λ (x : Entry). p.mine ++ x ∷ []) first };
        }

-- Events played in the world.

pub plays_append : (parts : List SessionPart) (old mid new : World) (xs ys : List ℕ) → Plays parts old xs mid → Plays parts mid ys new → Plays parts old (xs ++ ys) new
plays_append parts old mid new [] ys a b = subst (λ (w : World). Plays parts w ys new) a b
plays_append parts old mid new (x ∷ xs) ys a b = (a.0, a.1, plays_append parts a.0 mid new xs ys a.2 b)

-- an event without an entry
pub silent_first : (part : SessionPart) (k : ℕ) (p m q : SessionPoint) → IsEvent part p m → AreEvents part k m q → q.mine ≡ p.mine → m.mine ≡ p.mine
silent_first part k p m q next a same = by_growth part p m q same (after_mine part k m q a) (grows part p m next)
  where
    by_growth : (part : SessionPart) (p m q : SessionPoint) → q.mine ≡ p.mine → BeginsWith m.mine q.mine → Grows part p m → m.mine ≡ p.mine
    by_growth part p m q same on (none e) = e
    by_growth part p m q same on (one call reply fits more) = absurd (omega (arith, ap length same, ap length on.1, ap length more, length-append m.mine on.0, length-append p.mine (call_entry part.who call reply ∷ [])))

-- the world after events of session i, which has come to q
pub record Stays (i : ℕ) (q : SessionPoint) (old new : World) : Type 0 where
  pub table : new.table ≡ old.table
  pub points : new.points ≡ slice_set old.points i q

pub silent : (parts : List SessionPart) (part : SessionPart) (i k : ℕ) (p q : SessionPoint) (w : World) → slice_get parts i ≡ Some part → slice_get w.points i ≡ Some p → AreEvents part k p q → q.mine ≡ p.mine
    → (new : World) × Plays parts w (replicate k i) new × Stays i q w new
silent parts part i zero p q w is_part is_point a same = (w, refl, record { table = refl; points = sym (set_same w.points i p is_point) ∙ ap (λ (x : SessionPoint). slice_set w.points i x) a' })
  where
    a' : p ≡ q
    a' = sym a
silent parts part i (suc k) p q w is_part is_point a same =
    let m = a.0 in
    let none = silent_first part k p m q a.1 a.2 same in
    let mid : World = record { table = w.table; points = slice_set w.points i m } in
    let rest = silent parts part i k m q mid is_part (get_set_same w.points i p m is_point) a.2 (same ∙ sym none) in
    let event : Happens parts i w mid = record {
      part = part;
      point = p;
      is_part = is_part;
      is_point = is_point;
      event = inr (record { to = m; event = a.1; made = []; makes = none ∙ sym (append-nil p.mine); table = record { replies = tt; table = sym (with_none w.table) }; points = refl });
    } in
    (rest.0, (mid, event, rest.1), record { table = rest.2.table; points = rest.2.points ∙ set_twice w.points i m q })

-- events up to an entry, which is played on the table
pub record Plus (i : ℕ) (q : SessionPoint) (e : Entry) (old new : World) : Type 0 where
  pub table : new.table ≡ with_entries old.table (e ∷ [])
  pub points : new.points ≡ slice_set old.points i q

pub makes_plays : (parts : List SessionPart) (part : SessionPart) (i n : ℕ) (p q : SessionPoint) (e : Entry) (w : World) → slice_get parts i ≡ Some part → slice_get w.points i ≡ Some p → MakesEntry part n p e q → AreReplies (object_of w.table) (e ∷ [])
    → (new : World) × Plays parts w (replicate (suc n) i) new × Plus i q e w new
makes_plays parts part i n p q e w is_part is_point makes replies =
    let before = silent parts part i n p makes.until w is_part is_point makes.steps makes.none in
    let mid = before.0 in
    let new : World = record { table = with_entries mid.table (e ∷ []); points = slice_set mid.points i q } in
    let event : Happens parts i mid new = record {
      part = part;
      point = makes.until;
      is_part = is_part;
      is_point = ap (λ (l : List SessionPoint). slice_get l i) before.2.points ∙ get_set_same w.points i p makes.until is_point;
      event = inr (record {
        to = q;
        event = makes.last;
        made = e ∷ [];
        makes = makes.makes ∙ ap (λ (l : List Entry). l ++ e ∷ []) (sym makes.none);
        table = record { replies = subst (λ (t : TableSeen). AreReplies (object_of t) (e ∷ [])) (sym before.2.table) replies; table = refl };
        points = refl;
      });
    } in
    let all = plays_append parts w mid new (replicate n i) (i ∷ []) before.1 (new, event, refl) in (
      new,
      subst (λ (l : List ℕ). Plays parts w l new) (replicate_snoc n i) all,
      record { table = ap (λ (t : TableSeen). with_entries t (e ∷ [])) before.2.table; points = ap (λ (l : List SessionPoint). slice_set l i q) before.2.points ∙ set_twice w.points i makes.until q },
    )

-- From p a session comes to its end with the entries that the rest of the history has of it.
pub record GoesTo (history : List Entry) (part : SessionPart) (p end : SessionPoint) : Type 0 where
  pub count : ℕ
  pub steps : AreEvents part count p end
  pub ended : HasNoCommand part end
  pub mine : end.mine ≡ p.mine ++ of history part.who

abbrev pub AllGo : List Entry → List SessionPart → List SessionPoint → List SessionPoint → Type 0
AllGo history parts points ends = (i : ℕ) (part : SessionPart) (p end : SessionPoint) → slice_get parts i ≡ Some part → slice_get points i ≡ Some p → slice_get ends i ≡ Some end → GoesTo history part p end

pub own_first : (e : Entry) (history : List Entry) (who : ℕ) → e.who ≡ who → of (e ∷ history) who ≡ e ∷ of history who
own_first e history who same = rw (eq-eqb e.who who same) refl

pub other_first : (e : Entry) (history : List Entry) (who : ℕ) → e.who ≢ who → of (e ∷ history) who ≡ of history who
other_first e history who other = elim (eqb_tells e.who who) [ inl t ↦ absurd (other t.1) | inr t ↦ rw t.0 refl ]

-- where one session has come to q, all still go to their ends
go_on : (parts : List SessionPart) (numbered : NumberedInOrder parts) (e : Entry) (history : List Entry) (points ends : List SessionPoint) (p q end : SessionPoint) (part : SessionPart)
    → slice_get parts e.who ≡ Some part → slice_get points e.who ≡ Some p → slice_get ends e.who ≡ Some end → GoesTo history part q end → AllGo (e ∷ history) parts points ends → AllGo history parts (slice_set points e.who q) ends
go_on parts numbered e history points ends p q end part is_part is_point is_end goes all j part' p' end' at_part at_point at_end =
    elim (eqb_tells j e.who) [
      | inl t ↦
          let one_part : part ≡ part' = (cc (is_part, at_part, t.1)) in
          let one_end : end ≡ end' = (cc (is_end, at_end, t.1)) in
          let here : slice_get (slice_set points e.who q) e.who ≡ Some p' = subst (λ (k : ℕ). slice_get (slice_set points e.who q) k ≡ Some p') t.1 at_point in
          let there : slice_get (slice_set points e.who q) e.who ≡ Some q = get_set_same points e.who p q is_point in
          let one_point : q ≡ p' = (cc (here, there)) in
          subst (λ (x : SessionPoint). GoesTo history part' p' x) one_end (subst (λ (x : SessionPoint). GoesTo history part' x end) one_point (subst (λ (x : SessionPart). GoesTo history x q end) one_part goes))
      | inr t ↦
          let there : slice_get points j ≡ Some p' = sym (get_set_other points e.who j q t.1) ∙ at_point in
          let g = all j part' p' end' at_part there at_end in
          let other : e.who ≢ part'.who = λ same. t.1 (sym (numbered j part' at_part) ∙ sym same) in
          record { count = g.count; steps = g.steps; ended = g.ended; mine = g.mine ∙ ap (λ (l : List Entry). p'.mine ++ l) (other_first e history part'.who other) }
    ]

pub record Walked (parts : List SessionPart) (history after : List Entry) (ends : List SessionPoint) (old : World) : Type 0 where
  pub order : List ℕ
  pub new : World
  pub orders : IsOrderFrom parts old.points history order
  pub plays : Plays parts old order new
  pub table : new.table ≡ with_entries old.table history
  pub count : length new.points ≡ length parts
  pub go : (i : ℕ) (part : SessionPart) (p end : SessionPoint) → slice_get parts i ≡ Some part → slice_get new.points i ≡ Some p → slice_get ends i ≡ Some end → GoesTo after part p end

pub walk : (parts : List SessionPart) (numbered : NumberedInOrder parts) (history after : List Entry) (ends : List SessionPoint) (old : World)
    → length old.points ≡ length parts → length ends ≡ length parts → All (λ (e : Entry). e.who < length parts) history → AllGo (history ++ after) parts old.points ends → AreReplies (object_of old.table) history → Walked parts history after ends old
walk parts numbered [] after ends old count counts own go run = record {
  order = [];
  new = old;
  orders = refl;
  plays = refl;
  table = sym (with_none old.table);
  count = count;
  go = go;
}
walk parts numbered (e ∷ history) after ends old count counts own go run =
    let within : e.who < length parts = All-head (λ (e : Entry). e.who < length parts) e history own in
    let part = get_some parts e.who within in
    let p = get_some old.points e.who (subst (λ (n : ℕ). e.who < n) (sym count) within) in
    let end = get_some ends e.who (subst (λ (n : ℕ). e.who < n) (sym counts) within) in
    let g = go e.who part.0 p.0 end.0 part.1 p.1 end.1 in
    let mine = g.mine ∙ ap (λ (l : List Entry). p.0.mine ++ l) (own_first e (history ++ after) part.0.who (sym (numbered e.who part.0 part.1))) in
    let s = split part.0 g.count p.0 end.0 e (of (history ++ after) part.0.who) g.steps mine in
    let played = makes_plays parts part.0 e.who s.n p.0 s.at e old part.1 p.1 s.makes (run.0, run.1, tt) in
    let mid = played.0 in
    let still = go_on parts numbered e (history ++ after) old.points ends p.0 s.at end.0 part.0 part.1 p.1 end.1 (record { count = s.left; steps = s.after; ended = g.ended; mine = s.mine }) go in
    let rest = walk parts numbered history after ends mid (ap (λ (l : List SessionPoint). length l) played.2.points ∙ length_set old.points e.who s.at ∙ count) counts
    (All-tail (λ (e : Entry). e.who < length parts) e history own)
    (subst (λ (l : List SessionPoint). AllGo (history ++ after) parts l ends) (sym played.2.points) still)
    (subst (λ (t : TableSeen). AreReplies (object_of t) history) (sym played.2.table) (object_with old.table (e ∷ []) history run.2)) in
    record {
      order = replicate (suc s.n) e.who ++ rest.order;
      new = rest.new;
      orders = inr (s.n, part.0, p.0, s.at, rest.order, part.1, p.1, s.makes, refl, subst (λ (l : List SessionPoint). IsOrderFrom parts l history rest.order) played.2.points rest.orders);
      plays = plays_append parts old mid rest.new (replicate (suc s.n) e.who) rest.order played.1 rest.plays;
      table = rest.table ∙ ap (λ (t : TableSeen). with_entries t history) played.2.table ∙ with_more old.table (e ∷ []) history;
      count = rest.count;
      go = rest.go;
    }

-- Each session to its end.

pub record Finished (parts : List SessionPart) (i n : ℕ) (ends : List SessionPoint) (old : World) : Type 0 where
  pub new : World
  pub runs : RunsToEnds parts i n old new
  pub table : new.table ≡ old.table
  pub count : length new.points ≡ length parts
  pub at_ends : (j : ℕ) (p end : SessionPoint) → j < i + n → slice_get new.points j ≡ Some p → slice_get ends j ≡ Some end → p ≡ end

finish : (parts : List SessionPart) (i n : ℕ) (ends : List SessionPoint) (old : World) → i + n ≡ length parts → length old.points ≡ length parts → length ends ≡ length parts → AllGo [] parts old.points ends
    → ((j : ℕ) (p end : SessionPoint) → j < i → slice_get old.points j ≡ Some p → slice_get ends j ≡ Some end → p ≡ end) → Finished parts i n ends old
finish parts i zero ends old is count counts go done = record { new = old; runs = refl; table = refl; count = count; at_ends = λ j p end lt. done j p end (omega (arith, lt)) }
finish parts i (suc n) ends old is count counts go done =
    let within : i < length parts = omega (arith, is) in
    let part = get_some parts i within in
    let p = get_some old.points i (subst (λ (n : ℕ). i < n) (sym count) within) in
    let end = get_some ends i (subst (λ (n : ℕ). i < n) (sym counts) within) in
    let g = go i part.0 p.0 end.0 part.1 p.1 end.1 in
    let ran = silent parts part.0 i g.count p.0 end.0 old part.1 p.1 g.steps (g.mine ∙ append-nil p.0.mine) in
    let mid = ran.0 in
    let at_end : slice_get mid.points i ≡ Some end.0 = ap (λ (l : List SessionPoint). slice_get l i) ran.2.points ∙ get_set_same old.points i p.0 end.0 p.1 in
    let ended : HasEnded parts i mid = record { part = part.0; point = end.0; is_part = part.1; is_point = at_end; ended = g.ended } in
    let still : AllGo [] parts mid.points ends = λ j part' p' end' at_part at_point at_end'. elim (eqb_tells j i) [
      | inl t ↦
          let one_part : part.0 ≡ part' = (cc (part.1, at_part, t.1)) in
          let one_end : end.0 ≡ end' = (cc (end.1, at_end', t.1)) in
          let one_point : end.0 ≡ p' = (cc (at_end, at_point, t.1)) in
          subst (λ (x : SessionPoint). GoesTo [] part' p' x) one_end (subst (λ (x : SessionPoint). GoesTo [] part' x end.0) one_point (subst (λ (x : SessionPart). GoesTo [] x end.0 end.0) one_part
          (record { count = zero; steps = refl; ended = g.ended; mine = sym (append-nil end.0.mine) })))
      | inr t ↦
          let there : slice_get old.points j ≡ Some p' = sym (get_set_other old.points i j end.0 t.1) ∙ sym (ap (λ (l : List SessionPoint). slice_get l j) ran.2.points) ∙ at_point in
          go j part' p' end' at_part there at_end'
    ] in
    let rest = finish parts (suc i) n ends mid (omega (arith, is)) (ap (λ (l : List SessionPoint). length l) ran.2.points ∙ length_set old.points i end.0 ∙ count) counts still
    (λ j p' end' lt at_point at_end'. elim (eqb_tells j i) [
      | inl t ↦ (cc (end.1, at_end, at_point, at_end', t.1))
      | inr t ↦ done j p' end' (omega (arith, lt, t.1)) (sym (get_set_other old.points i j end.0 t.1) ∙ sym (ap (λ (l : List SessionPoint). slice_get l j) ran.2.points) ∙ at_point) at_end'
    ]) in
    record {
      new = rest.new;
      runs = (g.count, mid, ran.1, ended, rest.runs);
      table = rest.table ∙ ran.2.table;
      count = rest.count;
      at_ends = λ j p' end' lt. rest.at_ends j p' end' (omega (arith, lt));
    }

-- All together.

orders_closing : (parts : List SessionPart) (points : List SessionPoint) (history : List Entry) (order : List ℕ) (swept rows pins : ℕ) → IsOrderFrom parts points history order → IsOrderFrom parts points (history ++ closing_calls (length parts) swept rows pins) order
orders_closing parts points [] order swept rows pins o = let nobody = slice_get_past parts (length parts) (omega arith) in inl (nobody, inl (nobody, o))
orders_closing parts points (e ∷ history) order swept rows pins (inl a) = inl (a.0, orders_closing parts points history order swept rows pins a.1)
orders_closing parts points (e ∷ history) order swept rows pins (inr (n, part, p, q, rest, is_part, is_point, makes, is, o)) =
    inr (n, part, p, q, rest, is_part, is_point, makes, is, orders_closing parts (slice_set points e.who q) history rest swept rows pins o)

pub of_closing : (n who swept rows pins : ℕ) (history : List Entry) → who < n → of (history ++ closing_calls n swept rows pins) who ≡ of history who
of_closing n who swept rows pins history lt =
    let other : n ≢ who = λ same. omega (arith, lt, same) in
    filter-append (λ (e : Entry). nat_eq e.who who) history (closing_calls n swept rows pins)
    ∙ ap (λ (l : List Entry). of history who ++ l) (other_first (call_entry n Sweep (Swept swept)) (call_entry n Count (Counted rows pins) ∷ []) who other ∙ other_first (call_entry n Count (Counted rows pins)) [] who other)
    ∙ append-nil (of history who)

pub map_places : (parts : List SessionPart) (i : ℕ) (part : SessionPart) (p : SessionPoint) → slice_get parts i ≡ Some part → slice_get (map session_start parts) i ≡ Some p → p ≡ session_start part
map_places [] i part p a b = absurd (cc a)
map_places (x ∷ parts) zero part p a b = (cc (a, b))
map_places (x ∷ parts) (suc i) part p a b = map_places parts i part p a b

pub history_is_a_schedule : HistoryIsASchedule
history_is_a_schedule parts cap history text numbered whole =
    let closes = whole.closes in
    let sessions = closes.sessions in
    let run = replies_apart (object_of (uncalled cap)) sessions (closing_calls (length parts) closes.gone closes.rows closes.pins) (subst (λ (l : List Entry). AreReplies (object_of (uncalled cap)) l) closes.entries whole.legal) in
    let chosen = choose (λ (part : SessionPart) (text : List ℕ) (end : SessionPoint). ReachesPoint part end × HasNoCommand part end × (end.mine ≡ of sessions part.who) × (text ≡ end.before)) parts whole.texts whole.each.count
    (λ i part text at_part at_text.
    let who : part.who < length parts = subst (λ (k : ℕ). k < length parts) (sym (numbered i part at_part)) (slice_get_within parts i part at_part) in
    let w = ended_with part (of history part.who) text (of_own history part.who) (whole.each.each i part text at_part at_text) in
    let mine : of history part.who ≡ of sessions part.who = ap (λ (l : List Entry). of l part.who) closes.entries ∙ of_closing (length parts) part.who closes.gone closes.rows closes.pins sessions who in
    (w.point, (w.reached, w.ended, w.mine_is ∙ mine, w.text_is))) in
    let ends = chosen.0 in
    let go : (i : ℕ) (part : SessionPart) (p end : SessionPoint) → slice_get parts i ≡ Some part → slice_get (map session_start parts) i ≡ Some p → slice_get ends i ≡ Some end → GoesTo sessions part p end =
    λ i part p end at_part at_point at_end.
    let text = get_some whole.texts i (subst (λ (n : ℕ). i < n) (sym whole.each.count) (slice_get_within parts i part at_part)) in
    let c = chosen.2 i part text.0 end at_part text.1 at_end in
    subst (λ (x : SessionPoint). GoesTo sessions part x end) (sym (map_places parts i part p at_part at_point))
    (record { count = c.0.0; steps = c.0.1; ended = c.1; mine = c.2 }) in
    let walked = walk parts numbered sessions [] ends (new_world parts cap) (length-map parts session_start) chosen.1 closes.own (λ i part p end a b c. let g = go i part p end a b c in record { count = g.count; steps = g.steps; ended = g.ended; mine = g.mine ∙ ap (λ (l : List Entry). p.mine ++ of l part.who) (sym (append-nil sessions)) }) run.0 in
    let done = finish parts 0 (length parts) ends walked.new (omega arith) walked.count chosen.1 walked.go (λ j p end lt. absurd (omega (arith, lt))) in
    let points : done.new.points ≡ ends = same_places done.new.points ends (done.count ∙ sym chosen.1) (λ i x y at_x at_y. done.at_ends i x y (subst (λ (n : ℕ). i < 0 + n) done.count (omega (arith, slice_get_within done.new.points i x at_x))) at_x at_y) in
    let texts : flat_map (λ (t : List ℕ). t) whole.texts ≡ flat_map (λ (p : SessionPoint). p.before) ends = same_joined (λ (t : List ℕ). t) (λ (p : SessionPoint). p.before) whole.texts ends (whole.each.count ∙ sym chosen.1)
    (λ i t end at_text at_end. let part = get_some parts i (subst (λ (n : ℕ). i < n) whole.each.count (slice_get_within whole.texts i t at_text)) in
    let c = chosen.2 i part.0 t end part.1 at_text at_end in c.3) in (
      walked.order,
      subst (λ (l : List Entry). IsOrderOf parts l walked.order) (sym closes.entries) (orders_closing parts (map session_start parts) sessions walked.order closes.gone closes.rows closes.pins walked.orders),
      record {
        ordered = walked.new;
        world = done.new;
        plays = walked.plays;
        ends = done.runs;
        finishes = record {
          gone = closes.gone;
          rows = closes.rows;
          pins = closes.pins;
          replies = subst (λ (t : TableSeen). AreReplies (object_of t) (closing_calls (length parts) closes.gone closes.rows closes.pins)) (sym (done.table ∙ walked.table)) run.1;
          history_is = closes.entries ∙ ap (λ (t : TableSeen). t.history ++ closing_calls (length parts) closes.gone closes.rows closes.pins) (sym (done.table ∙ walked.table));
          text_is = closes.text_is ∙ ap (λ (l : List ℕ). l ++ last_line closes.gone closes.rows closes.pins) (texts ∙ ap (λ (l : List SessionPoint). flat_map (λ (p : SessionPoint). p.before) l) (sym points));
        };
      },
    )
