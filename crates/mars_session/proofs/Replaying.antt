-- What a replay finds at each entry of a whole run.
use Rattle.std.proofs.Common.{◌≡◌, ℕ, ◌<◌, List, [], ◌∷◌, ◌++◌, length, map, ap, sym, ◌∙◌, subst}
use Rattle.std.specs.Prelude.{Some, slice_get, All}
use Rattle.std.proofs.lemmas.List.{length-map}
use Rattle.std.proofs.lemmas.List.Elements.{All-head, All-tail, All-nil, All-cons}
use Rattle.std.proofs.lemmas.Option.{slice_get_within}
use Rattle.mars_table.specs.declared.entry.Entry.{Entry}
use Rattle.mars_table.specs.Calls.{MayCall, IsReply}
use Rattle.mars_table.specs.History.{call_entry, of, Legal}
use Rattle.mars_table.specs.TableSeen.{TableSeen, uncalled, object_of}
use Rattle.mars_session.specs.SessionPoints.{SessionPart, SessionPoint, session_start}
use Rattle.mars_session.specs.SessionEvents.{HasNoCommand, ReachesPoint}
use Rattle.mars_session.specs.WholeRuns.{closing_calls, IsWholeRun}
use Rattle.mars_session.specs.Worlds.{new_world}
use Rattle.mars_session.specs.WorldLaws.{NumberedInOrder, WholeGoesOn}
use Rattle.mars_session.proofs.Tables.{replies_apart}
use Rattle.mars_session.proofs.Places.{get_some, choose}
use Rattle.mars_session.proofs.Points.{wants_of}
use Rattle.mars_session.proofs.Closed.{ended_with, of_own}
use Rattle.mars_session.proofs.Schedules.{GoesTo, AllGo, split, walk, of_closing, map_places, own_first}

-- the ends of the sessions of a whole run, and the run of its table
pub record Starts (parts : List SessionPart) (limit : ℕ) (sessions : List Entry) : Type 0 where
  pub ends : List SessionPoint
  pub count : length ends ≡ length parts
  pub go : (i : ℕ) (part : SessionPart) (p end : SessionPoint) → slice_get parts i ≡ Some part → slice_get (map session_start parts) i ≡ Some p → slice_get ends i ≡ Some end → GoesTo sessions part p end
  pub replies : Legal limit sessions

pub starts : (parts : List SessionPart) (limit : ℕ) (history : List Entry) (text : List ℕ) → NumberedInOrder parts → (whole : IsWholeRun parts limit history text) → Starts parts limit whole.closes.sessions
starts parts limit history text numbered whole =
    let closes = whole.closes in
    let run = replies_apart (object_of (uncalled limit)) closes.sessions (closing_calls (length parts) closes.gone closes.rows closes.pins) (subst (λ (l : List Entry). Legal limit l) closes.entries whole.legal) in
    let chosen = choose (λ (part : SessionPart) (text : List ℕ) (end : SessionPoint). ReachesPoint part end × HasNoCommand part end × (end.mine ≡ of closes.sessions part.who)) parts whole.texts whole.each.count
    (λ i part text at_part at_text.
    let who : part.who < length parts = subst (λ (k : ℕ). k < length parts) (sym (numbered i part at_part)) (slice_get_within parts i part at_part) in
    let w = ended_with part (of history part.who) text (of_own history part.who) (whole.each.each i part text at_part at_text) in
    let mine : of history part.who ≡ of closes.sessions part.who = ap (λ (l : List Entry). of l part.who) closes.entries ∙ of_closing (length parts) part.who closes.gone closes.rows closes.pins closes.sessions who in
    (w.point, (w.reached, w.ended, w.mine_is ∙ mine))) in
    record {
      ends = chosen.0;
      count = chosen.1;
      replies = run.0;
      go = λ i part p end at_part at_point at_end.
          let text = get_some whole.texts i (subst (λ (n : ℕ). i < n) (sym whole.each.count) (slice_get_within parts i part at_part)) in
          let c = chosen.2 i part text.0 end at_part text.1 at_end in
          subst (λ (x : SessionPoint). GoesTo closes.sessions part x end) (sym (map_places parts i part p at_part at_point)) (record { count = c.0.0; steps = c.0.1; ended = c.1; mine = c.2 });
    }

left_of : (P : Entry → Type 0) (xs ys : List Entry) → All P (xs ++ ys) → All P xs × All P ys
left_of P [] ys all = (All-nil P, all)
left_of P (x ∷ xs) ys all = let rest = left_of P xs ys (All-tail P x (xs ++ ys) all) in (All-cons P x xs (All-head P x (xs ++ ys) all) rest.0, rest.1)

pub whole_goes_on : WholeGoesOn
whole_goes_on parts limit history text xs ys e numbered whole is =
    let s = starts parts limit history text numbered whole in
    let own = left_of (λ (e : Entry). e.who < length parts) xs (e ∷ ys) (subst (λ (l : List Entry). All (λ (e : Entry). e.who < length parts) l) is whole.closes.own) in
    let run = replies_apart (object_of (uncalled limit)) xs (e ∷ ys) (subst (λ (l : List Entry). Legal limit l) is s.replies) in
    let w = walk parts numbered xs (e ∷ ys) s.ends (new_world parts limit) (length-map parts session_start) s.count own.0
    (subst (λ (l : List Entry). AllGo l parts (map session_start parts) s.ends) is s.go) run.0 in
    let within : e.who < length parts = All-head (λ (e : Entry). e.who < length parts) e ys own.1 in
    let part = get_some parts e.who within in
    let p = get_some w.new.points e.who (subst (λ (n : ℕ). e.who < n) (sym w.count) within) in
    let end = get_some s.ends e.who (subst (λ (n : ℕ). e.who < n) (sym s.count) within) in
    let g = w.go e.who part.0 p.0 end.0 part.1 p.1 end.1 in
    let who : e.who ≡ part.0.who = sym (numbered e.who part.0 part.1) in
    let cut = split part.0 g.count p.0 end.0 e (of ys part.0.who) g.steps (g.mine ∙ ap (λ (l : List Entry). p.0.mine ++ l) (own_first e ys part.0.who who)) in
    let own_entry : e ≡ call_entry part.0.who e.call e.reply = λ i. record { who = who i; call = e.call; reply = e.reply } in
    let wants = wants_of part.0 cut.makes.until cut.at e.call e.reply cut.makes.last (cut.makes.makes ∙ ap (λ (l : List Entry). l ++ e ∷ []) (sym cut.makes.none) ∙ ap (λ (x : Entry). cut.makes.until.mine ++ x ∷ []) own_entry) in (
      w.order,
      w.new,
      w.orders,
      w.plays,
      ap (λ (t : TableSeen). t.history) w.table,
      record {
        part = part.0;
        point = p.0;
        until = cut.makes.until;
        events = cut.n;
        is_part = part.1;
        is_point = p.1;
        steps = cut.makes.steps;
        none = cut.makes.none;
        wants = wants;
        may = subst (λ (t : TableSeen). MayCall (object_of t) e.who e.call) (sym w.table) run.1.0;
        replies = subst (λ (t : TableSeen). IsReply (object_of t) e.call e.reply) (sym w.table) run.1.1;
      },
    )
