-- A session that ended with the entries of a history.
use Rattle.std.proofs.Common.{◌≡◌, ℕ, zero, suc, List, [], ◌∷◌, length, refl, ap, sym, ◌∙◌, subst, arith, length-append, get_or}
use Rattle.std.specs.Prelude.{All, nat_eq}
use Rattle.std.proofs.lemmas.List.{length-map}
use Rattle.std.proofs.lemmas.List.Elements.{All-nil, All-cons, All-append, filter_passes, All-head, All-tail}
use Rattle.std.proofs.lemmas.Bool.{eqb-true}
use Rattle.mars_table.specs.declared.entry.Call.{Call}
use Rattle.mars_table.specs.declared.entry.Entry.{Entry}
use Rattle.mars_table.specs.History.{call_entry, of}
use Rattle.mars_session.specs.SessionPoints.{SessionPart, SessionPoint, session_start}
use Rattle.mars_session.specs.SessionEvents.{HasNoCommand, AreEvents, ReachesPoint}
use Rattle.mars_session.specs.SessionAlone.{replies_of, calls_of, IsSessionAlone, ComesTo, at_end, at_call}
use Rattle.mars_session.proofs.Lists.{begins_same, begins_length}
use Rattle.mars_session.proofs.Points.{none, one, grows}

pub after_own : (part : SessionPart) (n : ℕ) (p q : SessionPoint) → AreEvents part n p q → All (λ (e : Entry). e.who ≡ part.who) p.mine → All (λ (e : Entry). e.who ≡ part.who) q.mine
after_own part zero p q a own = subst (λ (x : SessionPoint). All (λ (e : Entry). e.who ≡ part.who) x.mine) (sym a) own
after_own part (suc n) p q a own = after_own part n a.0 q a.2 (elim (grows part p a.0 a.1) [
  | none e ↦ subst (λ (l : List Entry). All (λ (e : Entry). e.who ≡ part.who) l) (sym e) own
  | one call reply fits e ↦ subst (λ (l : List Entry). All (λ (e : Entry). e.who ≡ part.who) l) (sym e) (All-append (λ (e : Entry). e.who ≡ part.who) p.mine (call_entry part.who call reply ∷ []) own (All-cons (λ (e : Entry). e.who ≡ part.who) (call_entry part.who call reply) [] refl (All-nil (λ (e : Entry). e.who ≡ part.who))))
])

pub of_own : (history : List Entry) (who : ℕ) → All (λ (e : Entry). e.who ≡ who) (of history who)
of_own history who = λ k d lt. eqb-true (get_or (of history who) k d).who who (filter_passes (λ (e : Entry). nat_eq e.who who) history k d lt)

-- entries of one caller are told by their calls and replies
pub same_entries : (who : ℕ) (xs ys : List Entry) → All (λ (e : Entry). e.who ≡ who) xs → All (λ (e : Entry). e.who ≡ who) ys → calls_of xs ≡ calls_of ys → replies_of xs ≡ replies_of ys → xs ≡ ys
same_entries who [] [] a b c r = refl
same_entries who [] (y ∷ ys) a b c r = absurd cc
same_entries who (x ∷ xs) [] a b c r = absurd cc
same_entries who (x ∷ xs) (y ∷ ys) a b c r =
    let by : x.who ≡ y.who = All-head (λ (e : Entry). e.who ≡ who) x xs a ∙ sym (All-head (λ (e : Entry). e.who ≡ who) y ys b) in
    let call : x.call ≡ y.call = (cc c) in
    let reply : x.reply ≡ y.reply = (cc r) in
    let calls : calls_of xs ≡ calls_of ys = (cc c) in
    let told : replies_of xs ≡ replies_of ys = (cc r) in
    let rest = same_entries who xs ys (All-tail (λ (e : Entry). e.who ≡ who) x xs a) (All-tail (λ (e : Entry). e.who ≡ who) y ys b) calls told in
    λ i. record { who = by i; call = call i; reply = reply i } ∷ rest i

-- the session alone, with the replies of its own entries, ended with them
pub record EndedWith (part : SessionPart) (mine : List Entry) (text : List ℕ) : Type 0 where
  pub point : SessionPoint
  pub reached : ReachesPoint part point
  pub ended : HasNoCommand part point
  pub mine_is : point.mine ≡ mine
  pub text_is : text ≡ point.before

stands_ended : (part : SessionPart) (mine : List Entry) (p : SessionPoint) (made : List Call) → made ≡ calls_of mine → ComesTo part (replies_of mine) p made → (HasNoCommand part p) × (calls_of p.mine ≡ calls_of mine) × (replies_of p.mine ≡ replies_of mine)
stands_ended part mine p made is (at_end e b) = (e, is, sym (begins_length (replies_of p.mine) (replies_of mine) b (omega (arith, ap length is, length-map p.mine (λ (e : Entry). e.call), length-map mine (λ (e : Entry). e.call), length-map p.mine (λ (e : Entry). e.reply), length-map mine (λ (e : Entry). e.reply)))))
stands_ended part mine p made is (at_call call w same) = absurd (omega (arith, ap length is, ap length same, length-append (calls_of p.mine) (call ∷ []), length-map p.mine (λ (e : Entry). e.call), length-map mine (λ (e : Entry). e.call), length-map p.mine (λ (e : Entry). e.reply), length-map mine (λ (e : Entry). e.reply)))

pub ended_with : (part : SessionPart) (mine : List Entry) (text : List ℕ) → All (λ (e : Entry). e.who ≡ part.who) mine → IsSessionAlone part (replies_of mine) text (calls_of mine) → EndedWith part mine text
ended_with part mine text own alone =
    let s = stands_ended part mine alone.point (calls_of mine) refl alone.comes in
    record {
      point = alone.point;
      reached = alone.reached;
      ended = s.0;
      mine_is = same_entries part.who alone.point.mine mine (after_own part alone.reached.0 (session_start part) alone.point alone.reached.1 (All-nil (λ (e : Entry). e.who ≡ part.who))) own s.1 s.2;
      text_is = alone.text_is;
    }

pub alone_with : (part : SessionPart) (mine : List Entry) (text : List ℕ) → EndedWith part mine text → IsSessionAlone part (replies_of mine) text (calls_of mine)
alone_with part mine text w = record {
  point = w.point;
  reached = w.reached;
  text_is = w.text_is;
  comes = subst (λ (l : List Entry). ComesTo part (replies_of l) w.point (calls_of l)) w.mine_is (at_end w.ended (begins_same (replies_of w.point.mine)));
}
