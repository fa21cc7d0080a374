-- One order belongs to a history, and one history and text come of a schedule.
use Rattle.std.proofs.Common.{◌≡◌, ℕ, zero, suc, List, [], ◌∷◌, ◌++◌, length, map, refl, ap, sym, ◌∙◌, subst, arith, append-nil, length-append, inl, inr}
use Rattle.std.specs.Prelude.{◌⊎◌, slice_set, replicate}
use Rattle.std.specs.List.{flat_map}
use Rattle.std.proofs.lemmas.List.{map-append}
use Rattle.mars_table.specs.declared.entry.Call.{Call}
use Rattle.mars_table.specs.declared.entry.Reply.{Reply}
use Rattle.mars_table.specs.declared.entry.Reply.TheVariants.{Swept, Counted}
use Rattle.mars_table.specs.declared.entry.Entry.{Entry}
use Rattle.mars_rows.specs.Object.{TableObject}
use Rattle.mars_rows.specs.Sound.{IsSound}
use Rattle.mars_table.specs.History.{call_entry, AreReplies}
use Rattle.mars_table.specs.TableSeen.{object_of}
use Rattle.mars_session.specs.Lines.{last_line}
use Rattle.mars_session.specs.SessionPoints.{SessionPart, SessionPoint, session_start}
use Rattle.mars_session.specs.SessionEvents.{IsEvent, HasNoCommand, AreEvents}
use Rattle.mars_session.specs.SessionAlone.{BeginsWith, replies_of}
use Rattle.mars_session.specs.WholeRuns.{closing_calls}
use Rattle.mars_session.specs.Worlds.{World, new_world, with_entries, MovesSession, Happens, Plays, HasEnded, RunsToEnds, Finishes, MakesEntry, IsOrderFrom}
use Rattle.mars_session.specs.WorldLaws.{NumberedInOrder, OrderIsOne, ScheduleIsOne}
use Rattle.mars_session.proofs.Worlds.{Sound, happens_sound, plays_sound, begins_sound, sound_table}
use Rattle.mars_table.proofs.CallLemmas.{replies_are_determined}
use Rattle.mars_session.proofs.Lists.{begins_same}
use Rattle.mars_session.proofs.Places.{cancel}
use Rattle.mars_session.proofs.Points.{Grows, none, one, grows, next_one, ended_stays, wants_one, wants_of}
use Rattle.mars_session.proofs.Schedules.{silent_first}

-- an event that makes this entry, and one that makes none, aren't both possible
both_ways : (part : SessionPart) (p q r : SessionPoint) (e : Entry) → IsEvent part p q → IsEvent part p r → q.mine ≡ p.mine ++ e ∷ [] → r.mine ≡ p.mine → ⊥
both_ways part p q r e a b makes silent =
    let given = replies_of q.mine in
    let more : BeginsWith (replies_of r.mine) given = (e.reply ∷ [], ap replies_of makes ∙ map-append (λ (e : Entry). e.reply) p.mine (e ∷ []) ∙ ap (λ (l : List Entry). replies_of l ++ e.reply ∷ []) (sym silent)) in
    let same : q ≡ r = next_one part given p q r a b (begins_same given) more in
    omega (arith, ap (λ (x : SessionPoint). length x.mine) same, ap length makes, ap length silent, length-append p.mine (e ∷ []))

same_next : (part : SessionPart) (p q r : SessionPoint) (mine : List Entry) → IsEvent part p q → IsEvent part p r → q.mine ≡ mine → r.mine ≡ mine → q ≡ r
same_next part p q r mine a b at_q at_r = next_one part (replies_of mine) p q r a b (subst (λ (l : List Entry). BeginsWith (replies_of l) (replies_of mine)) (sym at_q) (begins_same (replies_of mine))) (subst (λ (l : List Entry). BeginsWith (replies_of l) (replies_of mine)) (sym at_r) (begins_same (replies_of mine)))

makes_one : (part : SessionPart) (n m : ℕ) (p u v q r : SessionPoint) (e : Entry) → AreEvents part n p u → AreEvents part m p v → u.mine ≡ p.mine → v.mine ≡ p.mine → IsEvent part u q → IsEvent part v r → q.mine ≡ p.mine ++ e ∷ [] → r.mine ≡ p.mine ++ e ∷ [] → (n ≡ m) × (q ≡ r)
makes_one part zero zero p u v q r e a b su sv nq nr mq mr =
    (refl, same_next part p q r (p.mine ++ e ∷ []) (subst (λ (x : SessionPoint). IsEvent part x q) a nq) (subst (λ (x : SessionPoint). IsEvent part x r) b nr) mq mr)
makes_one part zero (suc m) p u v q r e a b su sv nq nr mq mr =
    absurd (both_ways part p q b.0 e (subst (λ (x : SessionPoint). IsEvent part x q) a nq) b.1 mq (silent_first part m p b.0 v b.1 b.2 sv))
makes_one part (suc n) zero p u v q r e a b su sv nq nr mq mr =
    absurd (both_ways part p r a.0 e (subst (λ (x : SessionPoint). IsEvent part x r) b nr) a.1 mr (silent_first part n p a.0 u a.1 a.2 su))
makes_one part (suc n) (suc m) p u v q r e a b su sv nq nr mq mr =
    let sx = silent_first part n p a.0 u a.1 a.2 su in
    let sy = silent_first part m p b.0 v b.1 b.2 sv in
    let same : a.0 ≡ b.0 = same_next part p a.0 b.0 p.mine a.1 b.1 sx sy in
    let longer : p.mine ++ e ∷ [] ≡ a.0.mine ++ e ∷ [] = ap (λ (l : List Entry). l ++ e ∷ []) (sym sx) in
    let rest = makes_one part n m a.0 u v q r e a.2 (subst (λ (x : SessionPoint). AreEvents part m x v) (sym same) b.2) (su ∙ sym sx) (sv ∙ sym sx) nq nr (mq ∙ longer) (mr ∙ longer) in
    (ap suc rest.0, rest.1)

orders_one : (parts : List SessionPart) (points : List SessionPoint) (history : List Entry) (order other : List ℕ) → IsOrderFrom parts points history order → IsOrderFrom parts points history other → order ≡ other
orders_one parts points [] order other a b = a ∙ sym b
orders_one parts points (e ∷ history) order other (inl a) (inl b) = orders_one parts points history order other a.1 b.1
orders_one parts points (e ∷ history) order other (inl a) (inr (n, part, p, q, rest, is_part, is_point, makes, is, o)) = absurd (cc (a.0, is_part))
orders_one parts points (e ∷ history) order other (inr (n, part, p, q, rest, is_part, is_point, makes, is, o)) (inl b) = absurd (cc (b.0, is_part))
orders_one parts points (e ∷ history) order other (inr (n, part, p, q, rest, is_part, is_point, makes, is, o)) (inr (n', part', p', q', rest', is_part', is_point', makes', is', o')) =
    let one_part : part' ≡ part = (cc (is_part, is_part')) in
    let one_point : p' ≡ p = (cc (is_point, is_point')) in
    let m : MakesEntry part n' p e q' = subst (λ (x : SessionPart). MakesEntry x n' p e q') one_part (subst (λ (x : SessionPoint). MakesEntry part' n' x e q') one_point makes') in
    let same = makes_one part n n' p makes.until m.until q q' e makes.steps m.steps makes.none m.none makes.last m.last makes.makes m.makes in
    let rests = orders_one parts (slice_set points e.who q) history rest rest' o (subst (λ (x : SessionPoint). IsOrderFrom parts (slice_set points e.who x) history rest') (sym same.1) o') in
    is ∙ (λ i. replicate (suc (same.0 i)) e.who ++ rests i) ∙ sym is'

pub order_is_one : OrderIsOne
order_is_one parts history order other a b = orders_one parts (map session_start parts) history order other a b

-- Events are determined: the reply is the table's.

made_of : (part : SessionPart) (p q : SessionPoint) (made more : List Entry) → q.mine ≡ p.mine ++ made → q.mine ≡ p.mine ++ more → made ≡ more
made_of part p q made more a b = cancel p.mine made more (sym a ∙ b)

pub record SameMade (q r : SessionPoint) (made others : List Entry) : Type 0 where
  pub to : q ≡ r
  pub list : made ≡ others

moves_same : (part : SessionPart) (p q r : SessionPoint) (t : TableObject) (made others : List Entry) → IsSound t → IsEvent part p q → IsEvent part p r → q.mine ≡ p.mine ++ made → r.mine ≡ p.mine ++ others → AreReplies t made → AreReplies t others → SameMade q r made others
moves_same part p q r t made others sound nq nr mq mr ra rb = by_growth (grows part p q nq) (grows part p r nr)
  where
    silent_both : q.mine ≡ p.mine → r.mine ≡ p.mine → SameMade q r made others
    silent_both x y =
        let no_made : made ≡ [] = made_of part p q made [] mq (x ∙ sym (append-nil p.mine)) in
        let no_others : others ≡ [] = made_of part p r others [] mr (y ∙ sym (append-nil p.mine)) in
        record { to = same_next part p q r p.mine nq nr x y; list = no_made ∙ sym no_others }

    calls_both : (call other : Call) (reply again : Reply) → q.mine ≡ p.mine ++ call_entry part.who call reply ∷ [] → r.mine ≡ p.mine ++ call_entry part.who other again ∷ [] → call ≡ other → SameMade q r made others
    calls_both call other reply again x y same =
        let y' : r.mine ≡ p.mine ++ call_entry part.who call again ∷ [] = y ∙ ap (λ (c : Call). p.mine ++ call_entry part.who c again ∷ []) (sym same) in
        let is_made : made ≡ call_entry part.who call reply ∷ [] = made_of part p q made (call_entry part.who call reply ∷ []) mq x in
        let is_others : others ≡ call_entry part.who call again ∷ [] = made_of part p r others (call_entry part.who call again ∷ []) mr y' in
        let sa = subst (λ (l : List Entry). AreReplies t l) is_made ra in
        let sb = subst (λ (l : List Entry). AreReplies t l) is_others rb in
        let one_reply : reply ≡ again = replies_are_determined t call reply again sound sa.1 sb.1 in
        let y'' : r.mine ≡ p.mine ++ call_entry part.who call reply ∷ [] = y' ∙ ap (λ (a : Reply). p.mine ++ call_entry part.who call a ∷ []) (sym one_reply) in
        record {
          to = same_next part p q r (p.mine ++ call_entry part.who call reply ∷ []) nq nr x y'';
          list = is_made ∙ ap (λ (a : Reply). call_entry part.who call a ∷ []) one_reply ∙ sym is_others;
        }

    by_growth : Grows part p q → Grows part p r → SameMade q r made others
    by_growth (none x) (none y) = silent_both x y
    by_growth (none x) (one call reply fits y) = absurd (both_ways part p r q (call_entry part.who call reply) nr nq y x)
    by_growth (one call reply fits x) (none y) = absurd (both_ways part p q r (call_entry part.who call reply) nq nr x y)
    by_growth (one call reply fits x) (one other again fits' y) = calls_both call other reply again x y (wants_one part p call other (wants_of part p q call reply nq x) (wants_of part p r other again nr y))

module _ (parts : List SessionPart) (rows : ℕ) (numbered : NumberedInOrder parts) where
  happens_one : (i : ℕ) (w a b : World) → Sound parts rows w → Happens parts i w a → Happens parts i w b → a ≡ b
  happens_one i w a b sound x y = by_event x.event y.event
    where
      one_part : y.part ≡ x.part
      one_part = cc (x.is_part, y.is_part)

      one_point : y.point ≡ x.point
      one_point = cc (x.is_point, y.is_point)

      by_event : (HasNoCommand x.part x.point × (a ≡ w)) ⊎ MovesSession x.part i x.point w a → (HasNoCommand y.part y.point × (b ≡ w)) ⊎ MovesSession y.part i y.point w b → a ≡ b
      by_event (inl e) (inl f) = e.1 ∙ sym f.1
      by_event (inl e) (inr m) = absurd (ended_stays x.part x.point m.to e.0 (subst (λ (t : SessionPart). IsEvent t x.point m.to) one_part (subst (λ (t : SessionPoint). IsEvent y.part t m.to) one_point m.event)))
      by_event (inr m) (inl f) = absurd (ended_stays y.part y.point m.to f.0 (subst (λ (t : SessionPart). IsEvent t y.point m.to) (sym one_part) (subst (λ (t : SessionPoint). IsEvent x.part t m.to) (sym one_point) m.event)))
      by_event (inr m) (inr n) =
          let next : IsEvent x.part x.point n.to = subst (λ (t : SessionPart). IsEvent t x.point n.to) one_part (subst (λ (t : SessionPoint). IsEvent y.part t n.to) one_point n.event) in
          let makes : n.to.mine ≡ x.point.mine ++ n.made = n.makes ∙ ap (λ (t : SessionPoint). t.mine ++ n.made) one_point in
          let s = moves_same x.part x.point m.to n.to (object_of w.table) m.made n.made (sound_table parts rows w sound) m.event next m.makes makes m.table.replies n.table.replies in
          let table : a.table ≡ b.table = m.table.table ∙ ap (λ (l : List Entry). with_entries w.table l) s.list ∙ sym n.table.table in
          let points : a.points ≡ b.points = m.points ∙ ap (λ (t : SessionPoint). slice_set w.points i t) s.to ∙ sym n.points in
          λ k. record { table = table k; points = points k }

  plays_one : (w a b : World) (order : List ℕ) → Sound parts rows w → Plays parts w order a → Plays parts w order b → a ≡ b
  plays_one w a b [] sound x y = x ∙ sym y
  plays_one w a b (i ∷ order) sound x y =
      plays_one x.0 a b order (happens_sound parts rows i w x.0 numbered sound x.1) x.2 (subst (λ (m : World). Plays parts m order b) (sym (happens_one i w x.0 y.0 sound x.1 y.1)) y.2)

  ended_still : (i : ℕ) (w a : World) → Sound parts rows w → HasEnded parts i w → Happens parts i w a → a ≡ w
  ended_still i w a sound e h = happens_one i w a w sound h (record { part = e.part; point = e.point; is_part = e.is_part; is_point = e.is_point; event = inl (e.ended, refl) })

  ended_plays : (i k : ℕ) (w a : World) → Sound parts rows w → HasEnded parts i w → Plays parts w (replicate k i) a → a ≡ w
  ended_plays i zero w a sound e x = x
  ended_plays i (suc k) w a sound e x = let same = ended_still i w x.0 sound e x.1 in ended_plays i k w a sound e (subst (λ (m : World). Plays parts m (replicate k i) a) same x.2)

  to_end_one : (i k j : ℕ) (w a b : World) → Sound parts rows w → Plays parts w (replicate k i) a → Plays parts w (replicate j i) b → HasEnded parts i a → HasEnded parts i b → a ≡ b
  to_end_one i zero j w a b sound x y ea eb = x ∙ sym (ended_plays i j w b sound (subst (λ (m : World). HasEnded parts i m) x ea) y)
  to_end_one i (suc k) zero w a b sound x y ea eb = ended_plays i (suc k) w a sound (subst (λ (m : World). HasEnded parts i m) y eb) x ∙ sym y
  to_end_one i (suc k) (suc j) w a b sound x y ea eb =
      to_end_one i k j x.0 a b (happens_sound parts rows i w x.0 numbered sound x.1) x.2 (subst (λ (m : World). Plays parts m (replicate j i) b) (sym (happens_one i w x.0 y.0 sound x.1 y.1)) y.2) ea eb

  runs_one : (i n : ℕ) (w a b : World) → Sound parts rows w → RunsToEnds parts i n w a → RunsToEnds parts i n w b → a ≡ b
  runs_one i zero w a b sound x y = x ∙ sym y
  runs_one i (suc n) w a b sound x y =
      let same : x.1 ≡ y.1 = to_end_one i x.0 y.0 w x.1 y.1 sound x.2 y.2 x.3 y.3 in
      runs_one (suc i) n x.1 a b (plays_sound parts rows (replicate x.0 i) w x.1 numbered sound x.2) x.4 (subst (λ (m : World). RunsToEnds parts (suc i) n m b) (sym same) y.4)

finishes_one : (parts : List SessionPart) (w : World) (history other : List Entry) (text again : List ℕ) → Finishes parts w history text → Finishes parts w other again → (history ≡ other) × (text ≡ again)
finishes_one parts w history other text again x y =
    let n = length parts in
    let first : Swept x.gone ≡ Swept y.gone = x.replies.1 ∙ sym y.replies.1 in
    let second : Counted x.rows x.pins ≡ Counted y.rows y.pins = x.replies.2.1 ∙ sym y.replies.2.1 in
    let gone : x.gone ≡ y.gone = (cc first) in
    let rows : x.rows ≡ y.rows = (cc second) in
    let pins : x.pins ≡ y.pins = (cc second) in (
      x.history_is ∙ (λ k. w.table.history ++ closing_calls n (gone k) (rows k) (pins k)) ∙ sym y.history_is,
      x.text_is ∙ (λ k. flat_map (λ (p : SessionPoint). p.before) w.points ++ last_line (gone k) (rows k) (pins k)) ∙ sym y.text_is,
    )

pub schedule_is_one : ScheduleIsOne
schedule_is_one parts rows order history other text again numbered x y =
    let begun = begins_sound parts rows in
    let ordered : x.ordered ≡ y.ordered = plays_one parts rows numbered (new_world parts rows) x.ordered y.ordered order begun x.plays y.plays in
    let played = plays_sound parts rows order (new_world parts rows) x.ordered numbered begun x.plays in
    let world : x.world ≡ y.world = runs_one parts rows numbered 0 (length parts) x.ordered x.world y.world played x.ends (subst (λ (m : World). RunsToEnds parts 0 (length parts) m y.world) (sym ordered) y.ends) in
    finishes_one parts x.world history other text again x.finishes (subst (λ (m : World). Finishes parts m other again) (sym world) y.finishes)
