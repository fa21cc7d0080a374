-- What the layers above know of a session's events. Nothing above this file looks into `ActsAt` or `IsAskEvent`.
use Rattle.std.proofs.Common.{◌≡◌, ℕ, zero, suc, List, [], ◌∷◌, ◌++◌, length, refl, ap, sym, ◌∙◌, subst, arith, append-nil, length-append}
use Rattle.std.specs.Prelude.{Option, Some, slice_get, Bool, true, false}
use Rattle.std.proofs.lemmas.List.{map-append}
use Rattle.mars_tree.specs.declared.label.NameId.{NameId}
use Rattle.mars_script.specs.declared.script.Command.{Command}
use Rattle.mars_table.specs.declared.entry.Call.{Call}
use Rattle.mars_table.specs.declared.entry.Reply.{Reply}
use Rattle.mars_table.specs.declared.entry.Entry.{Entry}
use Rattle.mars_table.specs.History.{call_entry}
use Rattle.mars_session.specs.SessionPoints.{SessionPart, SessionPoint, session_start}
use Rattle.mars_session.specs.CommandActs.{CommandAct, Writes, Uses, Asks, TableUse, ActsAt, AnswersCall, call_of, use_line}
use Rattle.mars_session.specs.AskEvents.{AskEvent}
use Rattle.mars_session.specs.SessionEvents.{answered, stepped_by, DoesAct, IsEvent, HasNoCommand, WantsCall, AreEvents, ReachesPoint}
use Rattle.mars_session.specs.SessionAlone.{BeginsWith, replies_of, calls_of, ComesTo, at_end, at_call}
use Rattle.mars_session.specs.SessionLaws.{AloneIsOne, AloneGrows}
use Rattle.mars_session.proofs.ActLemmas.{acts_one}
use Rattle.mars_session.proofs.AskOnes.{event_once}
use Rattle.mars_session.proofs.Lists.{begins_same, begins_more, begins_on, next_same}

some_same : {A : Type 0} {o : Option A} {x y : A} → o ≡ Some x → o ≡ Some y → x ≡ y
some_same p q = cc (p, q)

-- An event makes no entry, or one of its session.
pub data Grows (part : SessionPart) (p q : SessionPoint) : Type 0 where
  none : q.mine ≡ p.mine → Grows part p q
  one : (call : Call) (reply : Reply) → AnswersCall call reply → q.mine ≡ p.mine ++ call_entry part.who call reply ∷ [] → Grows part p q

stepped_mine : (ends : Bool) (vars : List NameId) (event : AskEvent) (p : SessionPoint) → (stepped_by ends vars event p).mine ≡ p.mine
stepped_mine true vars event p = refl
stepped_mine false vars event p = refl

does_grows : (part : SessionPart) (act : CommandAct) (p q : SessionPoint) → DoesAct part act p q → Grows part p q
does_grows part (Writes line) p q d = none (ap (λ x. x.mine) d)
does_grows part (Uses wish) p q d = one (call_of wish) d.0 d.1 (ap (λ x. x.mine) d.2)
does_grows part (Asks ask kept) p q d = none (ap (λ x. x.mine) d.2 ∙ stepped_mine d.0.ends ask.vars d.0 p)

pub grows : (part : SessionPart) (p q : SessionPoint) → IsEvent part p q → Grows part p q
grows part p q n = does_grows part n.act p q n.does

-- An event with the same replies is one.
does_one : (part : SessionPart) (act : CommandAct) (given : List Reply) (p q r : SessionPoint) → DoesAct part act p q → DoesAct part act p r
    → BeginsWith (replies_of q.mine) given → BeginsWith (replies_of r.mine) given → q ≡ r
does_one part (Writes line) given p q r a b x y = a ∙ sym b
does_one part (Uses wish) given p q r a b x y =
    let told : (reply : Reply) (z : SessionPoint) → z ≡ answered part wish reply p → BeginsWith (replies_of z.mine) given → BeginsWith (replies_of p.mine ++ reply ∷ []) given =
    λ reply z e begins. subst (λ (l : List Reply). BeginsWith l given) (ap (λ (z : SessionPoint). replies_of z.mine) e ∙ map-append (λ (e : Entry). e.reply) p.mine (call_entry part.who (call_of wish) reply ∷ [])) begins in
    let same : a.0 ≡ b.0 = next_same (replies_of p.mine) a.0 b.0 given (told a.0 q a.2 x) (told b.0 r b.2 y) in
    a.2 ∙ ap (λ reply. answered part wish reply p) same ∙ sym b.2
does_one part (Asks ask kept) given p q r a b x y =
    a.2 ∙ ap (λ (event : AskEvent). stepped_by event.ends ask.vars event p) (event_once part.names part.rules ask kept part.budget p.steps a.0 b.0 a.1 b.1) ∙ sym b.2

pub next_one : (part : SessionPart) (given : List Reply) (p q r : SessionPoint) → IsEvent part p q → IsEvent part p r → BeginsWith (replies_of q.mine) given → BeginsWith (replies_of r.mine) given → q ≡ r
next_one part given p q r a b x y =
    let command : a.command ≡ b.command = some_same a.is_next b.is_next in
    let acts : ActsAt p a.command b.act = subst (λ (c : Command). ActsAt p c b.act) (sym command) b.acts in
    let act : a.act ≡ b.act = acts_one p a.command a.act b.act a.acts acts in
    let does : DoesAct part a.act p r = subst (λ (t : CommandAct). DoesAct part t p r) (sym act) b.does in
    does_one part a.act given p q r a.does does x y

pub ended_stays : (part : SessionPart) (p q : SessionPoint) → HasNoCommand part p → IsEvent part p q → ⊥
ended_stays part p q e n = cc (e, n.is_next)

pub ended_wants : (part : SessionPart) (p : SessionPoint) (call : Call) → HasNoCommand part p → WantsCall part p call → ⊥
ended_wants part p call e w = cc (e, w.is_next)

does_call : (part : SessionPart) (act : CommandAct) (wish : TableUse) (p q : SessionPoint) → Uses wish ≡ act → DoesAct part act p q → (reply : Reply) × AnswersCall (call_of wish) reply × (q ≡ answered part wish reply p)
does_call part (Writes line) wish p q e d = absurd (cc e)
does_call part (Uses other) wish p q e d = let same : other ≡ wish = (cc e) in subst (λ c. (reply : Reply) × AnswersCall (call_of c) reply × (q ≡ answered part c reply p)) same d
does_call part (Asks ask kept) wish p q e d = absurd (cc e)

-- Where a call is wanted, the event makes it.
pub wanted_does : (part : SessionPart) (p q : SessionPoint) (call : Call) → (w : WantsCall part p call) → IsEvent part p q → (reply : Reply) × AnswersCall (call_of w.wish) reply × (q ≡ answered part w.wish reply p)
wanted_does part p q call w n =
    let command : w.command ≡ n.command = some_same w.is_next n.is_next in
    let acts : ActsAt p n.command (Uses w.wish) = subst (λ (c : Command). ActsAt p c (Uses w.wish)) command w.acts in
    does_call part n.act w.wish p q (acts_one p n.command (Uses w.wish) n.act acts n.acts) n.does

pub wanted : (part : SessionPart) (p q : SessionPoint) (call : Call) → WantsCall part p call → IsEvent part p q → (reply : Reply) × (q.mine ≡ p.mine ++ call_entry part.who call reply ∷ [])
wanted part p q call w n =
    let d = wanted_does part p q call w n in
    (d.0, ap (λ (x : SessionPoint). x.mine) d.2 ∙ ap (λ (c : Call). p.mine ++ call_entry part.who c d.0 ∷ []) (sym w.call_is))

pub wants_one : (part : SessionPart) (p : SessionPoint) (call other : Call) → WantsCall part p call → WantsCall part p other → call ≡ other
wants_one part p call other w v =
    let command : w.command ≡ v.command = some_same w.is_next v.is_next in
    let acts : ActsAt p w.command (Uses v.wish) = subst (λ (c : Command). ActsAt p c (Uses v.wish)) (sym command) v.acts in
    let same = acts_one p w.command (Uses w.wish) (Uses v.wish) w.acts acts in
    let wish : w.wish ≡ v.wish = cc same in
    w.call_is ∙ ap call_of wish ∙ sym v.call_is

-- The text only grows.
stepped_before : (ends : Bool) (vars : List NameId) (event : AskEvent) (p : SessionPoint) → BeginsWith p.before (stepped_by ends vars event p).before
stepped_before true vars event p = (p.present ++ event.text, refl)
stepped_before false vars event p = begins_same p.before

does_before : (part : SessionPart) (act : CommandAct) (p q : SessionPoint) → DoesAct part act p q → BeginsWith p.before q.before
does_before part (Writes line) p q d = (p.present ++ line, ap (λ (x : SessionPoint). x.before) d)
does_before part (Uses wish) p q d = (p.present ++ use_line part.names wish d.0, ap (λ (x : SessionPoint). x.before) d.2)
does_before part (Asks ask kept) p q d = subst (λ (x : SessionPoint). BeginsWith p.before x.before) (sym d.2) (stepped_before d.0.ends ask.vars d.0 p)

pub next_before : (part : SessionPart) (p q : SessionPoint) → IsEvent part p q → BeginsWith p.before q.before
next_before part p q n = does_before part n.act p q n.does

-- Several events.

pub grows_mine : (part : SessionPart) (p q : SessionPoint) → IsEvent part p q → BeginsWith p.mine q.mine
grows_mine part p q n = elim (grows part p q n) [ none e ↦ subst (λ (l : List Entry). BeginsWith p.mine l) (sym e) (begins_same p.mine) | one call reply fits e ↦ (call_entry part.who call reply ∷ [], e) ]

pub after_mine : (part : SessionPart) (n : ℕ) (p q : SessionPoint) → AreEvents part n p q → BeginsWith p.mine q.mine
after_mine part zero p q a = subst (λ (x : SessionPoint). BeginsWith p.mine x.mine) (sym a) (begins_same p.mine)
after_mine part (suc n) p q a = begins_on p.mine a.0.mine q.mine (grows_mine part p a.0 a.1) (after_mine part n a.0 q a.2)

pub after_before : (part : SessionPart) (n : ℕ) (p q : SessionPoint) → AreEvents part n p q → BeginsWith p.before q.before
after_before part zero p q a = subst (λ (x : SessionPoint). BeginsWith p.before x.before) (sym a) (begins_same p.before)
after_before part (suc n) p q a = begins_on p.before a.0.before q.before (next_before part p a.0 a.1) (after_before part n a.0 q a.2)

pub after_snoc : (part : SessionPart) (n : ℕ) (p q r : SessionPoint) → AreEvents part n p q → IsEvent part q r → AreEvents part (suc n) p r
after_snoc part zero p q r a n = (r, subst (λ (x : SessionPoint). IsEvent part x r) a n, refl)
after_snoc part (suc m) p q r a n = (a.0, a.1, after_snoc part m a.0 q r a.2 n)

pub begins_replies : (xs ys : List Entry) → BeginsWith xs ys → BeginsWith (replies_of xs) (replies_of ys)
begins_replies xs ys b = (replies_of b.0, ap replies_of b.1 ∙ map-append (λ (e : Entry). e.reply) xs b.0)

-- Where a session stands it goes no further with these replies.
pub stands_still : (part : SessionPart) (given : List Reply) (p q : SessionPoint) (made : List Call) → ComesTo part given p made → IsEvent part p q → BeginsWith (replies_of q.mine) given → ⊥
stands_still part given p q made (at_end e b) n begins = ended_stays part p q e n
stands_still part given p q made (at_call call w same) n begins =
    let d = wanted part p q call w n in
    let more : replies_of q.mine ≡ replies_of p.mine ++ d.0 ∷ [] = ap replies_of d.1 ∙ map-append (λ (e : Entry). e.reply) p.mine (call_entry part.who call d.0 ∷ []) in
    let long : length given ≡ length (replies_of q.mine ++ begins.0) = ap length begins.1 in
    omega (arith, long, length-append (replies_of q.mine) begins.0, ap length more, length-append (replies_of p.mine) (d.0 ∷ []), ap length same)

pub stands_given : (part : SessionPart) (given : List Reply) (p : SessionPoint) (made : List Call) → ComesTo part given p made → BeginsWith (replies_of p.mine) given
stands_given part given p made (at_end e b) = b
stands_given part given p made (at_call call w same) = ([], sym same ∙ sym (append-nil (replies_of p.mine)))

stands_one : (part : SessionPart) (given : List Reply) (p : SessionPoint) (made others : List Call) → ComesTo part given p made → ComesTo part given p others → made ≡ others
stands_one part given p made others (at_end e b) (at_end f c) = refl
stands_one part given p made others (at_end e b) (at_call call w same) = absurd (ended_wants part p call e w)
stands_one part given p made others (at_call call w same) (at_end f c) = absurd (ended_wants part p call f w)
stands_one part given p made others (at_call call w same) (at_call other v again) = ap (λ (c : Call). calls_of p.mine ++ c ∷ []) (wants_one part p call other w v)

-- The session alone comes to one point.
pub follow : (part : SessionPart) (given : List Reply) (n m : ℕ) (p q r : SessionPoint) (made others : List Call) → AreEvents part n p q → AreEvents part m p r → ComesTo part given q made → ComesTo part given r others → q ≡ r
follow part given zero zero p q r made others a b s t = a ∙ sym b
follow part given zero (suc m) p q r made others a b s t =
    absurd (stands_still part given p b.0 made (subst (λ (x : SessionPoint). ComesTo part given x made) a s) b.1 (through part given m b.0 r others b.2 t))
  where
    through : (part : SessionPart) (given : List Reply) (m : ℕ) (x r : SessionPoint) (others : List Call) → AreEvents part m x r → ComesTo part given r others → BeginsWith (replies_of x.mine) given
    through part given m x r others a t = begins_on (replies_of x.mine) (replies_of r.mine) given (begins_replies x.mine r.mine (after_mine part m x r a)) (stands_given part given r others t)
follow part given (suc n) zero p q r made others a b s t =
    absurd (stands_still part given p a.0 others (subst (λ (x : SessionPoint). ComesTo part given x others) b t) a.1 (begins_on (replies_of a.0.mine) (replies_of q.mine) given (begins_replies a.0.mine q.mine (after_mine part n a.0 q a.2)) (stands_given part given q made s)))
follow part given (suc n) (suc m) p q r made others a b s t =
    let at_q = begins_on (replies_of a.0.mine) (replies_of q.mine) given (begins_replies a.0.mine q.mine (after_mine part n a.0 q a.2)) (stands_given part given q made s) in
    let at_r = begins_on (replies_of b.0.mine) (replies_of r.mine) given (begins_replies b.0.mine r.mine (after_mine part m b.0 r b.2)) (stands_given part given r others t) in
    let same : a.0 ≡ b.0 = next_one part given p a.0 b.0 a.1 b.1 at_q at_r in
    follow part given n m a.0 q r made others a.2 (subst (λ (x : SessionPoint). AreEvents part m x r) (sym same) b.2) s t

pub alone_is_one : AloneIsOne
alone_is_one part given text again made others a b =
    let same : a.point ≡ b.point = follow part given a.reached.0 b.reached.0 (session_start part) a.point b.point made others a.reached.1 b.reached.1 a.comes b.comes in
    (a.text_is ∙ ap (λ (p : SessionPoint). p.before) same ∙ sym b.text_is, stands_one part given a.point made others a.comes (subst (λ (x : SessionPoint). ComesTo part given x others) (sym same) b.comes))

-- With more replies it comes at least as far.
pub follow_on : (part : SessionPart) (given more : List Reply) (n m : ℕ) (p q r : SessionPoint) (made others : List Call) → AreEvents part n p q → AreEvents part m p r → ComesTo part given q made → ComesTo part (given ++ more) r others → BeginsWith q.before r.before
follow_on part given more zero m p q r made others a b s t = subst (λ (x : SessionPoint). BeginsWith x.before r.before) (sym a) (after_before part m p r b)
follow_on part given more (suc n) zero p q r made others a b s t =
    let got = begins_on (replies_of a.0.mine) (replies_of q.mine) given (begins_replies a.0.mine q.mine (after_mine part n a.0 q a.2)) (stands_given part given q made s) in
    absurd (stands_still part (given ++ more) p a.0 others (subst (λ (x : SessionPoint). ComesTo part (given ++ more) x others) b t) a.1 (begins_on (replies_of a.0.mine) given (given ++ more) got (begins_more given more)))
follow_on part given more (suc n) (suc m) p q r made others a b s t =
    let got = begins_on (replies_of a.0.mine) (replies_of q.mine) given (begins_replies a.0.mine q.mine (after_mine part n a.0 q a.2)) (stands_given part given q made s) in
    let at_q = begins_on (replies_of a.0.mine) given (given ++ more) got (begins_more given more) in
    let at_r = begins_on (replies_of b.0.mine) (replies_of r.mine) (given ++ more) (begins_replies b.0.mine r.mine (after_mine part m b.0 r b.2)) (stands_given part (given ++ more) r others t) in
    let same : a.0 ≡ b.0 = next_one part (given ++ more) p a.0 b.0 a.1 b.1 at_q at_r in
    follow_on part given more n m a.0 q r made others a.2 (subst (λ (x : SessionPoint). AreEvents part m x r) (sym same) b.2) s t

pub alone_grows : AloneGrows
alone_grows part given more text again made others a b =
    let on = follow_on part given more a.reached.0 b.reached.0 (session_start part) a.point b.point made others a.reached.1 b.reached.1 a.comes b.comes in
    subst (λ (l : List ℕ). BeginsWith l again) (sym a.text_is) (subst (λ (l : List ℕ). BeginsWith a.point.before l) (sym b.text_is) on)

-- Where an event made a call, it was wanted.
does_wants : (part : SessionPart) (p q : SessionPoint) (command : Command) (act : CommandAct) (call : Call) (reply : Reply) → slice_get part.commands p.done ≡ Some command → ActsAt p command act → DoesAct part act p q → q.mine ≡ p.mine ++ call_entry part.who call reply ∷ [] → WantsCall part p call
does_wants part p q command (Writes line) call reply is acts d made = absurd (omega (arith, ap length made, ap (λ (x : SessionPoint). length x.mine) d, length-append p.mine (call_entry part.who call reply ∷ [])))
does_wants part p q command (Uses wish) call reply is acts d made =
    let both : p.mine ++ call_entry part.who (call_of wish) d.0 ∷ [] ≡ p.mine ++ call_entry part.who call reply ∷ [] = sym (ap (λ (x : SessionPoint). x.mine) d.2) ∙ made in
    let begins : BeginsWith (p.mine ++ call_entry part.who (call_of wish) d.0 ∷ []) (p.mine ++ call_entry part.who call reply ∷ []) = ([], sym both ∙ sym (append-nil (p.mine ++ call_entry part.who (call_of wish) d.0 ∷ []))) in
    let same : call_entry part.who (call_of wish) d.0 ≡ call_entry part.who call reply = next_same p.mine (call_entry part.who (call_of wish) d.0) (call_entry part.who call reply) (p.mine ++ call_entry part.who call reply ∷ []) begins (begins_same (p.mine ++ call_entry part.who call reply ∷ [])) in
    record { command = command; is_next = is; wish = wish; acts = acts; call_is = sym (ap (λ (e : Entry). e.call) same) }
does_wants part p q command (Asks ask kept) call reply is acts d made = absurd (omega (arith, ap length made, ap (λ (x : SessionPoint). length x.mine) d.2, ap length (stepped_mine d.0.ends ask.vars d.0 p), length-append p.mine (call_entry part.who call reply ∷ [])))

pub wants_of : (part : SessionPart) (p q : SessionPoint) (call : Call) (reply : Reply) → IsEvent part p q → q.mine ≡ p.mine ++ call_entry part.who call reply ∷ [] → WantsCall part p call
wants_of part p q call reply n made = does_wants part p q n.command n.act call reply n.is_next n.acts n.does made

-- Where a session has ended nothing is half written.
stepped_ended : (part : SessionPart) (command : Command) (ends : Bool) (vars : List NameId) (event : AskEvent) (p : SessionPoint) → slice_get part.commands p.done ≡ Some command → HasNoCommand part (stepped_by ends vars event p) → (stepped_by ends vars event p).present ≡ []
stepped_ended part command true vars event p is e = refl
stepped_ended part command false vars event p is e = absurd (cc (is, e))

does_ended : (part : SessionPart) (command : Command) (act : CommandAct) (p q : SessionPoint) → slice_get part.commands p.done ≡ Some command → DoesAct part act p q → HasNoCommand part q → q.present ≡ []
does_ended part command (Writes line) p q is d e = ap (λ (x : SessionPoint). x.present) d
does_ended part command (Uses wish) p q is d e = ap (λ (x : SessionPoint). x.present) d.2
does_ended part command (Asks ask kept) p q is d e = ap (λ (x : SessionPoint). x.present) d.2 ∙ stepped_ended part command d.0.ends ask.vars d.0 p is (subst (λ (x : SessionPoint). HasNoCommand part x) d.2 e)

after_ended : (part : SessionPart) (n : ℕ) (p q : SessionPoint) → AreEvents part n p q → (HasNoCommand part p → p.present ≡ []) → HasNoCommand part q → q.present ≡ []
after_ended part zero p q a whole = subst (λ (x : SessionPoint). HasNoCommand part x → x.present ≡ []) (sym a) whole
after_ended part (suc n) p q a whole = after_ended part n a.0 q a.2 (λ e. does_ended part a.1.command a.1.act p a.0 a.1.is_next a.1.does e)

pub ended_whole : (part : SessionPart) (p : SessionPoint) → ReachesPoint part p → HasNoCommand part p → p.present ≡ []
ended_whole part p r e = after_ended part r.0 (session_start part) p r.1 (λ _. refl) e
