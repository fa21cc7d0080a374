-- From the first pair to the end.
use Rattle.std.proofs.Common.{◌≡◌, ◌↔◌, ℕ, zero, suc, ◌+◌, ◌*◌, ◌-◌, ◌<◌, ◌≤◌, List, [], ◌∷◌, length, take, get_or, All, refl, sym, ap, ap₂, ◌∙◌, subst, arith}
use Rattle.std.proofs.lemmas.List.{take_all, take-take, get_or-take}
use Rattle.std.proofs.lemmas.List.Elements.{All-get_or, All-nil, All-weaker, All-more}
use Rattle.mars_tree.specs.Graph.{Node}
use Rattle.mars_store.specs.Valuation.{Valuation}
use Rattle.mars_store.specs.declared.mark.Mark.{Mark}
use Rattle.mars_store.specs.System.{System, IsSystem, Grows, mark_of}
use Rattle.mars_store.specs.Solutions.{InSol, plain}
use Rattle.mars_store.specs.Laws.{IsImplied, new_names}
use Rattle.mars_store.proofs.CallerLemmas.{plain_solves}
use Rattle.mars_unify.specs.MeetingInside.{SameAt, AreSame, IsCovered, IsSettled, AreAlike, AreMet, IsMeeting, IsSolving}
use Rattle.mars_unify.specs.Unified.{Extends, IsSolved, AreApart}
use Rattle.mars_unify.proofs.Lists.{IsInside, length-pairs, none-distinct}
use Rattle.mars_unify.proofs.Meetings.{meeting-then, covered-kept, settled-kept}
use Rattle.mars_unify.proofs.Kids.{alike-inside}
use Rattle.mars_unify.proofs.Implied.{bound-not-implied}

pub none-met : (nodes : List Node) → AreMet nodes []
none-met nodes = record { alike = All-nil (AreAlike nodes); once = none-distinct }

-- where all pairs that were met are settled, they show the same everywhere in every solution
all-same : (s : System) (met : List (ℕ × ℕ)) → All (IsSettled s met) met → (v : Valuation) → InSol s v → (path : List ℕ) → All (SameAt v path) met
all-same s met h v sol [] = All-weaker (IsSettled s met) (SameAt v []) (λ p k. k.root v sol) met h
all-same s met h v sol (place ∷ path) =
    let rest = all-same s met h v sol path in
    All-weaker (IsSettled s met) (SameAt v (place ∷ path)) (λ p k. k.below v sol place path rest) met h

pub solving-start : (old now : System) (met : List (ℕ × ℕ)) (pair : ℕ × ℕ) → IsMeeting old now [] met pair × IsCovered now met pair → IsSolving old now met 0 pair
solving-start old now met pair m = record {
  meeting = m.0;
  covered = m.1;
  settled = All-nil (IsSettled now met);
  reached = omega arith;
}

-- in a solution of before in which the first pair is the same, so is each pair that was met
met-then : (old now : System) (met : List (ℕ × ℕ)) (place : ℕ) (pair q : ℕ × ℕ) → IsSolving old now met place pair → place < length met → q ≡ get_or met place q
    → (v : Valuation) → InSol old v → AreSame v pair → AreSame v q
met-then old now met place pair q s h e v sol same =
    subst (AreSame v) (sym e) (All-get_or (AreSame v) met place q h (s.meeting.same v sol same (All-nil (AreSame v))))

-- the next pair to be settled
pub solving-next : (old now : System) (met : List (ℕ × ℕ)) (place : ℕ) (pair q : ℕ × ℕ) → IsSolving old now met place pair → place < length met → q ≡ get_or met place q
    → AreAlike now.nodes q × AreMet now.nodes met
solving-next old now met place pair q s h e = (subst (AreAlike now.nodes) (sym e) (All-get_or (AreAlike now.nodes) met place q h s.meeting.met.alike), s.meeting.met)

pub solving-step : (old now new : System) (met after : List (ℕ × ℕ)) (place : ℕ) (pair q : ℕ × ℕ) → IsSolving old now met place pair → place < length met → q ≡ get_or met place q
    → IsMeeting now new met after q × IsSettled new after q → IsSolving old new after (place + 1) pair
solving-step old now new met after place pair q s h e m =
    let size = m.0.met_size in
    let same : take place after ≡ take place met = sym (take-take place (length met) after s.reached) ∙ ap (take place) m.0.met_front in
    let there : get_or after place q ≡ q = sym (get_or-take (length met) after place q h) ∙ ap (λ xs. get_or xs place q) m.0.met_front ∙ sym e in
    record {
      meeting = meeting-then old now new [] met after pair q s.meeting m.0 (met-then old now met place pair q s h e);
      covered = covered-kept now new met after pair m.0.only m.0.met_front s.covered;
      settled = All-more (IsSettled new after) after place q (omega arith)
          (rw same (All-weaker (IsSettled now met) (IsSettled new after) (λ p k. settled-kept now new met after p m.0.only m.0.met_front k) (take place met) s.settled))
          (rw there m.1);
      reached = omega arith;
    }

pub solving-apart : (old now : System) (met : List (ℕ × ℕ)) (place : ℕ) (pair q : ℕ × ℕ) → IsSolving old now met place pair → place < length met → q ≡ get_or met place q
    → AreApart now q.0 q.1 → AreApart old pair.0 pair.1
solving-apart old now met place pair q s h e apart v sol same =
    apart v (s.meeting.all v sol same) (met-then old now met place pair q s h e v sol same)

pub solving-end : (old now : System) (met : List (ℕ × ℕ)) (place a b : ℕ) → IsSolving old now met place (a, b) → length met ≤ place → IsSolved old now a b × (now.nodes ≡ old.nodes)
solving-end old now met place a b s h =
    let settled : All (IsSettled now met) met = subst (All (IsSettled now met)) (take_all place met h) s.settled in (
      record {
        only = s.meeting.only;
        same = λ v sol. record { along = λ path. s.covered v sol path (all-same now met settled v sol path) };
        all = s.meeting.all;
      },
      s.meeting.nodes,
    )

-- the bindings that were added, by their number at two marks
pub solved-extends : (old new : System) (before after : Mark) → Grows old new → new.nodes ≡ old.nodes → before ≡ mark_of old → after ≡ mark_of new → Extends old new (after.bound - before.bound)
solved-extends old new before after g e p q =
    let more = g.more_bound in
    rw (p, q) (record { nodes = e; size = omega arith; front = g.bound })

-- there is another pair to settle
pub solving-smaller : (old now : System) (met : List (ℕ × ℕ)) (place size : ℕ) (pair : ℕ × ℕ) → size ≡ length old.nodes → IsSolving old now met place pair → place < length met
    → size * size - (place + 1) < size * size - place
solving-smaller old now met place size pair e s h =
    let all : All (IsInside (length now.nodes)) met = All-weaker (AreAlike now.nodes) (IsInside (length now.nodes)) (λ q is. alike-inside now q is) met s.meeting.met.alike in
    let m = length-pairs (length now.nodes) met all s.meeting.met.once in
    let same : length now.nodes ≡ size = ap length s.meeting.nodes ∙ sym e in
    let m' : length met ≤ size * size = rw same at m in
    omega arith

-- a solved equation bound nothing exactly where it was implied
pub solved-implied : (old new : System) (a b bound : ℕ) → IsSystem old → IsSystem new → Extends old new bound → IsSolved old new a b → (bound ≡ 0) ↔ IsImplied old a b
solved-implied old new a b bound so sn e s = (to, from)
  where
    to : bound ≡ 0 → IsImplied old a b
    to p v sol =
        let size = e.size in
        let same : new.bound ≡ old.bound = sym (take_all (length old.bound) new.bound (omega arith)) ∙ e.front in
        let whole : new ≡ old = ap₂ (λ nodes bound. record { nodes = nodes; bound = bound }) e.nodes same in
        s.same v (rw whole sol)

    none : (n : ℕ) → IsImplied old a b → length new.bound ≡ length old.bound + n → n ≡ 0
    none zero implied p = refl
    none (suc n) implied p =
        let p0 = plain_solves old so (new_names old) in
        absurd (bound-not-implied old new so sn e.nodes e.front (omega arith) (s.all (plain old (new_names old)) p0 (implied (plain old (new_names old)) p0)))

    from : IsImplied old a b → bound ≡ 0
    from implied = none bound implied e.size

-- a solved equation has a solution
pub solved-solvable : (old new : System) (a b : ℕ) → IsSystem new → IsSolved old new a b → AreApart old a b → ⊥
solved-solvable old new a b sn s apart =
    let sol = plain_solves new sn (new_names new) in
    apart (plain new (new_names new)) (s.only (plain new (new_names new)) sol) (s.same (plain new (new_names new)) sol)
