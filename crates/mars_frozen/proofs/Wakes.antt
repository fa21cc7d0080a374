-- Which pairs wake, and how those that wait on are kept.
use Rattle.std.proofs.Common.{◌≡◌, ◌⊎◌, ℕ, suc, ◌+◌, ◌<◌, ◌≤◌, List, [], ◌∷◌, length, drop, get_or, All, Contains, refl, sym, ap, ◌∙◌, subst, arith, inl, inr}
use Rattle.std.proofs.lemmas.Bool.{cases_eq}
use Rattle.std.proofs.lemmas.List.Elements.{All-nil, All-head, All-tail, All-get_or, All-push, All-weaker}
use Rattle.mars_store.specs.System.{System, IsSystem}
use Rattle.mars_store.specs.Laws.{IsKnown}
use Rattle.mars_store.proofs.CallerLemmas.{grows-refl, grows-trans, free_unforced}
use Rattle.mars_watch.specs.Lined.{AreAscending, without, IsLaterLine}
use Rattle.mars_watch.specs.Gathered.{pair_at}
use Rattle.mars_frozen.specs.Freezing.{FrozenPairs, AreWoken, CanWake, HasBoth, IsFiled}
use Rattle.mars_frozen.specs.Freezing.AreWoken.{none, wakes, stays}
use Rattle.mars_frozen.specs.FreezingLaws.{FrozenStarts, FrozenAdds, FrozenGrows, WokenOnce}
use Rattle.mars_frozen.specs.FrozenInside.{IsKnownPlace, AreFound, goals_of}
use Rattle.mars_watch.proofs.CallerLemmas.{each-length, each-push, each-weaker, each-without, ascending-size, ascending-push, ascending-wider, without-ascends, without-all, without-here, without-later, drop-first, drop-rest, contains-none, contains-cases, not-before}

pub frozen_starts : FrozenStarts
frozen_starts system = record {
  last = record { nodes = []; bound = [] };
  filed = record { each = tt; ascending = omega arith; within = omega arith; seen = refl };
  grows = record { more_nodes = omega arith; nodes = refl; more_bound = omega arith; bound = refl };
  inside = All-nil (HasBoth system);
}

pub frozen_adds : FrozenAdds
frozen_adds frozen system pair can h =
    let n : ℕ = length frozen.numbers.past in
    record {
      last = can.last;
      filed = record {
        each = each-push (λ number p. (frozen.filed ≤ number) ⊎ IsFiled frozen.watches can.last number p) frozen.numbers.now frozen.pairs.now n pair can.filed.each (inl can.filed.within);
        ascending = ascending-push 0 frozen.numbers.now n n can.filed.ascending (omega arith);
        within = omega (arith, can.filed.within);
        seen = can.filed.seen;
      };
      grows = can.grows;
      inside = All-push (HasBoth system) frozen.pairs.now pair can.inside h;
    }

pub frozen_grows : FrozenGrows
frozen_grows frozen old new grows can =
    let more = grows.more_nodes in
    record {
      last = can.last;
      filed = can.filed;
      grows = grows-trans can.last old new can.grows grows;
      inside = All-weaker (HasBoth old) (HasBoth new) (λ pair b. (omega (arith, b.0), omega (arith, b.1))) frozen.pairs.now can.inside;
    }

pub woken_once : WokenOnce
woken_once system pairs left other goals others none none = (refl, refl)
woken_once system pairs left other goals others (wakes {pair = p} {pairs = ps} {left = l} {goals = gs} k rest) (wakes {left = m} {goals = hs} j more) =
    let r = woken_once system ps l m gs hs rest more in (ap (λ x. p.1 ∷ x) r.0, r.1)
woken_once system pairs left other goals others (wakes k rest) (stays n more) = absurd (n k)
woken_once system pairs left other goals others (stays n rest) (wakes k more) = absurd (n k)
woken_once system pairs left other goals others (stays {pair = p} {pairs = ps} {left = l} {goals = gs} k rest) (stays {left = m} {goals = hs} j more) =
    let r = woken_once system ps l m gs hs rest more in (r.0, ap (λ x. p ∷ x) r.1)

-- the pairs at the places wake, and the others wait on
woken-from : (system : System) (all : List (ℕ × ℕ)) (from : ℕ) (places : List ℕ) (ps : List (ℕ × ℕ)) → ps ≡ drop from all → AreAscending from places (from + length ps) → All (IsKnownPlace system all) places
    → ((place : ℕ) → from ≤ place → place < from + length ps → Contains places place ⊎ (IsKnown system (pair_at all place).0 → ⊥)) → AreWoken system ps (goals_of all places) (without from places ps)
woken-from system all from [] [] e a k f = none
woken-from system all from (q ∷ places) [] e a k f = absurd (omega (arith, a.0, ascending-size (suc q) places (from + 0) a.1))
woken-from system all from [] (p ∷ ps) e a k f =
    let first : p ≡ pair_at all from = drop-first from p (0, 0) ps all e in
    let open_is : IsKnown system (pair_at all from).0 → ⊥ = elim (f from (omega arith) (omega arith)) [ inl c ↦ absurd (contains-none from c) | inr r ↦ r ] in
    stays (subst (λ (x : ℕ × ℕ). IsKnown system x.0 → ⊥) (sym first) open_is)
    (woken-from system all (suc from) [] ps (drop-rest from p ps all e) (omega arith) (All-nil (IsKnownPlace system all)) (λ place h m. f place (omega arith) (omega arith)))
woken-from system all from (q ∷ places) (p ∷ ps) e a k f =
    let sum : from + length (p ∷ ps) ≡ suc from + length ps = omega arith in
    let first : p ≡ pair_at all from = drop-first from p (0, 0) ps all e in
    elim (cases_eq q from) [
      | inl i ↦
          let a' : AreAscending (suc from) places (suc from + length ps) = subst (λ m. AreAscending (suc from) places m) sum (subst (λ m. AreAscending (suc m) places (from + length (p ∷ ps))) i a.1) in
          let rest = woken-from system all (suc from) places ps (drop-rest from p ps all e) a' (All-tail (IsKnownPlace system all) q places k)
          (λ place h m. elim (f place (omega arith) (omega arith)) [ inl c ↦ elim (contains-cases q place places c) [ inl j ↦ absurd (omega arith) | inr j ↦ inl j ] | inr r ↦ inr r ]) in
          let is : p ≡ pair_at all q = first ∙ ap (λ m. pair_at all m) (sym i) in
          let known : IsKnown system p.0 = subst (λ (x : ℕ × ℕ). IsKnown system x.0) (sym is) (All-head (IsKnownPlace system all) q places k).known in
          let left : without from (q ∷ places) (p ∷ ps) ≡ without (suc from) places ps = ap (λ m. without from (m ∷ places) (p ∷ ps)) i ∙ without-here from places p ps in
          subst (λ l. AreWoken system (p ∷ ps) (goals_of all (q ∷ places)) l) (sym left)
          (subst (λ (x : ℕ × ℕ). AreWoken system (p ∷ ps) (x.1 ∷ goals_of all places) (without (suc from) places ps)) is (wakes known rest))
      | inr ne ↦
          let later : from < q = omega (arith, a.0) in
          let open_is : IsKnown system (pair_at all from).0 → ⊥ = elim (f from (omega arith) (omega arith)) [
            | inl c ↦ absurd (elim (contains-cases q from places c) [ inl j ↦ ne j | inr j ↦ not-before (suc q) places (from + length (p ∷ ps)) from a.1 (omega arith) j ])
            | inr r ↦ r
          ] in
          let rest = woken-from system all (suc from) (q ∷ places) ps (drop-rest from p ps all e) ((later, subst (λ m. AreAscending (suc q) places m) sum a.1)) k (λ place h m. f place (omega arith) (omega arith)) in
          subst (λ l. AreWoken system (p ∷ ps) (goals_of all (q ∷ places)) l) (sym (without-later from q places p ps later))
          (stays (subst (λ (x : ℕ × ℕ). IsKnown system x.0 → ⊥) (sym first) open_is) rest)
    ]

-- a pair that waits at a free variable isn't known
pub filed-unknown : (system : System) → IsSystem system → (watches : List (ℕ × ℕ)) (number : ℕ) (pair : ℕ × ℕ) → HasBoth system pair → IsFiled watches system number pair → IsKnown system pair.0 → ⊥
filed-unknown system sound watches number pair h f k = free_unforced system sound pair.0 h.0 f.free k.0 k.1

pub woken-all : (system : System) → IsSystem system → (pairs : List (ℕ × ℕ)) (numbers : List ℕ) (watches : List (ℕ × ℕ)) (places : List ℕ) → length numbers ≡ length pairs → All (HasBoth system) pairs
    → AreFound system pairs numbers watches places → AreWoken system pairs (goals_of pairs places) (without 0 places pairs)
woken-all system sound pairs numbers watches places s inside found =
    let z : 0 + length pairs ≡ length pairs = omega arith in
    woken-from system pairs 0 places pairs refl (subst (λ n. AreAscending 0 places n) (sym z) found.ascending) found.known
    (λ place h m. elim (found.settled place (omega arith)) [
      | inl c ↦ inl c
      | inr f ↦ inr (filed-unknown system sound watches (get_or numbers place 0) (pair_at pairs place) (All-get_or (HasBoth system) pairs place (0, 0) (omega arith) inside) f)
    ])

-- what a wake leaves can wake
pub can-wake : (old new : FrozenPairs) (system : System) (watches : List (ℕ × ℕ)) (places : List ℕ) → CanWake old system → AreFound system old.pairs.now old.numbers.now watches places
    → new.pairs.now ≡ without 0 places old.pairs.now → new.numbers.now ≡ without 0 places old.numbers.now → IsLaterLine old.numbers new.numbers → new.watches ≡ watches → new.filed ≤ length new.numbers.past → new.seen ≡ length system.bound → CanWake new system
can-wake old new system watches places can found p n later w within seen =
    let s = each-length (λ number pair. (old.filed ≤ number) ⊎ IsFiled old.watches can.last number pair) old.numbers.now old.pairs.now can.filed.each in
    let z : 0 + length old.numbers.now ≡ length old.pairs.now = omega (arith, s) in
    let each = each-without (IsFiled watches system) old.numbers.now old.pairs.now 0 places old.numbers.now old.pairs.now refl refl s (subst (λ m. AreAscending 0 places m) (sym z) found.ascending)
    (λ place h k. found.settled place (omega arith)) in
    record {
      last = system;
      filed = record {
        each = rw (p, n, w) (each-weaker (IsFiled watches system) (λ number pair. (new.filed ≤ number) ⊎ IsFiled watches system number pair) (λ number pair f. inr f) (without 0 places old.numbers.now) (without 0 places old.pairs.now) each);
        ascending = rw n (ascending-wider 0 (without 0 places old.numbers.now) (length old.numbers.past) (length new.numbers.past) (without-ascends 0 0 places old.numbers.now (length old.numbers.past) can.filed.ascending) later.more);
        within = within;
        seen = seen;
      };
      grows = grows-refl system;
      inside = rw p (without-all (HasBoth system) 0 places old.pairs.now can.inside);
    }

-- as many numbers as pairs
pub sizes-same : (frozen : FrozenPairs) (system : System) → CanWake frozen system → length frozen.numbers.now ≡ length frozen.pairs.now
sizes-same frozen system can = each-length (λ number pair. (frozen.filed ≤ number) ⊎ IsFiled frozen.watches can.last number pair) frozen.numbers.now frozen.pairs.now can.filed.each
