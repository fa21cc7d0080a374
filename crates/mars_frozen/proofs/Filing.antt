-- Which pairs are looked at by a wake, and what is found.
use Rattle.std.proofs.Common.{◌≡◌, ◌⊎◌, ℕ, ◌-◌, ◌<◌, ◌≤◌, List, [], ◌∷◌, ◌++◌, length, drop, get_or, Contains, None, refl, sym, ap, ◌∙◌, subst, arith, inl, inr, cond, eqb}
use Rattle.std.proofs.lemmas.Bool.{cases_eq}
use Rattle.std.proofs.lemmas.List.{take-append-drop, take-append-le, take_all}
use Rattle.std.proofs.lemmas.List.Sorted.{All-permutation, Contains-permutation}
use Rattle.std.specs.List.Sorted.{IsPermutation}
use Rattle.std.proofs.lemmas.List.Elements.{All-nil, All-push, All-from_get_or, All-contains, Contains-append_left, Contains-push, Contains-get_or}
use Rattle.mars_tree.specs.Graph.{Node, label_of}
use Rattle.mars_store.specs.System.{System, Grows, resolve}
use Rattle.mars_store.proofs.CallerLemmas.{front-node, resolve-unbound}
use Rattle.mars_watch.specs.Watched.{CutAt}
use Rattle.mars_watch.specs.Gathered.{AreGathered, AreRising, AreInOrder, pair_at}
use Rattle.mars_frozen.specs.Freezing.{FrozenPairs, CanWake, IsFiled}
use Rattle.mars_frozen.specs.FrozenInside.{AreAllTouched, AreFound, AreSettled, IsLookedAt, IsPairSettled, IsKnownPlace}
use Rattle.mars_watch.proofs.CallerLemmas.{each-at, each-from, each-length, contains-none, contains-cases, watches-stay, bound-or-not, rising-apart}

pub filed-stays : (watches more : List (ℕ × ℕ)) (system : System) (number : ℕ) (pair : ℕ × ℕ) → CutAt watches more → IsFiled watches system number pair → IsFiled more system number pair
filed-stays watches more system number pair cut f = record { inside = f.inside; free = f.free; there = watches-stay watches more (resolve system.bound pair.0, number) cut f.there }

resolve-more : (bound more : List (ℕ × ℕ)) (n : ℕ) → resolve (bound ++ more) n ≡ resolve more (resolve bound n)
resolve-more [] more n = refl
resolve-more (e ∷ bound) more n = resolve-more bound more (cond (eqb n e.0) e.1 n)

-- a pair that waited is looked at where its variable was bound, and else waits there still
pub filed-grows : (watches : List (ℕ × ℕ)) (last system : System) (number : ℕ) (pair : ℕ × ℕ) (touched : List ℕ) → Grows last system → AreGathered watches (drop (length last.bound) system.bound) touched
    → IsFiled watches last number pair → Contains touched number ⊎ IsFiled watches system number pair
filed-grows watches last system number pair touched grows gathered f =
    let v : ℕ = resolve last.bound pair.0 in
    let more : List (ℕ × ℕ) = drop (length last.bound) system.bound in
    let sizes = grows.more_nodes in
    let within = f.inside in
    let all : last.bound ++ more ≡ system.bound = ap (λ l. l ++ more) (sym grows.bound) ∙ take-append-drop (length last.bound) system.bound in
    elim (bound-or-not more v) [
      | inl (place, h, i) ↦ inl (gathered place number h (subst (λ n. Contains watches (n, number)) (sym i) f.there))
      | inr u ↦
          let is : resolve system.bound pair.0 ≡ v = ap (λ l. resolve l pair.0) (sym all) ∙ resolve-more last.bound more pair.0 ∙ resolve-unbound more v u in
          inr (record {
            inside = subst (λ n. n < length system.nodes) (sym is) (omega arith);
            free = ap (λ n. label_of system.nodes n) is ∙ ap (λ (n : Node). n.label) (sym (front-node last system grows v f.inside)) ∙ f.free;
            there = subst (λ n. Contains watches (n, number)) (sym is) f.there;
          })
    ]

-- all pairs are looked at, or wait still
pub all-touched : (frozen : FrozenPairs) (system : System) (gathered touched : List ℕ) → CanWake frozen system → AreGathered frozen.watches (drop frozen.seen system.bound) gathered
    → ((number : ℕ) → Contains gathered number → Contains touched number)
    → ((place : ℕ) → place < length frozen.numbers.now → frozen.filed ≤ get_or frozen.numbers.now place 0 → Contains touched (get_or frozen.numbers.now place 0)) → AreAllTouched frozen system touched
all-touched frozen system gathered touched can g kept added =
    let R : ℕ → ℕ × ℕ → Type 0 = λ number pair. (frozen.filed ≤ number) ⊎ IsFiled frozen.watches can.last number pair in
    let g' : AreGathered frozen.watches (drop (length can.last.bound) system.bound) gathered = subst (λ n. AreGathered frozen.watches (drop n system.bound) gathered) can.filed.seen g in
    each-from (λ number pair. Contains touched number ⊎ IsFiled frozen.watches system number pair) frozen.numbers.now frozen.pairs.now (each-length R frozen.numbers.now frozen.pairs.now can.filed.each)
    (λ place h. elim (each-at R frozen.numbers.now frozen.pairs.now can.filed.each place h) [
      | inl new ↦ inl (added place h new)
      | inr f ↦ elim (filed-grows frozen.watches can.last system (get_or frozen.numbers.now place 0) (get_or frozen.pairs.now place (0, 0)) gathered can.grows g' f) [
        | inl c ↦ inl (kept (get_or frozen.numbers.now place 0) c)
        | inr w ↦ inr w
      ]
    ])

-- so the look begins
pub touched-settled : (frozen : FrozenPairs) (system : System) (touched : List ℕ) → AreAllTouched frozen system touched → AreSettled system frozen.pairs.now frozen.numbers.now touched frozen.watches []
touched-settled frozen system touched t = record {
  known = All-nil (IsKnownPlace system frozen.pairs.now);
  settled = λ place h. elim (each-at (λ number pair. Contains touched number ⊎ IsFiled frozen.watches system number pair) frozen.numbers.now frozen.pairs.now t place h) [ inl c ↦ inl c | inr f ↦ inr (inr f) ];
}

-- the pair of a number that is there
pub looked-there : (system : System) (pairs : List (ℕ × ℕ)) (numbers : List ℕ) (place number : ℕ) (watches more : List (ℕ × ℕ)) (old new : List ℕ) → AreRising numbers → place < length numbers → get_or numbers place 0 ≡ number
    → IsPairSettled system pairs place number watches more old new → IsLookedAt system pairs numbers number watches more old new
looked-there system pairs numbers place number watches more old new r h e s = record {
  cut = s.cut;
  kept = λ p c. elim s.found [ inl (q, k) ↦ rw q (Contains-append_left old (place ∷ []) p c) | inr (q, f) ↦ rw q c ];
  known = λ all. elim s.found [ inl (q, k) ↦ rw q (All-push (IsKnownPlace system pairs) old place all k) | inr (q, f) ↦ rw q all ];
  settled = λ p k i.
      let same : p ≡ place = rising-apart numbers p place r k h (i ∙ sym e) in
      rw same (elim s.found [ inl (q, known) ↦ inl (rw q (Contains-push old place)) | inr (q, f) ↦ inr (rw e f) ]);
}

-- the pair of a number that left
pub looked-gone : (system : System) (pairs : List (ℕ × ℕ)) (numbers : List ℕ) (number : ℕ) (watches : List (ℕ × ℕ)) (old : List ℕ) → ((place : ℕ) → place < length numbers → get_or numbers place 0 ≡ number → ⊥)
    → IsLookedAt system pairs numbers number watches watches old old
looked-gone system pairs numbers number watches old none = record {
  cut = take_all (length watches) watches (omega arith);
  kept = λ p c. c;
  known = λ all. all;
  settled = λ p k i. absurd (none p k i);
}

-- one number after the other
pub settled-next : (system : System) (pairs : List (ℕ × ℕ)) (numbers left rest : List ℕ) (number : ℕ) (watches more : List (ℕ × ℕ)) (old new : List ℕ) → left ≡ number ∷ rest
    → AreSettled system pairs numbers left watches old → IsLookedAt system pairs numbers number watches more old new → AreSettled system pairs numbers rest more new
settled-next system pairs numbers left rest number watches more old new e s l = record {
  known = l.known s.known;
  settled = λ place h. elim (s.settled place h) [
    | inl c ↦ elim (contains-cases number (get_or numbers place 0) rest (subst (λ xs. Contains xs (get_or numbers place 0)) e c)) [
      | inl i ↦ inr (l.settled place h (sym i))
      | inr d ↦ inl d
    ]
    | inr (inl c) ↦ inr (inl (l.kept place c))
    | inr (inr f) ↦ inr (inr (filed-stays watches more system (get_or numbers place 0) (pair_at pairs place) l.cut f))
  ];
}

-- one place more to the front
pub added-next : (numbers now new : List ℕ) (at : ℕ) → ((place : ℕ) → at ≤ place → place < length numbers → Contains now (get_or numbers place 0)) → new ≡ now ++ get_or numbers (at - 1) 0 ∷ [] → 0 < at
    → (place : ℕ) → at - 1 ≤ place → place < length numbers → Contains new (get_or numbers place 0)
added-next numbers now new at before e pos place h k =
    rw e (elim (cases_eq place (at - 1)) [
      | inl i ↦ rw i (Contains-push now (get_or numbers (at - 1) 0))
      | inr ne ↦ Contains-append_left now (get_or numbers (at - 1) 0 ∷ []) (get_or numbers place 0) (before place (omega arith) k)
    ])

-- what was found, in order
pub found-all : (system : System) (pairs : List (ℕ × ℕ)) (numbers : List ℕ) (watches : List (ℕ × ℕ)) (found sorted places : List ℕ) → length numbers ≡ length pairs → AreSettled system pairs numbers [] watches found → IsPermutation found sorted
    → AreInOrder (length pairs) sorted places → AreFound system pairs numbers watches places
found-all system pairs numbers watches found sorted places sizes s p o = record {
  ascending = o.ascending;
  known = All-from_get_or (IsKnownPlace system pairs) places 0 (λ i h.
      All-contains (IsKnownPlace system pairs) sorted (get_or places i 0) (All-permutation (IsKnownPlace system pairs) found sorted p s.known) (o.from (get_or places i 0) (Contains-get_or places i 0 h)));
  settled = λ place h. elim (s.settled place h) [
    | inl c ↦ absurd (contains-none (get_or numbers place 0) c)
    | inr (inl c) ↦ inl (o.all place (Contains-permutation found sorted place p c))
    | inr (inr f) ↦ inr f
  ];
}

-- a pair that isn't known waits at the end of its links
pub pair-settled : (system : System) (pairs : List (ℕ × ℕ)) (place number last : ℕ) (watches more : List (ℕ × ℕ)) (found : List ℕ) (pair : ℕ × ℕ) → pair_at pairs place ≡ pair → last ≡ resolve system.bound pair.0
    → last < length system.nodes → None ≡ label_of system.nodes (resolve system.bound pair.0) → more ≡ watches ++ (last, number) ∷ [] → IsPairSettled system pairs place number watches more found found
pair-settled system pairs place number last watches more found pair same e inside free q =
    record {
      cut = rw q (take-append-le (length watches) watches ((last, number) ∷ []) (omega arith) ∙ take_all (length watches) watches (omega arith));
      found = inr (
        refl,
        subst (IsFiled more system number) (sym same) (record {
          inside = subst (λ n. n < length system.nodes) e inside;
          free = sym free;
          there = subst (λ n. Contains more (n, number)) e (rw q (Contains-push watches (last, number)));
        }),
      );
    }
