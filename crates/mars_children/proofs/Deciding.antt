-- Whether two nodes can be made equal is decided, on systems alone.
use Rattle.std.proofs.Common.{◌≡◌, ◌≢◌, ◌⊎◌, ℕ, zero, suc, ◌+◌, ◌*◌, ◌-◌, ◌<◌, ◌≤◌, Bool, true, false, List, [], ◌∷◌, ◌++◌, length, get_or, slice_get, All, Option, Some, None, refl, sym, ap, ◌∙◌, subst, arith, inl, inr}
use Rattle.std.proofs.lemmas.List.{get_or_default}
use Rattle.std.proofs.lemmas.Bool.{cases_lt, cases_eq, lt-ltb, le-ltb}
use Rattle.std.proofs.lemmas.Option.{slice_get-get_or}
use Rattle.std.proofs.lemmas.List.Elements.{All-push, All-cons, All-head, All-tail, All-nil, All-get_or, All-weaker}
use Rattle.mars_tree.specs.declared.label.Label.{Label}
use Rattle.mars_tree.specs.Graph.{label_of, kids_of}
use Rattle.mars_tree.specs.Equality.{same_label}
use Rattle.mars_tree.specs.EqualityLaws.{label_decides}
use Rattle.mars_store.specs.System.{System, IsSystem, IsLink, IsUnbound, resolve, rank, linked}
use Rattle.mars_store.specs.Solutions.{plain}
use Rattle.mars_store.specs.Laws.{IsImplied, IsSolvable, new_names}
use Rattle.mars_store.proofs.CallerLemmas.{plain_solves, difs_independent, cases-label, resolve-unbound, resolve-last, resolve-inside, triangular-push, not-itself}
use Rattle.mars_unify.specs.MetInside.{with_pair}
use Rattle.mars_unify.specs.MeetingInside.{AreAlike, AreMet, IsMeeting, IsCovered, IsSettled, AreKidsMet, IsSolving}
use Rattle.mars_unify.specs.Unified.{AreApart}
use Rattle.mars_unify.proofs.Meetings.{met-same, met-apart, met-pair, met-bound, met-bound_back}
use Rattle.mars_unify.proofs.Kids.{alike-inside, kids-start, kids-there, kids-step, kids-apart, kids-end}
use Rattle.mars_unify.proofs.Solving.{none-met, solving-start, solving-next, solving-step, solving-apart, solving-end, solving-smaller, solved-implied}
use Rattle.mars_dif.specs.Inside.{IsInside}
use Rattle.mars_dif.specs.Kept.{AreOpen}
use Rattle.mars_dif.specs.Kept.AreOpen.{none, allowed, excluded}
use Rattle.mars_machine.specs.Subjects.{Subject}
use Rattle.mars_machine.specs.Equations.{Equations, AreSolvable, HaveOneTree, with_equality}
use Rattle.mars_machine.specs.TermAnswers.AreOpenUnder.{none as term-none, allowed as term-allowed, excluded as term-excluded}
use Rattle.mars_bridge.specs.Represents.{of_vars, Represents, Denotes, DenotePairs}
use Rattle.mars_children.specs.DecidingLaws.{HasEqual, OpenTold}
use Rattle.mars_bridge.proofs.Carried.{represents_equal, apart_iff}

decide-label : (l m : Label) → (l ≡ m) ⊎ (l ≢ m)
decide-label l m = go (same_label l m) refl
  where
    go : (b : Bool) → same_label l m ≡ b → (l ≡ m) ⊎ (l ≢ m)
    go true e = inl ((label_decides l m).0 e)
    go false e = inr (λ same. false-true (sym e ∙ (label_decides l m).1 same))
      where
        false-true : false ≡ true → ⊥
        false-true e = cc

-- a link between two ends keeps a system
system-linked : (s : System) → IsSystem s → (x y : ℕ) → x < length s.nodes → label_of s.nodes x ≡ None → IsUnbound s.bound x → y < length s.nodes → IsUnbound s.bound y → x ≢ y
    → IsSystem (linked s x y)
system-linked s sound x y inside_x free hx inside hy ne = go (cases_lt (rank s.nodes y) (rank s.nodes x))
  where
    with_link : (a b : ℕ) → IsLink s.nodes (a, b) → IsUnbound s.bound a → IsUnbound s.bound b → IsSystem (record s { bound = s.bound ++ (a, b) ∷ [] })
    with_link a b link ha hb = record {
      older = sound.older;
      links = All-push (IsLink s.nodes) s.bound (a, b) sound.links link;
      triangular = triangular-push s.bound a b sound.triangular ha hb;
    }

    rank-x : rank s.nodes x ≡ x + 1
    rank-x = rw free refl

    older-free : (o : Option Label) → label_of s.nodes y ≡ o → x + 1 ≤ rank s.nodes y → (label_of s.nodes y ≡ None) × (x < y)
    older-free None e h = let r : rank s.nodes y ≡ y + 1 = rw e refl in let apart : x ≢ y = ne in (e, omega (arith, r, apart))
    older-free (Some l) e h = let r : rank s.nodes y ≡ 0 = rw e refl in absurd (omega (arith, r))

    go : (rank s.nodes y < rank s.nodes x) ⊎ (rank s.nodes x ≤ rank s.nodes y) → IsSystem (linked s x y)
    go (inl lt) = rw (lt-ltb (rank s.nodes y) (rank s.nodes x) lt) (with_link x y (record { variable = record { inside = inside_x; free = free }; inside = inside; falls = lt }) hx hy)
    go (inr le) =
        let there = older-free (label_of s.nodes y) refl (rw rank-x at le) in
        let ry : rank s.nodes y ≡ y + 1 = rw there.0 refl in
        let rx = rank-x in
        rw (le-ltb (rank s.nodes y) (rank s.nodes x) le)
        (with_link y x (record { variable = record { inside = inside; free = there.0 }; inside = inside_x; falls = omega (arith, ry, rx, there.1) }) hy hx)

module _ (s : System) (sound : IsSystem s) where
  end-unbound : (n : ℕ) → IsUnbound s.bound (resolve s.bound n)
  end-unbound n = resolve-last s.bound sound.triangular (not-itself s.nodes s.bound sound.links) n

  end-in : (n : ℕ) → n < length s.nodes → resolve s.bound n < length s.nodes
  end-in n h = resolve-inside (length s.nodes) s.bound n h (All-weaker (IsLink s.nodes) (λ e. e.1 < length s.nodes) (λ e l. l.inside) s.bound sound.links)

-- what meeting two nodes leads to, or that they are apart
record HaveMet (s : System) (met : List (ℕ × ℕ)) (a b : ℕ) : Type 0 where
  new : System
  after : List (ℕ × ℕ)
  told : IsMeeting s new met after (a, b) × IsCovered new after (a, b)

decide-meet : (s : System) → IsSystem s → (met : List (ℕ × ℕ)) → AreMet s.nodes met → (a b : ℕ) → a < length s.nodes → b < length s.nodes → HaveMet s met a b ⊎ AreApart s a b
decide-meet s sound met are a b ha hb =
    let x : ℕ = resolve s.bound a in
    let y : ℕ = resolve s.bound b in
    let ux = end-unbound s sound a in
    let uy = end-unbound s sound b in
    let rx : resolve s.bound x ≡ x = resolve-unbound s.bound x ux in
    let ry : resolve s.bound y ≡ y = resolve-unbound s.bound y uy in
    elim (cases_eq x y) [
      | inl e ↦ inl (record { new = s; after = met; told = met-same s met a b x y refl refl sound are e })
      | inr ne ↦ elim (cases-label (label_of s.nodes x)) [
        | inl free ↦
            inl (record {
              new = linked s x (resolve s.bound y);
              after = met;
              told = met-bound s (linked s x (resolve s.bound y)) met a b x y refl refl uy
                  (subst (λ n. IsSystem (linked s x n)) (sym ry) (system-linked s sound x y (end-in s sound a ha) free ux (end-in s sound b hb) uy ne)) are refl;
            })
        | inr (l, lx) ↦ elim (cases-label (label_of s.nodes y)) [
          | inl free ↦
              inl (record {
                new = linked s y (resolve s.bound x);
                after = met;
                told = met-bound_back s (linked s y (resolve s.bound x)) met a b x y refl refl ux
                    (subst (λ n. IsSystem (linked s y n)) (sym rx) (system-linked s sound y x (end-in s sound b hb) free uy (end-in s sound a ha) ux (λ e. ne (sym e)))) are refl;
              })
          | inr (m, ly) ↦
              let ex : Some l ≡ label_of s.nodes (resolve s.bound x) = sym (ap (label_of s.nodes) rx ∙ lx) in
              let ey : Some m ≡ label_of s.nodes (resolve s.bound y) = sym (ap (label_of s.nodes) ry ∙ ly) in
              elim (decide-label l m) [
                | inl same ↦ inl (record { new = s; after = with_pair met (x, y); told = met-pair s met (with_pair met (x, y)) a b x y l m refl refl ux uy sound are ex ey same refl })
                | inr other ↦ inr (met-apart s a b x y l m refl refl ux uy ex ey other)
              ]
        ]
      ]
    ]

-- the kids of a pair that is alike are met, place by place
record HaveKidsMet (s : System) (met : List (ℕ × ℕ)) (pair : ℕ × ℕ) : Type 0 where
  new : System
  after : List (ℕ × ℕ)
  told : IsMeeting s new met after pair × IsSettled new after pair

kid-at : (s : System) → IsSystem s → (n place : ℕ) → place < length (kids_of s.nodes n) → n < length s.nodes → (kid : ℕ) × (slice_get (kids_of s.nodes n) place ≡ Some kid) × (kid < length s.nodes)
kid-at s sound n place h inside =
    let kid : ℕ = get_or (kids_of s.nodes n) place 0 in
    let below : kid < n = All-get_or (λ k. k < n) (kids_of s.nodes n) place 0 h (sound.older n).in_range in
    (kid, slice_get-get_or (kids_of s.nodes n) place 0 h, omega arith)

module _ (old : System) (sound : IsSystem old) (before : List (ℕ × ℕ)) (pair : ℕ × ℕ) (is : AreAlike old.nodes pair) where
  abbrev arity : ℕ
  arity = length (kids_of old.nodes (resolve old.bound pair.0))

  -- with so many kids left
  kids-left : (left : ℕ) (now : System) (met : List (ℕ × ℕ)) (place : ℕ) → place + left ≡ arity → AreKidsMet old now before met pair place → HaveKidsMet old before pair ⊎ AreApart old pair.0 pair.1
  kids-left zero now met place e k = inl (record { new = now; after = met; told = kids-end old now before met pair place arity k sound is refl (omega arith) })
  kids-left (suc left) now met place e k =
      let there = kids-there old now before met pair place arity k sound is refl (omega arith) in
      let ok = k.meeting.system in
      let in_old = alike-inside old pair is in
      let size = ap length k.meeting.nodes in
      let first = kid-at now ok (resolve now.bound pair.0) place there.0 (end-in now ok pair.0 (omega (arith, size, in_old.0))) in
      let second = kid-at now ok (resolve now.bound pair.1) place there.1 (end-in now ok pair.1 (omega (arith, size, in_old.1))) in
      elim (decide-meet now ok met k.meeting.met first.0 second.0 first.2 second.2) [
        | inl h ↦ kids-left left h.new h.after (place + 1) (omega arith) (kids-step old now h.new before met h.after pair place first.0 second.0 k is first.1 second.1 h.told)
        | inr apart ↦ inr (kids-apart old now before met pair place first.0 second.0 k is first.1 second.1 apart)
      ]

  decide-kids : AreMet old.nodes before → HaveKidsMet old before pair ⊎ AreApart old pair.0 pair.1
  decide-kids are = kids-left arity old before 0 (omega arith) (kids-start old before pair sound are)

get-same : (met : List (ℕ × ℕ)) (place : ℕ) → place < length met → get_or met place (0, 0) ≡ get_or met place (get_or met place (0, 0))
get-same met place h = get_or_default met place (0, 0) (get_or met place (0, 0)) h

module _ (old : System) (a b : ℕ) where
  -- with so much work left at most
  solve-left : (fuel : ℕ) (now : System) (met : List (ℕ × ℕ)) (place : ℕ) → length old.nodes * length old.nodes - place < fuel → IsSolving old now met place (a, b) → HasEqual old a b ⊎ AreApart old a b
  solve-left zero now met place enough s = absurd (omega arith)
  solve-left (suc fuel) now met place enough s = elim (cases_lt place (length met)) [
    | inr done ↦
        let t = solving-end old now met place a b s done in
        inl (record {
          new = now;
          system = s.meeting.system;
          solved = t.0;
          extends = record { nodes = t.1; size = let more = s.meeting.size in omega arith; front = s.meeting.front };
        })
    | inl h ↦
        let q : ℕ × ℕ = get_or met place (0, 0) in
        let same : q ≡ get_or met place q = get-same met place h in
        let like = solving-next old now met place (a, b) q s h same in
        let less = solving-smaller old now met place (length old.nodes) (a, b) refl s h in
        elim (decide-kids now s.meeting.system met q like.0 like.1) [
          | inl k ↦ solve-left fuel k.new k.after (place + 1) (omega (arith, less, enough)) (solving-step old now k.new met k.after place (a, b) q s h same k.told)
          | inr apart ↦ inr (solving-apart old now met place (a, b) q s h same apart)
        ]
  ]

-- two nodes can be made equal, or are apart
pub decide_equal : (s : System) → IsSystem s → (a b : ℕ) → a < length s.nodes → b < length s.nodes → HasEqual s a b ⊎ AreApart s a b
decide_equal s sound a b ha hb = elim (decide-meet s sound [] (none-met s.nodes) a b ha hb) [
  | inl h ↦ solve-left s a b (length s.nodes * length s.nodes + 1) h.new h.after 0 (omega arith) (solving-start s h.new h.after (a, b) h.told)
  | inr apart ↦ inr apart
]

no-solution : (s : System) → IsSystem s → (a b : ℕ) → AreApart s a b → IsImplied s a b → ⊥
no-solution s sound a b apart implied =
    let sol = plain_solves s sound (new_names s) in
    apart (plain s (new_names s)) sol (implied (plain s (new_names s)) sol)

pub decide_implied : (s : System) → IsSystem s → (a b : ℕ) → a < length s.nodes → b < length s.nodes → IsImplied s a b ⊎ (IsImplied s a b → ⊥)
decide_implied s sound a b ha hb = elim (decide_equal s sound a b ha hb) [
  | inr apart ↦ inr (no-solution s sound a b apart)
  | inl h ↦
      let bound : ℕ = length h.new.bound - length s.bound in
      let told = solved-implied s h.new a b bound sound h.system h.extends h.solved in
      elim (cases_eq bound 0) [
        | inl zero_bound ↦ inl (told.0 zero_bound)
        | inr some ↦ inr (λ implied. some (told.1 implied))
      ]
]

-- of inequations, none is implied equal, or not so
none-implied : (s : System) → IsSystem s → (difs : List (ℕ × ℕ)) → All (IsInside s) difs
    → All (λ dif. IsImplied s dif.0 dif.1 → ⊥) difs ⊎ (All (λ dif. IsImplied s dif.0 dif.1 → ⊥) difs → ⊥)
none-implied s sound [] inside = inl (All-nil (λ dif. IsImplied s dif.0 dif.1 → ⊥))
none-implied s sound (dif ∷ difs) inside =
    let here = All-head (IsInside s) dif difs inside in
    elim (decide_implied s sound dif.0 dif.1 here.left here.right) [
      | inl implied ↦ inr (λ h. All-head (λ dif. IsImplied s dif.0 dif.1 → ⊥) dif difs h implied)
      | inr free ↦ elim (none-implied s sound difs (All-tail (IsInside s) dif difs inside)) [
        | inl rest ↦ inl (All-cons (λ dif. IsImplied s dif.0 dif.1 → ⊥) dif difs free rest)
        | inr some ↦ inr (λ h. some (All-tail (λ dif. IsImplied s dif.0 dif.1 → ⊥) dif difs h))
      ]
    ]

both-in : (s : System) (difs : List (ℕ × ℕ)) → All (IsInside s) difs → All (λ dif. (dif.0 < length s.nodes) × (dif.1 < length s.nodes)) difs
both-in s difs inside = All-weaker (IsInside s) (λ dif. (dif.0 < length s.nodes) × (dif.1 < length s.nodes)) (λ dif h. (h.left, h.right)) difs inside

pub decide_difs : (s : System) → IsSystem s → (difs : List (ℕ × ℕ)) → All (IsInside s) difs → IsSolvable s difs ⊎ (IsSolvable s difs → ⊥)
decide_difs s sound difs inside = elim (none-implied s sound difs inside) [
  | inl free ↦ inl ((difs_independent s sound difs (both-in s difs inside)).1 free)
  | inr some ↦ inr (λ h. some ((difs_independent s sound difs (both-in s difs inside)).0 h))
]

module _ (e : Equations) (system : System) (vars : List ℕ) (r : Represents e system vars) (sound : IsSystem system) where
  -- where nodes aren't apart, the equations with one more have a solution
  allowed-equal : (n m : ℕ) (s t : Subject) → Denotes e system vars n s → Denotes e system vars m t → (AreApart system n m → ⊥) → AreSolvable (with_equality e s t) []
  allowed-equal n m s t a b h = elim (decide_equal system sound n m a.inside b.inside) [
    | inr apart ↦ absurd (h apart)
    | inl k ↦
        let new = represents_equal e system vars r k.new n m s t a b (ap length k.extends.nodes) k.solved in
        let sol = plain_solves k.new k.system (new_names k.new) in
        record {
          v = of_vars vars (plain k.new (new_names k.new));
          solves = new.solves (plain k.new (new_names k.new)) sol;
          apart = All-nil (λ pair. HaveOneTree e.kept (of_vars vars (plain k.new (new_names k.new))) pair → ⊥);
        }
  ]

  pub open_denoted : (difs waiting : List (ℕ × ℕ)) (differ : List (Subject × Subject)) → DenotePairs e system vars difs differ → AreOpen system difs waiting → OpenTold e system vars differ waiting
  open_denoted [] [] [] st none = record { left = []; open_are = term-none; denoted = tt }
  open_denoted [] (other ∷ waiting) [] st o = elim o [ ]
  open_denoted [] waiting (pair ∷ differ) st o = absurd st
  open_denoted (dif ∷ difs) waiting [] st o = absurd st
  open_denoted (dif ∷ difs) (other ∷ waiting) (pair ∷ differ) st (allowed h o) =
      let rest = open_denoted difs waiting differ st.1 o in
      record {
        left = pair ∷ rest.left;
        open_are = term-allowed (allowed-equal dif.0 dif.1 pair.0 pair.1 st.0.first st.0.second h) rest.open_are;
        denoted = (st.0, rest.denoted);
      }
  open_denoted (dif ∷ difs) waiting (pair ∷ differ) st (excluded apart o) =
      let rest = open_denoted difs waiting differ st.1 o in
      record {
        left = rest.left;
        open_are = term-excluded ((apart_iff e system vars r dif.0 dif.1 pair.0 pair.1 st.0.first st.0.second).0 apart) rest.open_are;
        denoted = rest.denoted;
      }
