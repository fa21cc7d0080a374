-- There is a walk over a queue, from any roots.
use Rattle.std.proofs.Common.{◌≡◌, ℕ, zero, suc, ◌+◌, ◌<◌, ◌≤◌, ◌||◌, Bool, true, false, cond, nat_eq, List, [], ◌∷◌, ◌++◌, length, take, get_or, Some, slice_get, refl, sym, ap, ◌∙◌, arith, append-nil, inl, inr, ◌⊎◌, All, eq-eqb}
use Rattle.std.specs.List.{flat_map, list_any}
use Rattle.std.proofs.lemmas.Bool.{cases_lt}
use Rattle.std.proofs.lemmas.Option.{same_Some, slice_get-get_or}
use Rattle.std.proofs.lemmas.List.{take_all}
use Rattle.std.proofs.lemmas.List.Elements.{All-nil, All-get_or}
use Rattle.mars_tree.specs.Graph.{Node, kids_of}
use Rattle.mars_reach.specs.Order.{AreDistinct, IsQueue, met_after, with_number}
use Rattle.mars_reach.proofs.Numbers.{All-met, distinct_count}
use Rattle.mars_reach.proofs.Ordering.{queue_more}

push-get : (xs : List ℕ) (x k y : ℕ) → slice_get (xs ++ x ∷ []) k ≡ Some y → (slice_get xs k ≡ Some y) ⊎ ((k ≡ length xs) × (x ≡ y))
push-get [] x zero y e = inr (refl, same_Some x y e)
push-get [] x (suc k) y e = cc
push-get (z ∷ xs) x zero y e = inl e
push-get (z ∷ xs) x (suc k) y e = elim (push-get xs x k y e) [
  | inl a ↦ inl a
  | inr b ↦ inr (ap suc b.0, b.1)
]

true-right : (a b : Bool) → b ≡ true → (a || b) ≡ true
true-right true b e = refl
true-right false b e = e

any-at : (xs : List ℕ) (x k : ℕ) → slice_get xs k ≡ Some x → list_any (nat_eq x) xs ≡ true
any-at [] x k e = cc
any-at (z ∷ xs) x zero e = ap (λ b. b || list_any (nat_eq x) xs) (eq-eqb x z (sym (same_Some z x e)))
any-at (z ∷ xs) x (suc k) e = true-right (nat_eq x z) (list_any (nat_eq x) xs) (any-at xs x k e)

distinct-push : (xs : List ℕ) (x : ℕ) → AreDistinct xs → list_any (nat_eq x) xs ≡ false → AreDistinct (xs ++ x ∷ [])
distinct-push xs x d new i j y a b = by (push-get xs x i y a) (push-get xs x j y b)
  where
    old : (k : ℕ) → slice_get xs k ≡ Some y → x ≡ y → ⊥
    old k e same = let there : list_any (nat_eq x) xs ≡ true = any-at xs x k (e ∙ ap (λ z. Some z) (sym same)) in cc

    by : (slice_get xs i ≡ Some y) ⊎ ((i ≡ length xs) × (x ≡ y)) → (slice_get xs j ≡ Some y) ⊎ ((j ≡ length xs) × (x ≡ y)) → i ≡ j
    by (inl e) (inl f) = d i j y e f
    by (inl e) (inr f) = absurd (old i e f.1)
    by (inr e) (inl f) = absurd (old j f e.1)
    by (inr e) (inr f) = e.0 ∙ sym f.0

distinct-with : (xs : List ℕ) (x : ℕ) → AreDistinct xs → AreDistinct (with_number xs x)
distinct-with xs x d = by (list_any (nat_eq x) xs) refl
  where
    by : (b : Bool) → list_any (nat_eq x) xs ≡ b → AreDistinct (cond b xs (xs ++ x ∷ []))
    by true e = d
    by false e = distinct-push xs x d e

distinct-met : (met xs : List ℕ) → AreDistinct met → AreDistinct (met_after met xs)
distinct-met met [] d = d
distinct-met met (x ∷ xs) d = distinct-met (with_number met x) xs (distinct-with met x d)

-- so many of a queue were taken
record IsQueueing (P : ℕ → Type 0) (g : List Node) (roots : List ℕ) (next : ℕ) (order : List ℕ) : Type 0 where
  within : next ≤ length order
  met : met_after [] (roots ++ flat_map (kids_of g) (take next order)) ≡ order
  early : (i : ℕ) → i < next → i < length (met_after [] (roots ++ flat_map (kids_of g) (take i order)))
  distinct : AreDistinct order
  all : All P order

-- a walk over a queue from the roots, of which all nodes have a property
pub record Walked (P : ℕ → Type 0) (g : List Node) (roots : List ℕ) : Type 0 where
  pub order : List ℕ
  pub queue : IsQueue g roots order
  pub distinct : AreDistinct order
  pub all : All P order

module _ (P : ℕ → Type 0) (g : List Node) (roots : List ℕ) (inside : (order : List ℕ) → All P order → All (λ n. n < length g) order)
    (kids : (n : ℕ) → P n → All P (kids_of g n)) where
  done : (next : ℕ) (order : List ℕ) → IsQueueing P g roots next order → length order ≤ next → Walked P g roots
  done next order q over = record {
    order = order;
    queue = record {
      whole = ap (λ ns. met_after [] (roots ++ flat_map (kids_of g) ns)) (sym (take_all next order over)) ∙ q.met;
      early = λ i lt. q.early i (omega (arith, lt, over));
    };
    distinct = q.distinct;
    all = q.all;
  }

  run : (more next : ℕ) (order : List ℕ) → IsQueueing P g roots next order → length g ≤ next + more → Walked P g roots
  run zero next order q enough =
      let few = distinct_count order (length g) q.distinct (inside order q.all) in
      done next order q (omega (arith, few, enough))
  run (suc more) next order q enough = elim (cases_lt next (length order)) [
    | inr over ↦ done next order q over
    | inl lt ↦
        let node = get_or order next 0 in
        let new = met_after order (kids_of g node) in
        let step = queue_more (kids_of g) roots order new next node (slice_get-get_or order next 0 lt) q.met q.early refl in
        run more (next + 1) new
        (record {
          within = step.within;
          met = step.met;
          early = step.early;
          distinct = distinct-met order (kids_of g node) q.distinct;
          all = All-met P order (kids_of g node) q.all (kids node (All-get_or P order next 0 lt q.all));
        })
        (omega (arith, enough))
  ]

  pub walked : All P roots → Walked P g roots
  walked roots_all =
      run (length g) 0 (met_after [] roots)
      (record {
        within = omega arith;
        met = ap (met_after []) (append-nil roots);
        early = λ i lt. absurd (omega (arith, lt));
        distinct = distinct-met [] roots (λ i j x a b. cc);
        all = All-met P [] roots (All-nil P) roots_all;
      })
      (omega arith)
