-- Sums over lists, lists that begin others, and the items of one caller.
use Rattle.std.proofs.Common.{◌≡◌, ◌≢◌, ℕ, zero, suc, ◌+◌, ◌<◌, ◌≤◌, List, [], ◌∷◌, ◌++◌, length, set, map, Bool, refl, sym, ap, ◌∙◌, subst, ⊎_elim, arith, append_assoc, append-nil, length-append, eq-eqb, ne_eqb, le-ltb, lt-ltb}
use Rattle.std.specs.Prelude.{◌==◌, if◌then◌else◌}
use Rattle.std.proofs.lemmas.List.{nil_from_length}
use Rattle.std.proofs.lemmas.List.Elements.{filter-append, All-nil, All-cons, All-head, All-tail, All-append}
use mathlib.Core.Logic.{dite}
use native.Mathlib.Decide.{ℕ_discrete, dec_le}
use mathlib.Core.Option.{some, some-injective, some-ne-none}
use lib.ListN.{get_elem?}
use Rattle.atomic_table.proofs.Lists.{at_set, at_snoc, set_here, set_else}
use mathlib.Core.List.{IsPrefix}
use Rattle.mars_turn.specs.Items.{total, times, one_if, once_below, made_by, AllMade}
use Rattle.mars_turn.specs.Views.{number_of_ended}

module _ {A : Type 0} (f : A → ℕ) where
  pub total_set : (xs : List A) (i : ℕ) (v w : A) → get_elem? xs i ≡ some v → total f (set xs i w) + f v ≡ total f xs + f w
  total_set [] i v w e = absurd (some-ne-none v (sym e))
  total_set (x ∷ xs) zero v w e = let same : f x ≡ f v = ap f (some-injective x v e) in omega (arith, same)
  total_set (x ∷ xs) (suc i) v w e = omega (arith, total_set xs i v w e)

  pub total_snoc : (xs : List A) (w : A) → total f (xs ++ w ∷ []) ≡ total f xs + f w
  total_snoc [] w = omega arith
  total_snoc (x ∷ xs) w = omega (arith, total_snoc xs w)

  pub total_at : (xs : List A) (i : ℕ) (v : A) → get_elem? xs i ≡ some v → f v ≤ total f xs
  total_at [] i v e = absurd (some-ne-none v (sym e))
  total_at (x ∷ xs) zero v e = let same : f x ≡ f v = ap f (some-injective x v e) in omega (arith, same)
  total_at (x ∷ xs) (suc i) v e = omega (arith, total_at xs i v e)

  pub total_two : (xs : List A) (i j : ℕ) (v u : A) → get_elem? xs i ≡ some v → get_elem? xs j ≡ some u → j ≢ i → f v + f u ≤ total f xs
  total_two [] i j v u e d n = absurd (some-ne-none v (sym e))
  total_two (x ∷ xs) zero zero v u e d n = absurd (n refl)
  total_two (x ∷ xs) zero (suc j) v u e d n = let same : f x ≡ f v = ap f (some-injective x v e) in omega (arith, same, total_at xs j u d)
  total_two (x ∷ xs) (suc i) zero v u e d n = let same : f x ≡ f u = ap f (some-injective x u d) in omega (arith, same, total_at xs i v e)
  total_two (x ∷ xs) (suc i) (suc j) v u e d n = omega (arith, total_two xs i j v u e d (λ h. n (ap suc h)))

module _ {A : Type 0} (F : A → Type 0) where
  -- a fact of each member, after one was replaced
  pub each_set : (xs : List A) (i : ℕ) (w : A) → F w → ((j : ℕ) (u : A) → j ≢ i → get_elem? xs j ≡ some u → F u) → (j : ℕ) (u : A) → get_elem? (set xs i w) j ≡ some u → F u
  each_set xs i w mine others j u e = ⊎_elim (λ (x : (j ≡ i) × (w ≡ u)). subst F x.1 mine) (λ (x : (j ≢ i) × (get_elem? xs j ≡ some u)). others j u x.0 x.1) (at_set xs i j w u e)

  -- and after one came after the others
  pub each_snoc : (xs : List A) (w : A) → F w → ((j : ℕ) (u : A) → get_elem? xs j ≡ some u → F u) → (j : ℕ) (u : A) → get_elem? (xs ++ w ∷ []) j ≡ some u → F u
  each_snoc xs w mine others j u e = ⊎_elim (λ (x : get_elem? xs j ≡ some u). others j u x) (λ (x : w ≡ u). subst F x mine) (at_snoc xs w u j e)

module _ {A : Type 0} where
  pub IsPrefix-refl : (xs : List A) → IsPrefix xs xs
  IsPrefix-refl xs = ([], append-nil xs)

  pub IsPrefix-nil : (xs : List A) → IsPrefix [] xs
  IsPrefix-nil xs = (xs, refl)

  pub IsPrefix-more : (xs ys : List A) (more : List A) → IsPrefix xs ys → IsPrefix xs (ys ++ more)
  IsPrefix-more xs ys more (rest, e) = (rest ++ more, sym (append_assoc xs rest more) ∙ ap (λ (l : List A). l ++ more) e)

  -- of two beginnings of one list the shorter begins the longer
  pub IsPrefix-two : (xs ys zs : List A) → IsPrefix xs zs → IsPrefix ys zs → length xs ≤ length ys → IsPrefix xs ys
  IsPrefix-two [] ys zs p q le = (ys, refl)
  IsPrefix-two (x ∷ xs) [] zs p q le = absurd (omega arith)
  IsPrefix-two (x ∷ xs) (y ∷ ys) [] (rest, e) q le = absurd cc
  IsPrefix-two (x ∷ xs) (y ∷ ys) (z ∷ zs) (rest, e) (left, d) le =
      let xz : z ≡ x = cc in
      let yz : z ≡ y = cc in
      let es : xs ++ rest ≡ zs = cc in
      let ds : ys ++ left ≡ zs = cc in
      let (more, m) = IsPrefix-two xs ys zs (rest, es) (left, ds) (omega arith) in
      (more, cc)

  pub IsPrefix-same : (xs ys : List A) → IsPrefix xs ys → length ys ≤ length xs → xs ≡ ys
  IsPrefix-same xs ys (rest, e) le =
      let l : length (xs ++ rest) ≡ length ys = ap length e in
      let none : rest ≡ [] = nil_from_length rest (omega (arith, l, le, length-append xs rest)) in
      sym (append-nil xs) ∙ ap (λ (r : List A). xs ++ r) (sym none) ∙ e

  pub IsPrefix-length : (xs ys : List A) → IsPrefix xs ys → length xs ≤ length ys
  IsPrefix-length xs ys (rest, e) = let l : length (xs ++ rest) ≡ length ys = ap length e in omega (arith, l, length-append xs rest)

module _ {X : Type 0} (by : X → ℕ) where
  pub made_by-append : (k : ℕ) (xs ys : List X) → made_by by k (xs ++ ys) ≡ made_by by k xs ++ made_by by k ys
  made_by-append k xs ys = filter-append (λ (x : X). by x == k) xs ys

  pub made_by-mine : (k : ℕ) (xs : List X) (x : X) → by x ≡ k → made_by by k (xs ++ x ∷ []) ≡ made_by by k xs ++ x ∷ []
  made_by-mine k xs x e = made_by-append k xs (x ∷ []) ∙ ap (λ (l : List X). made_by by k xs ++ l) (ap (λ (b : Bool). if b then x ∷ [] else []) (eq-eqb (by x) k e))

  pub made_by-other : (k : ℕ) (xs : List X) (x : X) → by x ≢ k → made_by by k (xs ++ x ∷ []) ≡ made_by by k xs
  made_by-other k xs x n = made_by-append k xs (x ∷ []) ∙ ap (λ (l : List X). made_by by k xs ++ l) (ap (λ (b : Bool). if b then x ∷ [] else []) (ne_eqb (by x) k n)) ∙ append-nil (made_by by k xs)

  -- no item in the whole, so none in a beginning
  pub made_by-none : (k : ℕ) (xs ys : List X) → IsPrefix xs ys → made_by by k ys ≡ [] → made_by by k xs ≡ []
  made_by-none k xs ys (rest, e) none = nil_from_length (made_by by k xs) (
      let all : made_by by k xs ++ made_by by k rest ≡ [] = sym (made_by-append k xs rest) ∙ ap (made_by by k) e ∙ none in
      let n : length (made_by by k xs ++ made_by by k rest) ≡ 0 = ap length all in
      omega (arith, n, length-append (made_by by k xs) (made_by by k rest)))

  -- as many in a beginning as in the whole, so as many in a list between
  pub made_by-between : (k : ℕ) (xs ys zs mine : List X) → IsPrefix xs ys → IsPrefix ys zs → made_by by k xs ≡ mine → made_by by k zs ≡ mine → made_by by k ys ≡ mine
  made_by-between k xs ys zs mine (more, e) (rest, d) few all =
      let y : made_by by k ys ≡ mine ++ made_by by k more = ap (made_by by k) (sym e) ∙ made_by-append k xs more ∙ ap (λ (l : List X). l ++ made_by by k more) few in
      let z : mine ≡ made_by by k ys ++ made_by by k rest = sym all ∙ ap (made_by by k) (sym d) ∙ made_by-append k ys rest in
      let ly : length (made_by by k ys) ≡ length (mine ++ made_by by k more) = ap length y in
      let lz : length mine ≡ length (made_by by k ys ++ made_by by k rest) = ap length z in
      let none : made_by by k more ≡ [] = nil_from_length (made_by by k more) (omega (arith, ly, lz, length-append mine (made_by by k more), length-append (made_by by k ys) (made_by by k rest))) in
      y ∙ ap (λ (l : List X). mine ++ l) none ∙ append-nil mine

  -- the lists of callers that are not listed are as they were
  pub AllMade-other : (ended : List (ℕ × List X)) (log : List X) (x : X) → times (by x) (map number_of_ended ended) ≡ 0 → AllMade by log ended → AllMade by (log ++ x ∷ []) ended
  AllMade-other [] log x none all = All-nil (λ (e : ℕ × List X). made_by by e.0 (log ++ x ∷ []) ≡ e.1)
  AllMade-other (e ∷ es) log x none all =
      let before : ℕ × List X → Type 0 = λ d. made_by by d.0 log ≡ d.1 in
      let after : ℕ × List X → Type 0 = λ d. made_by by d.0 (log ++ x ∷ []) ≡ d.1 in
      All-cons after e es
      (made_by-other e.0 log x (λ same. let one : one_if (e.0 == by x) ≡ 1 = ap one_if (eq-eqb e.0 (by x) (sym same)) in absurd (omega (arith, one, none))) ∙ All-head before e es all)
      (AllMade-other es log x (omega (arith, none)) (All-tail before e es all))

  pub AllMade-append : (es ds : List (ℕ × List X)) (log : List X) → AllMade by log es → AllMade by log ds → AllMade by log (es ++ ds)
  AllMade-append es ds log p q = All-append (λ (e : ℕ × List X). made_by by e.0 log ≡ e.1) es ds p q

pub times-append : (k : ℕ) (xs ys : List ℕ) → times k (xs ++ ys) ≡ times k xs + times k ys
times-append k [] ys = omega arith
times-append k (x ∷ xs) ys = omega (arith, times-append k xs ys)

pub map_first-append : {X : Type 0} (es ds : List (ℕ × List X)) → map number_of_ended (es ++ ds) ≡ map number_of_ended es ++ map number_of_ended ds
map_first-append [] ds = refl
map_first-append (e ∷ es) ds = ap (λ (l : List ℕ). e.0 ∷ l) (map_first-append es ds)

-- one number more
pub once_more : (n k : ℕ) → one_if (n == k) + once_below k n ≡ once_below k (n + 1)
once_more n k = dite (ℕ_discrete n k)
    (λ same.
    let a : one_if (n == k) ≡ 1 = ap one_if (eq-eqb n k same) in
    let b : once_below k n ≡ 0 = ap one_if (le-ltb k n (omega (arith, same))) in
    let c : once_below k (n + 1) ≡ 1 = ap one_if (lt-ltb k (n + 1) (omega (arith, same))) in
    omega (arith, a, b, c))
    (λ other.
    let a : one_if (n == k) ≡ 0 = ap one_if (ne_eqb n k other) in
    dite (dec_le n k)
    (λ high.
    let b : once_below k n ≡ 0 = ap one_if (le-ltb k n high) in
    let c : once_below k (n + 1) ≡ 0 = ap one_if (le-ltb k (n + 1) (omega (arith, high, other))) in
    omega (arith, a, b, c))
    (λ low.
    let b : once_below k n ≡ 1 = ap one_if (lt-ltb k n (omega (arith, low))) in
    let c : once_below k (n + 1) ≡ 1 = ap one_if (lt-ltb k (n + 1) (omega (arith, low))) in
    omega (arith, a, b, c)))

pub once_none : (k : ℕ) → once_below k 0 ≡ 0
once_none k = ap one_if (le-ltb k 0 (omega arith))

pub once_most : (k n : ℕ) → once_below k n ≤ 1
once_most k n = dite (dec_le n k)
    (λ high. let b : once_below k n ≡ 0 = ap one_if (le-ltb k n high) in omega (arith, b))
    (λ low. let b : once_below k n ≡ 1 = ap one_if (lt-ltb k n (omega (arith, low))) in omega (arith, b))

pub once_low : (k n : ℕ) → 1 ≤ once_below k n → k < n
once_low k n least = dite (dec_le n k)
    (λ high. let b : once_below k n ≡ 0 = ap one_if (le-ltb k n high) in absurd (omega (arith, b, least)))
    (λ low. omega (arith, low))

pub at_within : {A : Type 0} (xs : List A) (i : ℕ) (v : A) → get_elem? xs i ≡ some v → i < length xs
at_within [] i v e = absurd (some-ne-none v (sym e))
at_within (x ∷ xs) zero v e = omega arith
at_within (x ∷ xs) (suc i) v e = omega (arith, at_within xs i v e)

pub total_same : {A : Type 0} (f : A → ℕ) (xs : List A) (i : ℕ) (v w : A) → get_elem? xs i ≡ some v → f w ≡ f v → total f (set xs i w) ≡ total f xs
total_same f xs i v w e same = omega (arith, total_set f xs i v w e, same)

-- a member with some fact, after one was replaced by one that has it too where the old one had
pub some_set : {A : Type 0} (F : A → Type 0) (xs : List A) (i : ℕ) (v w : A) → get_elem? xs i ≡ some v → (F v → F w)
    → (j : ℕ) × (u : A) × (get_elem? xs j ≡ some u) × F u → (j : ℕ) × (u : A) × (get_elem? (set xs i w) j ≡ some u) × F u
some_set F xs i v w at keeps (j, u, there, has) = dite (ℕ_discrete j i)
    (λ same. (i, w, set_here xs i w (at_within xs i v at), keeps (subst F (some-injective u v (sym there ∙ ap (get_elem? xs) same ∙ at)) has)))
    (λ other. (j, u, set_else xs i j w other ∙ there, has))
