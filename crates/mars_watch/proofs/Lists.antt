-- Two lists place by place, and what is left of them without the items at some places.
use Rattle.std.proofs.Common.{◌≡◌, ◌⊎◌, ℕ, zero, suc, ◌+◌, ◌-◌, ◌<◌, ◌≤◌, List, [], ◌∷◌, ◌++◌, length, take, drop, get_or, All, Contains, refl, sym, ap, ◌∙◌, subst, arith, inl, inr}
use Rattle.std.proofs.lemmas.Bool.{cases_eq}
use Rattle.std.proofs.lemmas.List.{get_or-drop, drop-drop, get_or_default}
use Rattle.std.proofs.lemmas.List.Elements.{All-append, All-take, All-drop, Contains-append_right}
use Rattle.mars_watch.specs.Lined.{AreAscending, without}
use Rattle.mars_watch.specs.Gathered.{AreEach, AreRising}

pub each-length : {X Y : Type 0} (R : X → Y → Type 0) (xs : List X) (ys : List Y) → AreEach R xs ys → length xs ≡ length ys
each-length R [] [] e = refl
each-length R [] (y ∷ ys) e = absurd e
each-length R (x ∷ xs) [] e = absurd e
each-length R (x ∷ xs) (y ∷ ys) e = ap suc (each-length R xs ys e.1)

-- at a place, and back
pub each-at : (R : ℕ → ℕ × ℕ → Type 0) (xs : List ℕ) (ys : List (ℕ × ℕ)) → AreEach R xs ys → (place : ℕ) → place < length xs → R (get_or xs place 0) (get_or ys place (0, 0))
each-at R [] ys e place h = absurd (omega arith)
each-at R (x ∷ xs) [] e place h = absurd e
each-at R (x ∷ xs) (y ∷ ys) e zero h = e.0
each-at R (x ∷ xs) (y ∷ ys) e (suc place) h = each-at R xs ys e.1 place (omega arith)

pub each-from : (R : ℕ → ℕ × ℕ → Type 0) (xs : List ℕ) (ys : List (ℕ × ℕ)) → length xs ≡ length ys → ((place : ℕ) → place < length xs → R (get_or xs place 0) (get_or ys place (0, 0))) → AreEach R xs ys
each-from R [] [] e f = tt
each-from R [] (y ∷ ys) e f = absurd (omega arith)
each-from R (x ∷ xs) [] e f = absurd (omega arith)
each-from R (x ∷ xs) (y ∷ ys) e f = (f 0 (omega arith), each-from R xs ys (omega arith) (λ place h. f (suc place) (omega arith)))

pub each-weaker : (R S : ℕ → ℕ × ℕ → Type 0) → ((x : ℕ) (y : ℕ × ℕ) → R x y → S x y) → (xs : List ℕ) (ys : List (ℕ × ℕ)) → AreEach R xs ys → AreEach S xs ys
each-weaker R S f [] [] e = tt
each-weaker R S f [] (y ∷ ys) e = absurd e
each-weaker R S f (x ∷ xs) [] e = absurd e
each-weaker R S f (x ∷ xs) (y ∷ ys) e = (f x y e.0, each-weaker R S f xs ys e.1)

pub each-push : (R : ℕ → ℕ × ℕ → Type 0) (xs : List ℕ) (ys : List (ℕ × ℕ)) (x : ℕ) (y : ℕ × ℕ) → AreEach R xs ys → R x y → AreEach R (xs ++ x ∷ []) (ys ++ y ∷ [])
each-push R [] [] x y e r = (r, tt)
each-push R [] (z ∷ ys) x y e r = absurd e
each-push R (z ∷ xs) [] x y e r = absurd e
each-push R (z ∷ xs) (w ∷ ys) x y e r = (e.0, each-push R xs ys x y e.1 r)

-- ascending places
pub ascending-size : (from : ℕ) (ps : List ℕ) (size : ℕ) → AreAscending from ps size → from ≤ size
ascending-size from [] size h = h
ascending-size from (p ∷ ps) size h = omega (arith, h.0, ascending-size (suc p) ps size h.1)

pub ascending-push : (from : ℕ) (ps : List ℕ) (next p : ℕ) → AreAscending from ps next → next ≤ p → AreAscending from (ps ++ p ∷ []) (suc p)
ascending-push from [] next p h k = (omega (arith, h), omega arith)
ascending-push from (q ∷ ps) next p h k = (h.0, ascending-push (suc q) ps next p h.1 k)

pub ascending-wider : (from : ℕ) (ps : List ℕ) (size more : ℕ) → AreAscending from ps size → size ≤ more → AreAscending from ps more
ascending-wider from [] size more h k = omega (arith, h)
ascending-wider from (p ∷ ps) size more h k = (h.0, ascending-wider (suc p) ps size more h.1 k)

pub ascending-lower : (from to : ℕ) (ps : List ℕ) (size : ℕ) → AreAscending to ps size → from ≤ to → AreAscending from ps size
ascending-lower from to [] size h k = omega (arith, h)
ascending-lower from to (p ∷ ps) size h k = (omega (arith, h.0), h.1)

pub ascending-low : (from : ℕ) (ps : List ℕ) (size i : ℕ) → AreAscending from ps size → i < length ps → from ≤ get_or ps i 0
ascending-low from [] size i h k = absurd (omega arith)
ascending-low from (p ∷ ps) size zero h k = h.0
ascending-low from (p ∷ ps) size (suc i) h k = omega (arith, h.0, ascending-low (suc p) ps size i h.1 (omega arith))

pub ascending-rises : (from : ℕ) (ps : List ℕ) (size : ℕ) → AreAscending from ps size → AreRising ps
ascending-rises from [] size h i j k l = absurd (omega arith)
ascending-rises from (p ∷ ps) size h zero zero k l = absurd (omega arith)
ascending-rises from (p ∷ ps) size h zero (suc j) k l = omega (arith, ascending-low (suc p) ps size j h.1 (omega arith))
ascending-rises from (p ∷ ps) size h (suc i) zero k l = absurd (omega arith)
ascending-rises from (p ∷ ps) size h (suc i) (suc j) k l = ascending-rises (suc p) ps size h.1 i j (omega arith) (omega arith)

-- what is left ascends still
drop-ascends : (n from : ℕ) (ps : List ℕ) (size : ℕ) → AreAscending from ps size → AreAscending from (drop n ps) size
drop-ascends zero from ps size h = h
drop-ascends (suc n) from [] size h = h
drop-ascends (suc n) from (p ∷ ps) size h = drop-ascends n from ps size (ascending-lower from (suc p) ps size h.1 (omega (arith, h.0)))

cut-ascends : (n base : ℕ) (xs ys : List ℕ) (size : ℕ) → AreAscending base xs size → ((low : ℕ) → AreAscending low (drop (suc n) xs) size → AreAscending low ys size) → AreAscending base (take n xs ++ ys) size
cut-ascends zero base xs ys size h f = f base (drop-ascends 1 base xs size h)
cut-ascends (suc n) base [] ys size h f = f base h
cut-ascends (suc n) base (x ∷ xs) ys size h f = (h.0, cut-ascends n (suc x) xs ys size h.1 f)

pub without-ascends : (base from : ℕ) (places xs : List ℕ) (size : ℕ) → AreAscending base xs size → AreAscending base (without from places xs) size
without-ascends base from [] xs size h = h
without-ascends base from (p ∷ places) xs size h =
    cut-ascends (p - from) base xs (without (suc p) places (drop (suc (p - from)) xs)) size h
    (λ low k. without-ascends low (suc p) places (drop (suc (p - from)) xs) size k)

pub without-all : {X : Type 0} (P : X → Type 0) (from : ℕ) (places : List ℕ) (xs : List X) → All P xs → All P (without from places xs)
without-all P from [] xs h = h
without-all P from (p ∷ places) xs h =
    All-append P (take (p - from) xs) (without (suc p) places (drop (suc (p - from)) xs)) (All-take P (p - from) xs h)
    (without-all P (suc p) places (drop (suc (p - from)) xs) (All-drop P (suc (p - from)) xs h))

-- the first item leaves, or stays
pub without-here : {X : Type 0} (from : ℕ) (places : List ℕ) (x : X) (xs : List X) → without from (from ∷ places) (x ∷ xs) ≡ without (suc from) places xs
without-here from places x xs = let e : from - from ≡ 0 = omega arith in rw e refl

pub without-later : {X : Type 0} (from p : ℕ) (places : List ℕ) (x : X) (xs : List X) → from < p → without from (p ∷ places) (x ∷ xs) ≡ x ∷ without (suc from) (p ∷ places) xs
without-later from p places x xs h = let e : p - from ≡ suc (p - suc from) = omega arith in rw e refl

-- the first item of what is left from a place on
pub drop-first : {X : Type 0} (from : ℕ) (x d : X) (xs all : List X) → x ∷ xs ≡ drop from all → x ≡ get_or all from d
drop-first from x d xs all e = let z : from + 0 ≡ from = omega arith in ap (λ l. get_or l 0 d) e ∙ get_or-drop from all 0 d ∙ ap (λ n. get_or all n d) z

pub drop-rest : {X : Type 0} (from : ℕ) (x : X) (xs all : List X) → x ∷ xs ≡ drop from all → xs ≡ drop (suc from) all
drop-rest from x xs all e = let z : from + 1 ≡ suc from = omega arith in ap (λ l. drop 1 l) e ∙ drop-drop 1 from all ∙ ap (λ n. drop n all) z

pub contains-none : {X : Type 0} (x : X) → Contains [] x → ⊥
contains-none x c = omega (arith, c.1)

pub contains-cases : {X : Type 0} (x y : X) (xs : List X) → Contains (x ∷ xs) y → (x ≡ y) ⊎ Contains xs y
contains-cases x y xs (zero, h, e) = inl e
contains-cases x y xs (suc k, h, e) = inr (k, omega arith, e)

pub contains-later : {X : Type 0} (x y : X) (xs : List X) → Contains xs y → Contains (x ∷ xs) y
contains-later x y xs c = Contains-append_right (x ∷ []) xs y c

pub contains-first : {X : Type 0} (x : X) (xs : List X) → Contains (x ∷ xs) x
contains-first x xs = (0, omega arith, refl)

-- a place that is none of ascending ones from a later place on
pub not-before : (from : ℕ) (ps : List ℕ) (size p : ℕ) → AreAscending from ps size → p < from → Contains ps p → ⊥
not-before from ps size p h k c =
    let low = ascending-low from ps size c.0 h c.1 in
    let e : get_or ps c.0 0 ≡ p = get_or_default ps c.0 0 p c.1 ∙ c.2 in
    omega arith

-- what holds at each place that stays holds of what is left
pub each-without : (R : ℕ → ℕ × ℕ → Type 0) (numbers : List ℕ) (pairs : List (ℕ × ℕ)) (from : ℕ) (places ns : List ℕ) (ps : List (ℕ × ℕ)) → ns ≡ drop from numbers → ps ≡ drop from pairs
    → length ns ≡ length ps → AreAscending from places (from + length ns)
    → ((place : ℕ) → from ≤ place → place < from + length ns → Contains places place ⊎ R (get_or numbers place 0) (get_or pairs place (0, 0)))
    → AreEach R (without from places ns) (without from places ps)
each-without R numbers pairs from [] [] [] en ep s a f = tt
each-without R numbers pairs from (q ∷ places) [] ps en ep s a f = absurd (omega (arith, a.0, ascending-size (suc q) places (from + 0) a.1))
each-without R numbers pairs from [] [] (p ∷ ps) en ep s a f = absurd (omega arith)
each-without R numbers pairs from places (n ∷ ns) [] en ep s a f = absurd (omega arith)
each-without R numbers pairs from [] (n ∷ ns) (p ∷ ps) en ep s a f =
    let sum : suc from + length ns ≡ from + length (n ∷ ns) = omega arith in
    let here : R (get_or numbers from 0) (get_or pairs from (0, 0)) = elim (f from (omega arith) (omega arith)) [ inl c ↦ absurd (contains-none from c) | inr r ↦ r ] in (
      subst (λ x. R x p) (sym (drop-first from n 0 ns numbers en)) (subst (λ x. R (get_or numbers from 0) x) (sym (drop-first from p (0, 0) ps pairs ep)) here),
      each-without R numbers pairs (suc from) [] ns ps (drop-rest from n ns numbers en) (drop-rest from p ps pairs ep) (omega arith) (omega arith) (λ place h k. f place (omega arith) (omega arith)),
    )
each-without R numbers pairs from (q ∷ places) (n ∷ ns) (p ∷ ps) en ep s a f =
    let sum : from + length (n ∷ ns) ≡ suc from + length ns = omega arith in
    elim (cases_eq q from) [
      | inl e ↦
          let a' : AreAscending (suc from) places (suc from + length ns) = subst (λ m. AreAscending (suc from) places m) sum (subst (λ m. AreAscending (suc m) places (from + length (n ∷ ns))) e a.1) in
          let rest = each-without R numbers pairs (suc from) places ns ps (drop-rest from n ns numbers en) (drop-rest from p ps pairs ep) (omega arith) a'
          (λ place h k. elim (f place (omega arith) (omega arith)) [ inl c ↦ elim (contains-cases q place places c) [ inl i ↦ absurd (omega arith) | inr i ↦ inl i ] | inr r ↦ inr r ]) in
          rw (e, without-here from places n ns, without-here from places p ps) rest
      | inr ne ↦
          let later : from < q = omega (arith, a.0) in
          let here : R (get_or numbers from 0) (get_or pairs from (0, 0)) = elim (f from (omega arith) (omega arith)) [
            | inl c ↦ absurd (elim (contains-cases q from places c) [ inl i ↦ ne i | inr i ↦ not-before (suc q) places (from + length (n ∷ ns)) from a.1 (omega arith) i ])
            | inr r ↦ r
          ] in
          let rest = each-without R numbers pairs (suc from) (q ∷ places) ns ps (drop-rest from n ns numbers en) (drop-rest from p ps pairs ep) (omega arith)
          ((later, subst (λ m. AreAscending (suc q) places m) sum a.1)) (λ place h k. f place (omega arith) (omega arith)) in
          rw (without-later from q places n ns later, without-later from q places p ps later) (
            subst (λ x. R x p) (sym (drop-first from n 0 ns numbers en)) (subst (λ x. R (get_or numbers from 0) x) (sym (drop-first from p (0, 0) ps pairs ep)) here),
            rest,
          )
    ]
