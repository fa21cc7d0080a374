-- Facts on plain lists for the crates above: what is at a place, and what holds of all entries.
use Rattle.std.proofs.Common.{◌≡◌, ℕ, zero, suc, ◌<◌, ◌+◌, ◌⊎◌, List, [], ◌∷◌, ◌++◌, length, take, drop, map, Some, slice_get, refl, subst, ap, ◌∙◌, arith, inl, inr, All, Contains}
use Rattle.std.specs.List.{AllZip}
use Rattle.std.proofs.lemmas.Option.{slice_get-get_or, slice_get_within, get_or_from_slice_get, same_Some}
use Rattle.std.proofs.lemmas.List.{take-append-le, drop-append-le, take_all, drop_all, take_more}
use Rattle.std.proofs.lemmas.List.Elements.{All-nil, All-cons, All-head, All-tail, All-get_or}

module _ {X : Type 0} where
  -- the first of two lists
  pub get-append_before : (xs ys : List X) (k : ℕ) → k < length xs → slice_get (xs ++ ys) k ≡ slice_get xs k
  get-append_before [] ys k h = absurd (omega arith)
  get-append_before (x ∷ xs) ys zero h = refl
  get-append_before (x ∷ xs) ys (suc k) h = get-append_before xs ys k (omega arith)

  pub get-append : (xs ys : List X) (k : ℕ) (x : X) → slice_get xs k ≡ Some x → slice_get (xs ++ ys) k ≡ Some x
  get-append xs ys k x e = get-append_before xs ys k (slice_get_within xs k x e) ∙ e

  -- the second of two lists
  pub get-append_after : (xs ys : List X) (k : ℕ) → slice_get (xs ++ ys) (length xs + k) ≡ slice_get ys k
  get-append_after [] ys k = ap (slice_get ys) (let e : 0 + k ≡ k = omega arith in e)
  get-append_after (x ∷ xs) ys k = ap (slice_get (x ∷ (xs ++ ys))) (let e : suc (length xs) + k ≡ suc (length xs + k) = omega arith in e) ∙ get-append_after xs ys k

  -- one entry more at the end
  pub get-last : (xs : List X) (x : X) → slice_get (xs ++ x ∷ []) (length xs) ≡ Some x
  get-last [] x = refl
  get-last (y ∷ xs) x = get-last xs x

  pub get-push : (xs : List X) (y : X) (k : ℕ) (x : X) → slice_get (xs ++ y ∷ []) k ≡ Some x → (slice_get xs k ≡ Some x) ⊎ ((k ≡ length xs) × (y ≡ x))
  get-push [] y zero x e = inr (refl, same_Some y x e)
  get-push [] y (suc k) x e = cc
  get-push (z ∷ xs) y zero x e = inl e
  get-push (z ∷ xs) y (suc k) x e = elim (get-push xs y k x e) [ inl w ↦ inl w | inr w ↦ inr (ap suc w.0, w.1) ]

  -- parts of a list
  pub get-drop : (n : ℕ) (xs : List X) (k : ℕ) → slice_get (drop n xs) k ≡ slice_get xs (n + k)
  get-drop zero xs k = ap (slice_get xs) (let e : k ≡ 0 + k = omega arith in e)
  get-drop (suc n) [] k = refl
  get-drop (suc n) (x ∷ xs) k = get-drop n xs k ∙ ap (slice_get (x ∷ xs)) (let e : suc (n + k) ≡ suc n + k = omega arith in e)

  pub get-take : (n : ℕ) (xs : List X) (k : ℕ) (x : X) → slice_get (take n xs) k ≡ Some x → (k < n) × (slice_get xs k ≡ Some x)
  get-take zero xs k x e = cc
  get-take (suc n) [] k x e = cc
  get-take (suc n) (y ∷ xs) zero x e = (omega arith, e)
  get-take (suc n) (y ∷ xs) (suc k) x e = let t = get-take n xs k x e in (omega (arith, t.0), t.1)

  pub take-get : (n : ℕ) (xs : List X) (k : ℕ) (x : X) → k < n → slice_get xs k ≡ Some x → slice_get (take n xs) k ≡ Some x
  take-get zero xs k x h e = absurd (omega arith)
  take-get (suc n) [] k x h e = cc
  take-get (suc n) (y ∷ xs) zero x h e = e
  take-get (suc n) (y ∷ xs) (suc k) x h e = take-get n xs k x (omega arith) e

  pub take-next : (xs : List X) (k : ℕ) (x : X) → slice_get xs k ≡ Some x → take (k + 1) xs ≡ take k xs ++ x ∷ []
  take-next xs k x e = take_more xs k x (slice_get_within xs k x e) ∙ ap (λ y. take k xs ++ y ∷ []) (get_or_from_slice_get xs k x x e)

  pub take-before : (n : ℕ) (xs ys : List X) → n ≡ length xs → take n (xs ++ ys) ≡ xs
  take-before n xs ys e = take-append-le n xs ys (omega arith) ∙ take_all n xs (omega arith)

  pub drop-before : (n : ℕ) (xs ys : List X) → n ≡ length xs → drop n (xs ++ ys) ≡ ys
  drop-before n xs ys e = drop-append-le n xs ys (omega arith) ∙ ap (λ zs. zs ++ ys) (drop_all n xs (omega arith))

  -- lists with the same entries are one
  pub one-from_gets : (xs ys : List X) → length xs ≡ length ys → ((k : ℕ) (x y : X) → slice_get xs k ≡ Some x → slice_get ys k ≡ Some y → x ≡ y) → xs ≡ ys
  one-from_gets [] [] e r = refl
  one-from_gets (x ∷ xs) (y ∷ ys) e r = ap (λ z. z ∷ xs) (r 0 x y refl refl) ∙ ap (λ zs. y ∷ zs) (one-from_gets xs ys (omega arith) (λ k. r (suc k)))
  one-from_gets [] (y ∷ ys) e r = absurd (omega arith)
  one-from_gets (x ∷ xs) [] e r = absurd (omega arith)

  -- what holds of all entries
  pub All-get : (P : X → Type 0) (xs : List X) (k : ℕ) (x : X) → All P xs → slice_get xs k ≡ Some x → P x
  All-get P xs k x all e = subst P (get_or_from_slice_get xs k x x e) (All-get_or P xs k x (slice_get_within xs k x e) all)

  pub All-from_gets : (P : X → Type 0) (xs : List X) → ((k : ℕ) (x : X) → slice_get xs k ≡ Some x → P x) → All P xs
  All-from_gets P [] r = All-nil P
  All-from_gets P (x ∷ xs) r = All-cons P x xs (r 0 x refl) (All-from_gets P xs (λ k. r (suc k)))

  pub All-before : (P : X → Type 0) (xs ys : List X) → All P (xs ++ ys) → All P xs
  All-before P [] ys all = All-nil P
  All-before P (x ∷ xs) ys all = All-cons P x xs (All-head P x (xs ++ ys) all) (All-before P xs ys (All-tail P x (xs ++ ys) all))

  pub All-after : (P : X → Type 0) (xs ys : List X) → All P (xs ++ ys) → All P ys
  All-after P [] ys all = all
  All-after P (x ∷ xs) ys all = All-after P xs ys (All-tail P x (xs ++ ys) all)

  pub All-last : (P : X → Type 0) (xs : List X) (x : X) → All P (xs ++ x ∷ []) → P x
  All-last P xs x all = All-head P x [] (All-after P xs (x ∷ []) all)

  -- what a list contains
  pub Contains-get : (xs : List X) (k : ℕ) (x : X) → slice_get xs k ≡ Some x → Contains xs x
  Contains-get xs k x e = (k, slice_get_within xs k x e, get_or_from_slice_get xs k x x e)

  pub get-Contains : (xs : List X) (x : X) → Contains xs x → (k : ℕ) × (k < length xs) × (slice_get xs k ≡ Some x)
  get-Contains xs x (k, within, here) = (k, within, slice_get-get_or xs k x within ∙ ap (λ p. Some p) here)

-- the same function at each entry
pub map-same : {X Y : Type 0} (f h : X → Y) (xs : List X) → ((k : ℕ) (x : X) → slice_get xs k ≡ Some x → f x ≡ h x) → map f xs ≡ map h xs
map-same f h [] r = refl
map-same f h (x ∷ xs) r = ap (λ y. y ∷ map f xs) (r 0 x refl) ∙ ap (λ ys. h x ∷ ys) (map-same f h xs (λ k. r (suc k)))

pub map-itself : {X : Type 0} (xs : List X) → map (λ x. x) xs ≡ xs
map-itself [] = refl
map-itself (x ∷ xs) = ap (λ ys. x ∷ ys) (map-itself xs)

-- two lists that are related place by place
module _ {X Y : Type 0} (R : X → Y → Type 0) where
  pub AllZip-length : (xs : List X) (ys : List Y) → AllZip R xs ys → length xs ≡ length ys
  AllZip-length [] [] r = refl
  AllZip-length (x ∷ xs) (y ∷ ys) r = ap suc (AllZip-length xs ys r.1)
  AllZip-length [] (y ∷ ys) r = absurd r
  AllZip-length (x ∷ xs) [] r = absurd r

  pub AllZip-push : (xs : List X) (ys : List Y) (x : X) (y : Y) → AllZip R xs ys → R x y → AllZip R (xs ++ x ∷ []) (ys ++ y ∷ [])
  AllZip-push [] [] x y r last = (last, tt)
  AllZip-push (a ∷ xs) (b ∷ ys) x y r last = (r.0, AllZip-push xs ys x y r.1 last)
  AllZip-push [] (b ∷ ys) x y r last = absurd r
  AllZip-push (a ∷ xs) [] x y r last = absurd r

  pub AllZip-get : (xs : List X) (ys : List Y) (k : ℕ) (x : X) (y : Y) → AllZip R xs ys → slice_get xs k ≡ Some x → slice_get ys k ≡ Some y → R x y
  AllZip-get [] ys k x y r left right = cc
  AllZip-get (a ∷ xs) [] k x y r left right = cc
  AllZip-get (a ∷ xs) (b ∷ ys) zero x y r left right = subst (λ z. R z y) (same_Some a x left) (subst (R a) (same_Some b y right) r.0)
  AllZip-get (a ∷ xs) (b ∷ ys) (suc k) x y r left right = AllZip-get xs ys k x y r.1 left right

  pub AllZip-from_gets : (xs : List X) (ys : List Y) → length xs ≡ length ys → ((k : ℕ) (x : X) (y : Y) → slice_get xs k ≡ Some x → slice_get ys k ≡ Some y → R x y) → AllZip R xs ys
  AllZip-from_gets [] [] e r = tt
  AllZip-from_gets (x ∷ xs) (y ∷ ys) e r = (r 0 x y refl refl, AllZip-from_gets xs ys (omega arith) (λ k. r (suc k)))
  AllZip-from_gets [] (y ∷ ys) e r = absurd (omega arith)
  AllZip-from_gets (x ∷ xs) [] e r = absurd (omega arith)
