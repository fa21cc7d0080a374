-- Two lists whose items are related place by place, while they grow.
use Rattle.std.proofs.Common.{◌≡◌, ℕ, zero, suc, ◌+◌, ◌<◌, ◌≤◌, List, [], ◌∷◌, ◌++◌, length, take, take-suc, get_or, slice_get, Some, refl, sym, ap, ◌∙◌, subst, arith}
use Rattle.std.proofs.lemmas.List.{take_all}
use Rattle.std.proofs.lemmas.Option.{same_Some, none-some}
use Rattle.mars_rules.specs.PairedLists.{AllPaired}

pub paired-push : {X Y : Type 0} (R : X → Y → Type 0) (xs : List X) (ys : List Y) (x : X) (y : Y) → AllPaired R xs ys → R x y → AllPaired R (xs ++ x ∷ []) (ys ++ y ∷ [])
paired-push R [] [] x y h r = (r, tt)
paired-push R [] (b ∷ ys) x y h r = absurd h
paired-push R (a ∷ xs) [] x y h r = absurd h
paired-push R (a ∷ xs) (b ∷ ys) x y h r = (h.0, paired-push R xs ys x y h.1 r)

-- the next item has its own
pub paired-step : {X Y : Type 0} (R : X → Y → Type 0) (xs : List X) (ys new : List Y) (i : ℕ) (d : X) (y : Y) → i < length xs → new ≡ ys ++ y ∷ []
    → AllPaired R (take i xs) ys → R (get_or xs i d) y → AllPaired R (take (i + 1) xs) new
paired-step R xs ys new i d y h e all r =
    let one : suc i ≡ i + 1 = omega arith in
    let next : take i xs ++ get_or xs i d ∷ [] ≡ take (i + 1) xs = sym (take-suc xs i d h) ∙ ap (λ n. take n xs) one in
    subst (λ zs. AllPaired R zs new) next (subst (AllPaired R (take i xs ++ get_or xs i d ∷ [])) (sym e) (paired-push R (take i xs) ys (get_or xs i d) y all r))

-- all items have their own
pub paired-all : {X Y : Type 0} (R : X → Y → Type 0) (xs : List X) (ys : List Y) (n : ℕ) → length xs ≤ n → AllPaired R (take n xs) ys → AllPaired R xs ys
paired-all R xs ys n h all = subst (λ zs. AllPaired R zs ys) (take_all n xs h) all

pub paired-size : {X Y : Type 0} (R : X → Y → Type 0) (xs : List X) (ys : List Y) → AllPaired R xs ys → length xs ≡ length ys
paired-size R [] [] h = refl
paired-size R [] (b ∷ ys) h = absurd h
paired-size R (a ∷ xs) [] h = absurd h
paired-size R (a ∷ xs) (b ∷ ys) h = ap suc (paired-size R xs ys h.1)

-- the items at one place
pub paired-at : {X Y : Type 0} (R : X → Y → Type 0) (xs : List X) (ys : List Y) → AllPaired R xs ys → (k : ℕ) (x : X) (y : Y) → slice_get xs k ≡ Some x → slice_get ys k ≡ Some y → R x y
paired-at R [] ys h k x y e f = absurd (none-some x e)
paired-at R (a ∷ xs) [] h k x y e f = absurd h
paired-at R (a ∷ xs) (b ∷ ys) h zero x y e f = subst (λ z. R z y) (same_Some a x e) (subst (R a) (same_Some b y f) h.0)
paired-at R (a ∷ xs) (b ∷ ys) h (suc k) x y e f = paired-at R xs ys h.1 k x y e f

pub paired-weaker : {X Y : Type 0} (R S : X → Y → Type 0) → ((x : X) (y : Y) → R x y → S x y) → (xs : List X) (ys : List Y) → AllPaired R xs ys → AllPaired S xs ys
paired-weaker R S f [] [] h = tt
paired-weaker R S f [] (b ∷ ys) h = absurd h
paired-weaker R S f (a ∷ xs) [] h = absurd h
paired-weaker R S f (a ∷ xs) (b ∷ ys) h = (f a b h.0, paired-weaker R S f xs ys h.1)
