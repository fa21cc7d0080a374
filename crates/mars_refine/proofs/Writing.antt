-- What is read after writes.
use Rattle.std.proofs.Common.{◌≡◌, ◌≢◌, ◌⊎◌, ℕ, zero, suc, ◌<◌, ◌-◌, take, drop, List, [], ◌∷◌, Bool, true, false, length, get_or, set, refl, sym, ap, ◌∙◌, arith, inl, inr, Contains, length-set}
use Rattle.std.proofs.lemmas.Bool.{cases_eq}
use Rattle.std.proofs.lemmas.List.{take_all, get_or-set_same, get_or-set_other}
use Rattle.mars_refine.specs.Writes.{put_all}

-- what is read after a write
pub set_cases : {X : Type 0} (xs : List X) (i j : ℕ) (v d : X) → i < length xs → ((j ≡ i) × (get_or (set xs i v) j d ≡ v)) ⊎ ((j ≢ i) × (get_or (set xs i v) j d ≡ get_or xs j d))
set_cases xs i j v d h = elim (cases_eq j i) [
  | inl e ↦ inl (e, ap (λ k. get_or (set xs i v) k d) e ∙ get_or-set_same xs i v d h)
  | inr e ↦ inr (e, get_or-set_other xs i j v d e)
]

pub true_or_false : (b : Bool) → (b ≡ true) ⊎ (b ≡ false)
true_or_false true = inl refl
true_or_false false = inr refl

-- what is read after a write at many places
pub length-put_all : {X : Type 0} (xs : List X) (ps : List ℕ) (v : X) → length (put_all xs ps v) ≡ length xs
length-put_all xs [] v = refl
length-put_all xs (p ∷ ps) v = length-put_all (set xs p v) ps v ∙ length-set xs p v

pub put_all-kept : {X : Type 0} (xs : List X) (ps : List ℕ) (v d : X) (u : ℕ) → get_or xs u d ≡ v → u < length xs → get_or (put_all xs ps v) u d ≡ v
put_all-kept xs [] v d u e h = e
put_all-kept xs (p ∷ ps) v d u e h = put_all-kept (set xs p v) ps v d u (elim (cases_eq u p) [
  | inl same ↦ ap (λ k. get_or (set xs k v) u d) (sym same) ∙ get_or-set_same xs u v d h
  | inr other ↦ get_or-set_other xs p u v d other ∙ e
]) (omega (arith, length-set xs p v))

pub put_all-there : {X : Type 0} (xs : List X) (ps : List ℕ) (v d : X) (u : ℕ) → Contains ps u → u < length xs → get_or (put_all xs ps v) u d ≡ v
put_all-there xs [] v d u (k, within, here) h = absurd (omega arith)
put_all-there xs (p ∷ ps) v d u (zero, within, here) h = put_all-kept (set xs p v) ps v d u (ap (λ k. get_or (set xs k v) u d) here ∙ get_or-set_same xs u v d h) (omega (arith, length-set xs p v))
put_all-there xs (p ∷ ps) v d u (suc k, within, here) h = put_all-there (set xs p v) ps v d u (k, omega arith, here) (omega (arith, length-set xs p v))

pub put_all-other : {X : Type 0} (xs : List X) (ps : List ℕ) (v d : X) (u : ℕ) → (Contains ps u → ⊥) → get_or (put_all xs ps v) u d ≡ get_or xs u d
put_all-other xs [] v d u none = refl
put_all-other xs (p ∷ ps) v d u none =
    put_all-other (set xs p v) ps v d u (λ h. none (suc h.0, omega (arith, h.1), h.2))
    ∙ get_or-set_other xs p u v d (λ e. none (zero, omega arith, sym e))

-- the part from the start to the end
pub part_whole : (xs part : List ℕ) (count : ℕ) → count ≡ length xs → part ≡ take (count - 0) (drop 0 xs) → part ≡ xs
part_whole xs part count e f = f ∙ take_all (count - 0) xs (omega arith)
