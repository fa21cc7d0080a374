-- What the test of a table says: no symbol on a stack takes what may come after it.
use Rattle.std.proofs.Common.{◌≡◌, ℕ, zero, suc, List, [], ◌∷◌, ◌++◌, refl, Some, Bool, true, false, ◌&&◌, ◌||◌, not, subst}
use Rattle.std.specs.Prelude.{is_some, slice_get}
use Rattle.mars_grammar.specs.FormTable.{FormTable, if_not, leaves_in}
use Rattle.mars_grammar.specs.Testing.{Test, Passes, all_of, implies, is_optional, may, form_fits, form_fits_if, starts}

pub and-left : (a b : Bool) → a && b ≡ true → a ≡ true
and-left true b e = refl
and-left false b e = cc

pub and-right : (a b : Bool) → a && b ≡ true → b ≡ true
and-right true b e = e
and-right false b e = cc

pub implied : (a b : Bool) → implies a b ≡ true → a ≡ true → b ≡ true
implied true b e f = e
implied false b e f = cc

not-true : (a : Bool) → not a ≡ true → a ≡ false
not-true true e = cc
not-true false e = refl

pub holds-in : {A : Type 0} (p : A → Bool) (us : List A) → all_of p us ≡ true → (i : ℕ) (u : A) → slice_get us i ≡ Some u → p u ≡ true
holds-in p [] e i u at = cc
holds-in p (x ∷ us) e zero u at = let same : x ≡ u = cc in subst (λ u. p u ≡ true) same (and-left (p x) (all_of p us) e)
holds-in p (x ∷ us) e (suc i) u at = holds-in p us (and-right (p x) (all_of p us) e) i u at

-- what can be left out in some mode can be left out
pub leaves-at : {S K T A M : Type 0} (G : FormTable S K T A M) (s : S) (b : Bool) (as' : List A) → if_not b (G.leaves s) ≡ Some as' → G.leaves s ≡ Some as'
leaves-at G s true as' e = cc
leaves-at G s false as' e = e

module _ {S K T A M : Type 0} (G : FormTable S K T A M) (C : Test S K T M) (P : Passes G C) where
  pub each : (p : K → Bool) → all_of p C.kinds ≡ true → (u : K) → p u ≡ true
  each p e u = holds-in p C.kinds e (C.kind_place u) u (P.all_kinds u)

  pub each-symbol : (p : S → Bool) → all_of p C.symbols ≡ true → (s : S) → p s ≡ true
  each-symbol p e s = holds-in p C.symbols e (C.symbol_place s) s (P.all_symbols s)

  pub valid : (s : S) (u : K) (form : List S) → G.takes s u ≡ Some form → form_fits G C s form ≡ true
  valid s u form e = subst (λ o. form_fits_if G C s o ≡ true) e (each (λ u. form_fits_if G C s (G.takes s u)) (each-symbol (λ s. all_of (λ u. form_fits_if G C s (G.takes s u)) C.kinds) P.forms s) u)

  bars-at : (s : S) (u : K) → implies (is_some (G.leaves s) && is_some (G.takes s u)) (C.bars s u) ≡ true
  bars-at s u = each (λ u. implies (is_some (G.leaves s) && is_some (G.takes s u)) (C.bars s u)) (each-symbol (λ s. all_of (λ u. implies (is_some (G.leaves s) && is_some (G.takes s u)) (C.bars s u)) C.kinds) P.barred s) u

  -- a symbol that can be left out bars what it takes
  pub bars-taken : (s : S) (u : K) (as' : List A) (form : List S) → G.leaves s ≡ Some as' → G.takes s u ≡ Some form → C.bars s u ≡ true
  bars-taken s u as' form e f = subst (λ l. implies (is_some l && true) (C.bars s u) ≡ true) e (subst (λ o. implies (is_some (G.leaves s) && is_some o) (C.bars s u) ≡ true) f (bars-at s u))

  -- no symbol takes what may come after it
  abbrev pub IsApart : List S → Type 0
  IsApart [] = Unit {0}
  IsApart (s ∷ k) = ((u : K) → C.bars s u ≡ true → may G u k ≡ false) × IsApart k

  may-after : (u : K) (y k : List S) → may G u y ≡ false → (is_optional G y ≡ true → may G u k ≡ false) → may G u (y ++ k) ≡ false
  may-after u [] k none later = later refl
  may-after u (s ∷ y) k none later = at-symbol (is_some (G.takes s u)) (is_some (G.leaves s)) none later (λ none later. may-after u y k none later)
    where
      at-symbol : (a b : Bool) → a || (b && may G u y) ≡ false → (b && is_optional G y ≡ true → may G u k ≡ false) →
          (may G u y ≡ false → (is_optional G y ≡ true → may G u k ≡ false) → may G u (y ++ k) ≡ false) → a || (b && may G u (y ++ k)) ≡ false
      at-symbol true b none later ih = cc
      at-symbol false false none later ih = refl
      at-symbol false true none later ih = ih none later

  -- what is due after a token
  pub apart-form : (s : S) (form k : List S) → form_fits G C s form ≡ true → ((u : K) → C.bars s u ≡ true → may G u k ≡ false) → IsApart k → IsApart (form ++ k)
  apart-form s [] k fit later rest = rest
  apart-form s (x ∷ y) k fit later rest =
      let first = and-left (all_of (λ u. implies (C.bars x u) (not (may G u y))) C.kinds) _ fit in
      let others = and-right (all_of (λ u. implies (C.bars x u) (not (may G u y))) C.kinds) _ fit in
      let last = and-left (implies (is_optional G y) (all_of (λ u. implies (C.bars x u) (C.bars s u)) C.kinds)) _ others in
      let more = and-right (implies (is_optional G y) (all_of (λ u. implies (C.bars x u) (C.bars s u)) C.kinds)) _ others in (
        λ u barred. may-after u y k (not-true (may G u y) (implied (C.bars x u) _ (each (λ u. implies (C.bars x u) (not (may G u y))) first u) barred))
            (λ optional. later u (implied (C.bars x u) _ (each (λ u. implies (C.bars x u) (C.bars s u)) (implied (is_optional G y) _ last optional) u) barred)),
        apart-form s y k more later rest,
      )

  pub apart-start : (start : List S) → starts G C start ≡ true → IsApart start
  apart-start [] e = tt
  apart-start (x ∷ y) e =
      let first = and-left (all_of (λ u. implies (C.bars x u) (not (may G u y))) C.kinds) _ e in
      (λ u barred. not-true (may G u y) (implied (C.bars x u) _ (each (λ u. implies (C.bars x u) (not (may G u y))) first u) barred), apart-start y (and-right (all_of (λ u. implies (C.bars x u) (not (may G u y))) C.kinds) _ e))

  pub leaves-free : (m : M) (s : S) (as' : List A) → leaves_in G m s ≡ Some as' → G.leaves s ≡ Some as'
  leaves-free m s as' e = leaves-at G s (G.stays m s) as' e
