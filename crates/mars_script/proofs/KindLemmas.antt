-- Beginnings of texts, and texts that are none of some.
use Rattle.std.proofs.Common.{◌≡◌, ℕ, List, [], ◌∷◌, ◌++◌, drop, Bool, true, false, Option, Some, None, MatchOption, ◌↔◌, IsTrue, nat_eq, if◌then◌else◌, cond, codes, refl, sym, ap, ◌∙◌, Bor, rules}
use Rattle.std.specs.Option.{option_map}
use Rattle.std.specs.Cmp.{unsigned_Decides}
use Rattle.std.specs.Cmp.Lexicographic.{pointwise, bytes_decides}
use Rattle.std.specs.Str.Pattern.{FindsTextPrefix, StripsPrefix}
use Rattle.mars_script.specs.declared.kinds.Kind.{Kind}
use Rattle.mars_script.specs.KindsInside.{after, kind_of, kind_of_value}

-- what comes after a beginning is what follows it
pub after-append : (bytes text : List ℕ) → after bytes (bytes ++ text) ≡ Some text
after-append [] text = refl
after-append (byte ∷ bytes) text = rw ((unsigned_Decides byte byte).1 refl) (after-append bytes text)

later : (b : Bool) (byte other : ℕ) (bytes text : List ℕ) → nat_eq byte other ≡ b → ((rest : List ℕ) → other ∷ text ≡ byte ∷ (bytes ++ rest) → ⊥) →
    (((rest : List ℕ) → text ≡ bytes ++ rest → ⊥) → after bytes text ≡ None) → (if b then after bytes text else None) ≡ None
later false byte other bytes text e h f = refl
later true byte other bytes text e h f = f (λ rest g. h rest (λ i. sym ((unsigned_Decides byte other).0 e) i ∷ g i))

-- nothing comes after a beginning that a text hasn't
pub after-none : (bytes text : List ℕ) → ((rest : List ℕ) → text ≡ bytes ++ rest → ⊥) → after bytes text ≡ None
after-none [] text h = absurd (h text refl)
after-none (byte ∷ bytes) [] h = refl
after-none (byte ∷ bytes) (other ∷ text) h = later (nat_eq byte other) byte other bytes text refl h (after-none bytes text)

-- a beginning that was taken off
pub after_strip : (bytes text : List ℕ) (r : Option (Bor (List ℕ))) →
    MatchOption r (FindsTextPrefix bytes text None) (λ x. StripsPrefix (FindsTextPrefix bytes) text x.now) → option_map (λ value. value.now) r ≡ after bytes text
after_strip bytes text None h = sym (after-none bytes text h)
after_strip bytes text (Some x) h =
    let split : text ≡ bytes ++ x.now = h.1.1 ∙ ap (λ (t : List ℕ). bytes ++ t) (sym h.2) in
    sym (ap (after bytes) split ∙ after-append bytes x.now)

-- a word that isn't another one
pub unequal : (r : Bool) (word other : List ℕ) → (IsTrue r ↔ (word ≡ other)) → r ≡ false → pointwise nat_eq word other ≡ false
unequal r word other h e = of (pointwise nat_eq word other) refl
  where
    of : (b : Bool) → pointwise nat_eq word other ≡ b → b ≡ false
    of false _ = refl
    of true t = sym (h.1 ((bytes_decides word other).0 t)) ∙ e

-- a word that is another one
pub equal : (word other : List ℕ) → word ≡ other → pointwise nat_eq word other ≡ true
equal word other = (bytes_decides word other).1

-- a word that is none of the options alone
pub kind_last : (word : List ℕ) → pointwise nat_eq word (codes "--steps") ≡ false → pointwise nat_eq word (codes "--rows") ≡ false →
    pointwise nat_eq word (codes "--log") ≡ false → pointwise nat_eq word (codes "--") ≡ false → kind_of_value word ≡ kind_of word
kind_last word a b c d = rw (a, b, c, d) refl
