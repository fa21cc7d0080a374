-- The passes that jobs are given, and what jobs and passes are after the last events.
use Rattle.std.proofs.Common.{◌≡◌, ℕ, zero, suc, ◌+◌, List, [], ◌∷◌, ◌++◌, length, map, Some, slice_get, refl, sym, ap, ◌∙◌, subst}
use Rattle.std.specs.Option.{option_map}
use Rattle.std.proofs.lemmas.Option.{slice_get-map}
use Rattle.mars_base.proofs.ListFacts.{get-append, get-last}
use Rattle.mars_book.specs.declared.book.Book.{Book}
use Rattle.mars_book.specs.Books.{IsPassOf}
use Rattle.mars_book.specs.PassSeen.{PassSeen, knowing}
use Rattle.mars_gate.specs.PassesInside.{pass_at, IsHired}

-- an entry of a list is one of what it is mapped to
pub map_at : {A B : Type 0} (f : A → B) (xs : List A) (ys : List B) (k : ℕ) (x : A) → map f xs ≡ ys → slice_get xs k ≡ Some x → slice_get ys k ≡ Some (f x)
map_at f xs ys k x is at = ap (λ l. slice_get l k) (sym is) ∙ slice_get-map f xs k ∙ ap (option_map f) at

-- and the other way
pub at_map : {A B : Type 0} (f : A → B) (xs : List A) (k : ℕ) (y : B) → slice_get (map f xs) k ≡ Some y → (x : A) × (slice_get xs k ≡ Some x) × (f x ≡ y)
at_map f [] k y at = absurd (cc at)
at_map f (x ∷ xs) zero y at = (x, refl, cc at)
at_map f (x ∷ xs) (suc k) y at = at_map f xs k y at

module _ (book : Book) (opening : PassSeen) (of : IsPassOf book opening) where
  is_hired : (count k : ℕ) (p : PassSeen) → p ≡ knowing opening (pass_at book.cap count k) → IsHired book count k p × (p.view.mine ≡ [])
  is_hired count k p is = subst (λ (x : PassSeen). IsHired book count k x × (x.view.mine ≡ [])) (sym is)
      (record { of = record { turn = of.turn; limit = refl }; number = refl; ended = refl; made = refl }, refl)

  module _ (passes rest : List PassSeen) (program : PassSeen) (m n : ℕ) (each : (k : ℕ) (p : PassSeen) → slice_get passes k ≡ Some p → p ≡ knowing opening (pass_at book.cap (m + 1) k))
      (parts : passes ≡ rest ++ program ∷ []) (same : m ≡ n) (len : length rest ≡ n) where
    of_place : (k : ℕ) (p : PassSeen) → slice_get passes k ≡ Some p → IsHired book (n + 1) k p × (p.view.mine ≡ [])
    of_place k p at = is_hired (n + 1) k p (each k p at ∙ ap (λ (x : ℕ). knowing opening (pass_at book.cap (x + 1) k)) same)

    pub hired_each : (k : ℕ) (p : PassSeen) → slice_get rest k ≡ Some p → IsHired book (n + 1) k p × (p.view.mine ≡ [])
    hired_each k p at = of_place k p (ap (λ (l : List PassSeen). slice_get l k) parts ∙ get-append rest (program ∷ []) k p at)

    pub hired_program : IsHired book (n + 1) n program × (program.view.mine ≡ [])
    hired_program = of_place n program (ap (λ (l : List PassSeen). slice_get l n) parts ∙ ap (slice_get (rest ++ program ∷ [])) (sym len) ∙ get-last rest program)
