-- Lists of words, seen from the code.
use Rattle.std.proofs.Common.{◌≡◌, ◌≢◌, ℕ, List, [], ◌∷◌, ◌++◌, length, map, slice_index_or, Bool, true, false, Option, Some, None, nat_eq, if◌then◌else◌, codes, refl, sym, ap, ◌∙◌, String, string_bytes, arith}
use Rattle.std.specs.Cmp.Lexicographic.{pointwise}
use Rattle.mars_script.specs.Words.{texts_of}
use Rattle.mars_script.specs.WordsInside.{two_words, start_words, made_words, mode_words, words_in}

-- other than two words are no start and size
pub not_two : (words : List (List ℕ)) → (length words ≡ 2 → ⊥) → two_words words ≡ None
not_two [] h = refl
not_two (a ∷ []) h = refl
not_two (a ∷ b ∷ []) h = absurd (h refl)
not_two (a ∷ b ∷ c ∷ words) h = refl

-- a list whose first word isn't `make`
pub mode_list : (texts rest : List (List ℕ)) (first : List ℕ) → texts ≡ first ∷ rest → pointwise nat_eq first (codes "make") ≡ false →
    mode_words first rest ≡ words_in texts
mode_list texts rest first e unmade = sym (ap words_in e ∙ ap (λ (b : Bool). if b then made_words rest else mode_words first rest) unmade)
