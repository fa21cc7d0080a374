-- What a view counts for.
use Rattle.std.proofs.Common.{◌≡◌, ◌≢◌, ℕ, ◌+◌, ◌<◌, List, length, map, true, refl, ap, ◌∙◌, arith, eq-eqb}
use Rattle.std.specs.Prelude.{Some, None, ◌==◌}
use mathlib.Core.Option.{some}
use lib.ListN.{get_elem?}
use Rattle.mars_turn.specs.declared.pass_view.PassView.{PassView}
use Rattle.mars_turn.specs.Items.{total, times, one_if, once_below}
use Rattle.mars_turn.specs.Views.{number_of_ended}
use Rattle.mars_turn.specs.Rule.{inside_in, times_in, passes_in, counts_in}
use Rattle.mars_turn.proofs.Lists.{total_at, total_two, once_low, once_most}

module _ {X : Type 0} (v : PassView X) (live : v.live ≡ true) where
  pub inside_in-outside : v.entered ≡ None → inside_in v ≡ 0
  inside_in-outside out = rw (live, out) refl

  pub inside_in-inside : (l : List X) → v.entered ≡ Some l → inside_in v ≡ 1
  inside_in-inside l inside = rw (live, inside) refl

  pub times_in-live : (k : ℕ) → times_in k v ≡ one_if (v.number == k) + times k (map number_of_ended v.ended)
  times_in-live k = rw live refl

  pub times_in-own : times_in v.number v ≡ 1 + times v.number (map number_of_ended v.ended)
  times_in-own = times_in-live v.number ∙ ap (λ (n : ℕ). n + times v.number (map number_of_ended v.ended)) (ap one_if (eq-eqb v.number v.number refl))

-- the number that a live view has is of no other, and is below the number of passes
module _ {X : Type 0} (views : List (PassView X)) (made : ℕ) (owned : (k : ℕ) → total (times_in k) views ≡ once_below k made) (i : ℕ) (v : PassView X) (at : get_elem? views i ≡ some v) (live : v.live ≡ true) where
  pub below : v.number < made
  below = once_low v.number made (omega (arith, owned v.number, total_at (times_in v.number) views i v at, times_in-own v live))

  pub none_ended : times v.number (map number_of_ended v.ended) ≡ 0
  none_ended = omega (arith, owned v.number, once_most v.number made, total_at (times_in v.number) views i v at, times_in-own v live)

  module _ (j : ℕ) (u : PassView X) (other : j ≢ i) (there : get_elem? views j ≡ some u) (lives : u.live ≡ true) where
    owns_none : times_in v.number u ≡ 0
    owns_none = omega (arith, owned v.number, once_most v.number made, total_two (times_in v.number) views i j v u at there other, times_in-own v live)

    pub number_else : u.number ≢ v.number
    number_else same =
        let one : one_if (u.number == v.number) ≡ 1 = ap one_if (eq-eqb u.number v.number same) in
        absurd (omega (arith, one, owns_none, times_in-live u lives v.number))

    pub ended_else : times v.number (map number_of_ended u.ended) ≡ 0
    ended_else = omega (arith, owns_none, times_in-live u lives v.number)

module _ {X : Type 0} (v : PassView X) (live : v.live ≡ true) where
  pub counts_in-some : (m : ℕ) → v.made ≡ Some m → counts_in v ≡ 1
  counts_in-some m is = rw (live, is) refl

  pub passes_in-live : passes_in v ≡ 1 + length v.ended
  passes_in-live = rw live refl
