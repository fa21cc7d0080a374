-- What passes know of their items, and of how many there are, after a split and inside.
use Rattle.std.proofs.Common.{◌≡◌, ℕ, ◌+◌, List, refl, sym, ap, ◌∙◌, arith}
use Rattle.std.specs.Prelude.{Some}
use Rattle.mars_turn.specs.declared.pass_view.PassView.{PassView}
use Rattle.mars_turn.specs.Views.{KnowsItems, CountsPasses, passes_known}
use Rattle.mars_turn.specs.Steps.{after_split, split_off, inside_view, one_pass_more}

module _ {X : Type 0} (by : X → ℕ) (v : PassView X) (knows : KnowsItems by v) (counts : CountsPasses v) where
  pub inside_knows : (l : List X) → KnowsItems by (inside_view v l)
  inside_knows l = record { own = knows.own; none_past = knows.none_past }

  pub inside_counts : (l : List X) → CountsPasses (inside_view v l)
  inside_counts l = record { opening = counts.opening; counted = counts.counted }

  module _ (m : ℕ) (known : v.made ≡ Some m) where
    pub after_split_knows : KnowsItems by (after_split v)
    after_split_knows = record {
      own = knows.own;
      none_past = λ n k is high.
          let next : Some (m + 1) ≡ Some n = sym (ap one_pass_more known) ∙ is in
          let same : n ≡ m + 1 = cc in
          knows.none_past m k known (omega (arith, same, high));
    }

    pub after_split_counts : CountsPasses (after_split v)
    after_split_counts = record {
      opening = λ first. rw known refl;
      counted = λ n is.
          let next : Some (m + 1) ≡ Some n = sym (ap one_pass_more known) ∙ is in
          let same : n ≡ m + 1 = cc in
          omega (arith, same);
    }

    pub split_off_knows : KnowsItems by (split_off v)
    split_off_knows = record {
      own = rw known (knows.none_past m m known (omega arith));
      none_past = λ n k is high. absurd cc;
    }

    pub split_off_counts : CountsPasses (split_off v)
    split_off_counts = record {
      opening = λ first.
          let zero : m ≡ 0 = sym (ap passes_known known) ∙ first in
          absurd (omega (arith, zero, counts.counted m known));
      counted = λ n is. absurd cc;
    }
