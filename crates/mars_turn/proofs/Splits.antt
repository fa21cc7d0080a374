-- Making a pass keeps the rule.
use Rattle.atomic_table.proofs.Lists.{at_longer}
use Rattle.std.proofs.Common.{◌≡◌, ℕ, ◌+◌, ◌^◌, ◌<◌, List, [], true, refl, sym, ap, ◌∙◌, arith, set, ◌∷◌}
use Rattle.std.proofs.lemmas.List.Elements.{All-nil}
use Rattle.std.specs.Prelude.{Option, Some, ◌==◌}
use Rattle.atomic_table.specs.Table.{Splits}
use Rattle.mars_turn.specs.declared.pass_view.PassView.{PassView}
use Rattle.mars_turn.specs.Items.{made_by, one_if}
use Rattle.mars_turn.specs.Steps.{after_split, split_off, one_pass_more}
use Rattle.mars_turn.specs.Views.{passes_known}
use Rattle.mars_turn.specs.Rule.{SixParts, inside_in, times_in, passes_in, counts_in}
use Rattle.mars_turn.proofs.Flat.{Flat, Fits, IsTop, splits}
use Rattle.mars_turn.proofs.Lists.{total_set, total_snoc, total_two, each_set, each_snoc, IsPrefix-nil, made_by-none, once_more, some_set}
use Rattle.mars_turn.proofs.Counted.{counts_in-some}

module _ {A X : Type 0} (list : A → List X) (fixed : A → ℕ) (by : X → ℕ) (f : ℕ) where
  left_fits : (made m : ℕ) (log : List X) (v : PassView X) → v.made ≡ Some m → Fits by f made log v → Fits by f (made + 1) log (after_split v)
  left_fits made m log v is fits = record {
    fixed_is = fits.fixed_is;
    seen_first = fits.seen_first;
    shorter_first = fits.shorter_first;
    mine_all = fits.mine_all;
    mine_seen = fits.mine_seen;
    ended_all = fits.ended_all;
    made_is = λ n e.
        let next : Some (m + 1) ≡ Some n = ap one_pass_more (sym is) ∙ e in
        let same : n ≡ m + 1 = cc in
        omega (arith, same, fits.made_is m is);
    entered_is = fits.entered_is;
  }

  right_fits : (made m : ℕ) (log : List X) (v : PassView X) → v.made ≡ Some m → made_by by made log ≡ [] → Fits by f made log v → Fits by f (made + 1) log (split_off v)
  right_fits made m log v is fresh fits =
      let number : passes_known v.made ≡ made = ap passes_known is ∙ fits.made_is m is in record {
        fixed_is = fits.fixed_is;
        seen_first = fits.seen_first;
        shorter_first = IsPrefix-nil log;
        mine_all = rw number fresh;
        mine_seen = rw number (made_by-none by made v.seen log fits.seen_first fresh);
        ended_all = All-nil (λ (e : ℕ × List X). made_by by e.0 log ≡ e.1);
        made_is = λ n e. absurd cc;
        entered_is = λ n e. absurd cc;
      }

  other_fits : (made : ℕ) (log : List X) (u : PassView X) → ((m : ℕ) → u.made ≡ Some m → ⊥) → Fits by f made log u → Fits by f (made + 1) log u
  other_fits made log u unknown fits = record {
    fixed_is = fits.fixed_is;
    seen_first = fits.seen_first;
    shorter_first = fits.shorter_first;
    mine_all = fits.mine_all;
    mine_seen = fits.mine_seen;
    ended_all = fits.ended_all;
    made_is = λ n e. absurd (unknown n e);
    entered_is = fits.entered_is;
  }

  split_flat : (id : ℕ) (v : PassView X) (m : ℕ) → v.live ≡ true → v.made ≡ Some m → m < 2 ^ 32 → Splits {S = Option A} (Flat list fixed by f) id v (after_split v) (split_off v)
  split_flat id v m live is room s k at =
      let w : PassView X = after_split v in
      let u : PassView X = split_off v in
      let vs : List (PassView X) = set s.views id w in
      let fits : Fits by f k.made k.log v = k.each id v at live in
      let made : m ≡ k.made = fits.made_is m is in
      let number : passes_known v.made ≡ k.made = ap passes_known is ∙ made in
      let F : PassView X → Type 0 = λ x. x.live ≡ true → Fits by f (k.made + 1) k.log x in record {
        log = k.log;
        made = k.made + 1;
        held = k.held;
        words = k.words;
        inside = (let a : inside_in w ≡ inside_in v = refl in let b : inside_in u ≡ 0 = refl in omega (arith, total_snoc inside_in vs u, total_set inside_in s.views id v w at, k.inside, a, b));
        one = k.one;
        free = k.free;
        out = k.out;
        each = each_snoc F vs u (λ _. right_fits k.made m k.log v is (k.fresh k.made (omega arith)) fits)
            (each_set F s.views id w (λ _. left_fits k.made m k.log v is fits)
            (λ j x n e lives. other_fits k.made k.log x
            (λ p known. absurd (omega (arith, total_two counts_in s.views id j v x at e n, counts_in-some v live m is, counts_in-some x lives p known, k.maker)))
            (k.each j x e lives)));
        top = (let (j, x, there, has) = some_set (IsTop k.log) s.views id v w at (λ h. h) k.top in (j, x, at_longer vs (u ∷ []) j x there, has));
        fresh = λ n high. k.fresh n (omega (arith, high));
        owned = λ n. (
            let a : times_in n w ≡ times_in n v = refl in
            let b : times_in n u ≡ one_if (k.made == n) + 0 = ap (λ (x : ℕ). one_if (x == n) + 0) number in
            omega (arith, total_snoc (times_in n) vs u, total_set (times_in n) s.views id v w at, k.owned n, a, b, once_more k.made n));
        sized = (let a : passes_in w ≡ passes_in v = refl in let b : passes_in u ≡ 1 = refl in omega (arith, total_snoc passes_in vs u, total_set passes_in s.views id v w at, k.sized, a, b));
        maker = (
            let a : counts_in w ≡ 1 = counts_in-some w live (m + 1) (ap one_pass_more is) in
            let b : counts_in u ≡ 0 = refl in
            omega (arith, total_snoc counts_in vs u, total_set counts_in s.views id v w at, k.maker, counts_in-some v live m is, a, b));
        few = omega (arith, made, room);
      }

  pub split : (id : ℕ) (v : PassView X) (m : ℕ) → v.live ≡ true → v.made ≡ Some m → m < 2 ^ 32 → Splits {S = Option A} (SixParts list fixed by f) id v (after_split v) (split_off v)
  split id v m live is room = splits list fixed by f id v (after_split v) (split_off v) (split_flat id v m live is room)
