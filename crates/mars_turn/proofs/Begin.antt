-- A turn begins with its rule kept.
use Rattle.std.proofs.Common.{◌≡◌, ℕ, zero, suc, ◌+◌, List, [], ◌∷◌, refl, sym, subst, arith, lit≤}
use Rattle.std.specs.Prelude.{Some, ◌==◌}
use mathlib.Core.Option.{some, some-injective, some-ne-none}
use lib.ListN.{get_elem?}
use Rattle.atomic_table.specs.Table.{opening}
use Rattle.std.proofs.lemmas.List.Elements.{All-nil}
use Rattle.mars_turn.specs.Items.{one_if, once_below, made_by}
use Rattle.mars_turn.specs.Steps.{opening_view}
use Rattle.mars_turn.specs.Rule.{SixParts}
use Rattle.mars_turn.proofs.Flat.{Flat, Fits, parted}
use Rattle.mars_turn.proofs.Lists.{once_more, once_none}

only : {A : Type 0} (w v : A) (i : ℕ) → get_elem? (w ∷ []) i ≡ some v → w ≡ v
only w v zero e = some-injective w v e
only w v (suc i) e = absurd (some-ne-none v (sym e))

module _ {A X : Type 0} (list : A → List X) (fixed : A → ℕ) (by : X → ℕ) where
  first_fits : (f : ℕ) → Fits by f 1 [] (opening_view f)
  first_fits f = record {
    fixed_is = refl;
    seen_first = ([], refl);
    shorter_first = ([], refl);
    mine_all = refl;
    mine_seen = refl;
    ended_all = All-nil (λ (e : ℕ × List X). made_by by e.0 [] ≡ e.1);
    made_is = λ m e. cc;
    entered_is = λ l e. absurd cc;
  }

  begins_flat : (y : A) → list y ≡ [] → Flat list fixed by (fixed y) (opening (0 ∷ []) (Some y ∷ []) (opening_view (fixed y)))
  begins_flat y none = record {
    log = [];
    made = 1;
    held = 0;
    words = refl;
    inside = refl;
    one = lit≤ tt;
    free = λ _. (y, refl, none, refl);
    out = λ h. absurd (omega arith);
    each = λ i v e _. subst (Fits by (fixed y) 1 []) (only (opening_view (fixed y)) v i e) (first_fits (fixed y));
    top = (0, opening_view (fixed y), refl, (refl, refl));
    fresh = λ k _. refl;
    owned = λ k. let all : (one_if (0 == k) + 0) + 0 ≡ once_below k 1 = omega (arith, once_more 0 k, once_none k) in all;
    sized = refl;
    maker = refl;
    few = lit≤ tt;
  }

  pub begins : (y : A) → list y ≡ [] → SixParts list fixed by (fixed y) (opening (0 ∷ []) (Some y ∷ []) (opening_view (fixed y)))
  begins y none = parted list fixed by (fixed y) _ (begins_flat y none)
