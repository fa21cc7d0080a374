-- Taking the turn keeps the rule.
use Rattle.std.proofs.Common.{◌≡◌, ℕ, List, [], ◌∷◌, true, refl, sym, ◌∙◌, subst, arith, lit≤, set, slice_index, eqb, ne_eqb}
use Rattle.std.specs.Prelude.{Option, Some, None}
use mathlib.Core.Logic.{dite}
use native.Mathlib.Decide.{ℕ_discrete}
use mathlib.Core.Option.{some, none}
use prog.Atomic.{either}
use lib.ListN.{get_elem?}
use Rattle.atomic_table.specs.Table.{State, Act, keeps, takes, Allows, step, stepped}
use Rattle.atomic_table.proofs.Lists.{set_again}
use Rattle.mars_turn.specs.declared.pass_view.PassView.{PassView}
use Rattle.mars_turn.specs.Steps.{inside_view, Enters, took}
use Rattle.mars_turn.specs.Rule.{SixParts, inside_in, times_in, passes_in, counts_in}
use Rattle.mars_turn.proofs.Flat.{Flat, IsTop, Fits, allows}
use Rattle.mars_turn.proofs.Lists.{total_set, total_same, each_set, some_set}
use Rattle.mars_turn.proofs.Counted.{inside_in-outside, inside_in-inside}

module _ {A X : Type 0} (list : A → List X) (fixed : A → ℕ) (by : X → ℕ) (f : ℕ) where
  entered_fits : (made : ℕ) (log l : List X) (v : PassView X) → l ≡ log → Fits by f made log v → Fits by f made log (inside_view v l)
  entered_fits made log l v same fits = record {
    fixed_is = fits.fixed_is;
    seen_first = fits.seen_first;
    shorter_first = fits.shorter_first;
    mine_all = fits.mine_all;
    mine_seen = fits.mine_seen;
    ended_all = fits.ended_all;
    made_is = fits.made_is;
    entered_is = λ m e. cc;
  }

  module _ (s : State (Option A) (PassView X)) (k : Flat list fixed by f s) (id : ℕ) (v : PassView X) (at : get_elem? s.views id ≡ some v) (live : v.live ≡ true) (out : v.entered ≡ None) where
    after_take : (y : A) → k.held ≡ 0 → s.homes ≡ some (Some y) ∷ [] → list y ≡ k.log
        → Flat list fixed by f record { words = 1 ∷ []; homes = none ∷ []; views = set s.views id (inside_view v (list y)) }
    after_take y free home same = let w : PassView X = inside_view v (list y) in record {
      log = k.log;
      made = k.made;
      held = 1;
      words = refl;
      inside = omega (arith, total_set inside_in s.views id v w at, inside_in-outside v live out, inside_in-inside w live (list y) refl, k.inside, free);
      one = lit≤ tt;
      free = λ h. absurd (omega arith);
      out = λ _. refl;
      each = each_set (λ (u : PassView X). u.live ≡ true → Fits by f k.made k.log u) s.views id w (λ _. entered_fits k.made k.log (list y) v same (k.each id v at live)) (λ j u n e. k.each j u e);
      top = some_set (IsTop k.log) s.views id v w at (λ h. h) k.top;
      fresh = k.fresh;
      owned = λ n. total_same (times_in n) s.views id v w at refl ∙ k.owned n;
      sized = total_same passes_in s.views id v w at refl ∙ k.sized;
      maker = total_same counts_in s.views id v w at refl ∙ k.maker;
      few = k.few;
    }

    enters : (y : A) → fixed y ≡ f → list y ≡ k.log → Enters list fixed by v y (inside_view v (list y))
    enters y fx same = let fits = k.each id v at live in record {
      view = refl;
      same_fixed = fx ∙ sym fits.fixed_is;
      seen_first = rw same fits.seen_first;
      own = rw same fits.mine_all;
    }

    unchanged : Flat list fixed by f record { words = k.held ∷ []; homes = s.homes; views = set s.views id v }
    unchanged =
        let P : List ℕ → Type 0 = λ ws. Flat list fixed by f record { words = ws; homes = s.homes; views = s.views } in
        let Q : List (PassView X) → Type 0 = λ vs. Flat list fixed by f record { words = k.held ∷ []; homes = s.homes; views = vs } in
        subst Q (sym (set_again s.views id v at)) (subst P k.words k)

    take_step : (w : PassView X) × (a : Act (Option A)) × Rattle.atomic_table.specs.Table.Valid s.homes [] a
        × Flat list fixed by f (stepped s 0 (either (eqb (slice_index s.words 0) 0) 1 (slice_index s.words 0)) id [] w a)
        × took list fixed by (step 1 0 0 1 none) (v, []) (slice_index s.words 0) (w, Rattle.atomic_table.specs.Table.carried_after [] a)
    take_step = dite (ℕ_discrete k.held 0)
        (λ free.
        let (y, home, same, fx) = k.free free in (
          inside_view v (list y),
          takes 0 (Some y),
          rw home refl,
          rw (k.words, free, home) (after_take y free home same),
          (
            (λ _. (y, refl, enters y fx same)),
            (λ no. absurd (no (rw (k.words, free) refl))),
          ),
        ))
        (λ taken. (
          v,
          keeps,
          tt,
          rw (k.words, ne_eqb k.held 0 taken) unchanged,
          ((λ is. absurd (taken (rw k.words at is))), (λ _. refl)),
        ))

  take_flat : (id : ℕ) (v : PassView X) → v.live ≡ true → v.entered ≡ None
      → Allows (Flat list fixed by f) 1 id (v, []) 0 (λ n. either (eqb n 0) 1 n) (took list fixed by (step 1 0 0 1 none) (v, []))
  take_flat id v live out s k len at small = take_step s k id v at live out

  pub take : (id : ℕ) (v : PassView X) → v.live ≡ true → v.entered ≡ None
      → Allows (SixParts list fixed by f) 1 id (v, []) 0 (λ n. either (eqb n 0) 1 n) (took list fixed by (step 1 0 0 1 none) (v, []))
  take id v live out = allows list fixed by f 1 id (v, []) 0 (λ n. either (eqb n 0) 1 n) (took list fixed by (step 1 0 0 1 none) (v, [])) (take_flat id v live out)
