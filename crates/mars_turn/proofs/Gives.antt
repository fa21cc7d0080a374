-- Giving the turn back keeps the rule.
use Rattle.std.proofs.Common.{◌≡◌, ◌≢◌, ◌⊎◌, ℕ, ◌<◌, List, [], ◌∷◌, ◌++◌, true, refl, sym, ap, ◌∙◌, arith, lit≤, set, slice_index, inl, inr, map}
use Rattle.std.specs.Prelude.{Option, Some, None}
use mathlib.Core.Option.{some, none}
use lib.ListN.{get_elem?}
use Rattle.atomic_table.proofs.Lists.{set_here}
use Rattle.atomic_table.specs.Table.{State, Act, gives, Allows, step, stepped, Valid, carried_after}
use Rattle.mars_turn.specs.declared.pass_view.PassView.{PassView}
use Rattle.mars_turn.specs.Items.{times, made_by}
use Rattle.mars_turn.specs.Views.{KnowsItems, number_of_ended}
use Rattle.mars_turn.specs.Steps.{MayLeave, IsAsFound, HasOneMore, gave}
use Rattle.mars_turn.specs.Rule.{SixParts, inside_in, times_in, passes_in, counts_in}
use Rattle.mars_turn.proofs.Flat.{Flat, IsTop, Fits, knows, allows}
use Rattle.mars_turn.proofs.Lists.{total_set, total_same, total_at, total_two, each_set, some_set, at_within, IsPrefix-more, IsPrefix-refl, made_by-mine, made_by-other, AllMade-other}
use Rattle.mars_turn.proofs.Counted.{inside_in-outside, inside_in-inside, below, none_ended, number_else, ended_else}

module _ {A X : Type 0} (list : A → List X) (fixed : A → ℕ) (by : X → ℕ) (f : ℕ) where
  -- the view of a pass that leaves, with or without an item
  abbrev left_same : PassView X → PassView X
  left_same v = record v { entered = None }

  abbrev left_more : PassView X → List X → X → PassView X
  left_more v l x = record v { entered = None; mine = v.mine ++ x ∷ []; seen = l }

  same_fits : (made : ℕ) (log : List X) (v : PassView X) → Fits by f made log v → Fits by f made log (left_same v)
  same_fits made log v fits = record {
    fixed_is = fits.fixed_is;
    seen_first = fits.seen_first;
    shorter_first = fits.shorter_first;
    mine_all = fits.mine_all;
    mine_seen = fits.mine_seen;
    ended_all = fits.ended_all;
    made_is = fits.made_is;
    entered_is = λ m e. absurd cc;
  }

  -- its own item
  more_fits : (made : ℕ) (log l : List X) (x : X) (v : PassView X) → by x ≡ v.number → l ≡ log ++ x ∷ [] → times v.number (map number_of_ended v.ended) ≡ 0
      → Fits by f made log v → Fits by f made (log ++ x ∷ []) (left_more v l x)
  more_fits made log l x v mine longer absent fits = record {
    fixed_is = fits.fixed_is;
    seen_first = rw longer (IsPrefix-refl (log ++ x ∷ []));
    shorter_first = IsPrefix-more v.shorter log (x ∷ []) fits.shorter_first;
    mine_all = made_by-mine by v.number log x mine ∙ ap (λ (m : List X). m ++ x ∷ []) fits.mine_all;
    mine_seen = ap (made_by by v.number) longer ∙ made_by-mine by v.number log x mine ∙ ap (λ (m : List X). m ++ x ∷ []) fits.mine_all;
    ended_all = AllMade-other by v.ended log x (rw mine absent) fits.ended_all;
    made_is = fits.made_is;
    entered_is = λ m e. absurd cc;
  }

  -- another's item
  others_fit : (made : ℕ) (log : List X) (x : X) (u : PassView X) → by x ≢ u.number → times (by x) (map number_of_ended u.ended) ≡ 0
      → u.entered ≡ None → Fits by f made log u → Fits by f made (log ++ x ∷ []) u
  others_fit made log x u other absent out fits = record {
    fixed_is = fits.fixed_is;
    seen_first = IsPrefix-more u.seen log (x ∷ []) fits.seen_first;
    shorter_first = IsPrefix-more u.shorter log (x ∷ []) fits.shorter_first;
    mine_all = made_by-other by u.number log x other ∙ fits.mine_all;
    mine_seen = fits.mine_seen;
    ended_all = AllMade-other by u.ended log x absent fits.ended_all;
    made_is = fits.made_is;
    entered_is = λ m e. absurd cc;
  }

  module _ (s : State (Option A) (PassView X)) (k : Flat list fixed by f s) (id : ℕ) (v : PassView X) (at : get_elem? s.views id ≡ some v) (live : v.live ≡ true) (found : List X) (inside : v.entered ≡ Some found) where
    held_now : k.held ≡ 1
    held_now = omega (arith, total_at inside_in s.views id v at, inside_in-inside v live found inside, k.inside, k.one)

    found_is : found ≡ k.log
    found_is = (k.each id v at live).entered_is found inside

    found_again : (l : List X) → v.entered ≡ Some l → l ≡ found
    found_again l is = let both : Some l ≡ Some found = sym is ∙ inside in cc

    -- nobody else is inside
    out_else : (j : ℕ) (u : PassView X) → j ≢ id → get_elem? s.views j ≡ some u → u.live ≡ true → (o : Option (List X)) → u.entered ≡ o → o ≡ None
    out_else j u other there lives None e = refl
    out_else j u other there lives (Some l) e = absurd (omega (arith, total_two inside_in s.views id j v u at there other, inside_in-inside v live found inside, inside_in-inside u lives l e, k.inside, k.one))

    after_same : (y : A) → list y ≡ found → fixed y ≡ v.fixed → Flat list fixed by f record { words = 0 ∷ []; homes = some (Some y) ∷ []; views = set s.views id (left_same v) }
    after_same y same fx = let w : PassView X = left_same v in record {
      log = k.log;
      made = k.made;
      held = 0;
      words = refl;
      inside = omega (arith, total_set inside_in s.views id v w at, inside_in-inside v live found inside, inside_in-outside w live refl, k.inside, held_now);
      one = lit≤ tt;
      free = λ _. (y, refl, same ∙ found_is, fx ∙ (k.each id v at live).fixed_is);
      out = λ h. absurd (omega arith);
      each = each_set (λ (u : PassView X). u.live ≡ true → Fits by f k.made k.log u) s.views id w (λ _. same_fits k.made k.log v (k.each id v at live)) (λ j u n e. k.each j u e);
      top = some_set (IsTop k.log) s.views id v w at (λ h. h) k.top;
      fresh = k.fresh;
      owned = λ n. total_same (times_in n) s.views id v w at refl ∙ k.owned n;
      sized = total_same passes_in s.views id v w at refl ∙ k.sized;
      maker = total_same counts_in s.views id v w at refl ∙ k.maker;
      few = k.few;
    }

    after_more : (y : A) (x : X) → list y ≡ found ++ x ∷ [] → by x ≡ v.number → fixed y ≡ v.fixed
        → Flat list fixed by f record { words = 0 ∷ []; homes = some (Some y) ∷ []; views = set s.views id (left_more v (list y) x) }
    after_more y x longer mine fx =
        let w : PassView X = left_more v (list y) x in
        let all : list y ≡ k.log ++ x ∷ [] = longer ∙ ap (λ (l : List X). l ++ x ∷ []) found_is in
        let low : v.number < k.made = below s.views k.made k.owned id v at live in record {
          log = k.log ++ x ∷ [];
          made = k.made;
          held = 0;
          words = refl;
          inside = omega (arith, total_set inside_in s.views id v w at, inside_in-inside v live found inside, inside_in-outside w live refl, k.inside, held_now);
          one = lit≤ tt;
          free = λ _. (y, refl, all, fx ∙ (k.each id v at live).fixed_is);
          out = λ h. absurd (omega arith);
          each = each_set (λ (u : PassView X). u.live ≡ true → Fits by f k.made (k.log ++ x ∷ []) u) s.views id w
              (λ _. more_fits k.made k.log (list y) x v mine all (none_ended s.views k.made k.owned id v at live) (k.each id v at live))
              (λ j u n e lives. others_fit k.made k.log x u
              (λ same. number_else s.views k.made k.owned id v at live j u n e lives (sym same ∙ mine))
              (rw mine (ended_else s.views k.made k.owned id v at live j u n e lives))
              (out_else j u n e lives u.entered refl)
              (k.each j u e lives));
          top = (id, w, set_here s.views id w (at_within s.views id v at), (live, all));
          fresh = λ n high. made_by-other by n k.log x (λ same. absurd (omega (arith, same, mine, low, high))) ∙ k.fresh n high;
          owned = λ n. total_same (times_in n) s.views id v w at refl ∙ k.owned n;
          sized = total_same passes_in s.views id v w at refl ∙ k.sized;
          maker = total_same counts_in s.views id v w at refl ∙ k.maker;
          few = k.few;
        }

    -- at the pass's place it finds what it knows
    leaves_knowing : (w : PassView X) → w.live ≡ true → (s' : State (Option A) (PassView X)) → s'.views ≡ set s.views id w → Flat list fixed by f s' → KnowsItems by w
    leaves_knowing w lives s' is k' = knows list fixed by f s' k' id w (ap (λ (vs : List (PassView X)). get_elem? vs id) is ∙ set_here s.views id w (at_within s.views id v at)) lives

    give_step : (y : A) → IsAsFound v (list y) ⊎ ((x : X) × HasOneMore by v (list y) x) → fixed y ≡ v.fixed
        → (w : PassView X) × (a : Act (Option A)) × Valid s.homes ((0, Some y) ∷ []) a
        × Flat list fixed by f (stepped s 0 0 id ((0, Some y) ∷ []) w a)
        × gave list fixed by (step 1 0 0 0 none) (v, (0, Some y) ∷ []) (slice_index s.words 0) (w, carried_after ((0, Some y) ∷ []) a)
    give_step y (inl same) fx =
        let after = after_same y (found_again (list y) same) fx in (
          left_same v,
          gives,
          tt,
          rw (k.words, k.out held_now) after,
          (y, refl, inl (same, refl), refl, leaves_knowing (left_same v) live _ refl after),
        )
    give_step y (inr (x, more)) fx =
        let after = after_more y x (more.longer ∙ ap (λ (l : List X). l ++ x ∷ []) (found_again more.found more.entered)) more.mine fx in (
          left_more v (list y) x,
          gives,
          tt,
          rw (k.words, k.out held_now) after,
          (y, refl, inr (x, more, refl), refl, leaves_knowing (left_more v (list y) x) live _ refl after),
        )

  give_flat : (id : ℕ) (v : PassView X) (y : A) → v.live ≡ true → fixed y ≡ v.fixed → MayLeave by v (list y)
      → Allows (Flat list fixed by f) 1 id (v, (0, Some y) ∷ []) 0 (λ n. 0) (gave list fixed by (step 1 0 0 0 none) (v, (0, Some y) ∷ []))
  give_flat id v y live fx (inl same) s k len at small = give_step s k id v at live (list y) same y (inl same) fx
  give_flat id v y live fx (inr (x, more)) s k len at small = give_step s k id v at live more.found more.entered y (inr (x, more)) fx

  pub give : (id : ℕ) (v : PassView X) (y : A) → v.live ≡ true → fixed y ≡ v.fixed → MayLeave by v (list y)
      → Allows (SixParts list fixed by f) 1 id (v, (0, Some y) ∷ []) 0 (λ n. 0) (gave list fixed by (step 1 0 0 0 none) (v, (0, Some y) ∷ []))
  give id v y live fx may = allows list fixed by f 1 id (v, (0, Some y) ∷ []) 0 (λ n. 0) (gave list fixed by (step 1 0 0 0 none) (v, (0, Some y) ∷ [])) (give_flat id v y live fx may)
