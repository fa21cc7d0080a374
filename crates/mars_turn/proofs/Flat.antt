-- The rule with its parts side by side, as the proofs of the steps use it.
use Rattle.std.proofs.Common.{◌≡◌, ℕ, ◌≤◌, ◌^◌, List, [], ◌∷◌, true, arith}
use Rattle.std.specs.Prelude.{Option, Some}
use mathlib.Core.Option.{some, none}
use mathlib.Core.List.{IsPrefix}
use lib.ListN.{get_elem?}
use Rattle.atomic_table.specs.Table.{State, Me, Allows, Splits, Joins}
use Rattle.mars_turn.specs.declared.pass_view.PassView.{PassView}
use Rattle.mars_turn.specs.Items.{made_by, AllMade, total, once_below}
use Rattle.mars_turn.specs.Views.{KnowsItems}
use Rattle.mars_turn.specs.Rule.{SixParts, EachPass, inside_in, times_in, passes_in, counts_in}
use Rattle.mars_turn.proofs.Lists.{made_by-none}

-- what one view says is so
pub record Fits {X : Type 0} (by : X → ℕ) (f made : ℕ) (log : List X) (v : PassView X) : Type 0 where
  pub fixed_is : v.fixed ≡ f
  pub seen_first : IsPrefix v.seen log
  pub shorter_first : IsPrefix v.shorter log
  pub mine_all : made_by by v.number log ≡ v.mine
  pub mine_seen : made_by by v.number v.seen ≡ v.mine
  pub ended_all : AllMade by log v.ended
  pub made_is : (m : ℕ) → v.made ≡ Some m → m ≡ made
  pub entered_is : (l : List X) → v.entered ≡ Some l → l ≡ log

-- the pass has seen all of it
abbrev pub IsTop : {X : Type 0} → List X → PassView X → Type 0
IsTop log v = (v.live ≡ true) × (v.seen ≡ log)

pub record Flat {A X : Type 0} (list : A → List X) (fixed : A → ℕ) (by : X → ℕ) (f : ℕ) (s : State (Option A) (PassView X)) : Type 0 where
  pub log : List X
  pub made : ℕ
  pub held : ℕ
  pub words : s.words ≡ held ∷ []
  pub inside : total inside_in s.views ≡ held
  pub one : held ≤ 1
  pub free : held ≡ 0 → (y : A) × (s.homes ≡ some (Some y) ∷ []) × (list y ≡ log) × (fixed y ≡ f)
  pub out : held ≡ 1 → s.homes ≡ none ∷ []
  pub each : EachPass (Fits by f made log) s.views
  pub top : (i : ℕ) × (v : PassView X) × (get_elem? s.views i ≡ some v) × IsTop log v
  pub fresh : (k : ℕ) → made ≤ k → made_by by k log ≡ []
  pub owned : (k : ℕ) → total (times_in k) s.views ≡ once_below k made
  pub sized : total passes_in s.views ≡ made
  pub maker : total counts_in s.views ≡ 1
  pub few : made ≤ 2 ^ 32

module _ {A X : Type 0} (list : A → List X) (fixed : A → ℕ) (by : X → ℕ) (f : ℕ) where
  pub flat : (s : State (Option A) (PassView X)) → SixParts list fixed by f s → Flat list fixed by f s
  flat s k = record {
    log = k.log;
    made = k.made;
    held = k.held;
    words = k.one_inside.word;
    inside = k.one_inside.inside;
    one = k.one_inside.one;
    free = k.value_kept.home;
    out = k.value_kept.out;
    each = λ i v at live. record {
      fixed_is = k.value_kept.same_fixed i v at live;
      seen_first = k.seen_in_order.seen i v at live;
      shorter_first = k.seen_in_order.shorter i v at live;
      mine_all = k.own_items.in_longest i v at live;
      mine_seen = k.own_items.in_own i v at live;
      ended_all = k.ended_items i v at live;
      made_is = k.numbered.count i v at live;
      entered_is = k.value_kept.found i v at live;
    };
    top = k.seen_in_order.longest;
    fresh = k.numbered.none_past;
    owned = k.numbered.numbers;
    sized = k.numbered.passes;
    maker = k.numbered.one_counts;
    few = k.numbered.few;
  }

  pub parted : (s : State (Option A) (PassView X)) → Flat list fixed by f s → SixParts list fixed by f s
  parted s k = record {
    log = k.log;
    made = k.made;
    held = k.held;
    one_inside = record { word = k.words; inside = k.inside; one = k.one };
    seen_in_order = record {
      seen = λ i v at live. (k.each i v at live).seen_first;
      shorter = λ i v at live. (k.each i v at live).shorter_first;
      longest = k.top;
    };
    own_items = record { in_longest = λ i v at live. (k.each i v at live).mine_all; in_own = λ i v at live. (k.each i v at live).mine_seen };
    ended_items = λ i v at live. (k.each i v at live).ended_all;
    numbered = record {
      one_counts = k.maker;
      count = λ i v at live. (k.each i v at live).made_is;
      passes = k.sized;
      numbers = k.owned;
      none_past = k.fresh;
      few = k.few;
    };
    value_kept = record {
      home = k.free;
      out = k.out;
      found = λ i v at live. (k.each i v at live).entered_is;
      same_fixed = λ i v at live. (k.each i v at live).fixed_is;
    };
  }

  -- each pass knows its items
  pub knows : (s : State (Option A) (PassView X)) → Flat list fixed by f s → (id : ℕ) (v : PassView X) → get_elem? s.views id ≡ some v → v.live ≡ true → KnowsItems by v
  knows s k id v at live =
      let fits = k.each id v at live in record {
        own = fits.mine_seen;
        none_past = λ n j is high. made_by-none by j v.seen k.log fits.seen_first (k.fresh j (omega (arith, fits.made_is n is, high)));
      }

  -- what may be done under the one form may be done under the other
  pub allows : (slots id : ℕ) (me : Me (Option A) (PassView X)) (i : ℕ) (h : ℕ → ℕ) (then : ℕ → Me (Option A) (PassView X) → Type 0)
      → Allows (Flat list fixed by f) slots id me i h then → Allows (SixParts list fixed by f) slots id me i h then
  allows slots id me i h then may s k len at small =
      let (w, a, valid, kept, told) = may s (flat s k) len at small in (w, a, valid, parted _ kept, told)

  pub splits : (id : ℕ) (v left right : PassView X) → Splits {S = Option A} (Flat list fixed by f) id v left right → Splits {S = Option A} (SixParts list fixed by f) id v left right
  splits id v left right may s k at = parted _ (may s (flat s k) at)

  pub joins : (id : ℕ) (v : PassView X) (other : ℕ) (w both spent : PassView X)
      → Joins {S = Option A} (Flat list fixed by f) id v other w both spent → Joins {S = Option A} (SixParts list fixed by f) id v other w both spent
  joins id v other w both spent may s k at apart there = parted _ (may s (flat s k) at apart there)
