-- What is left once all passes have been joined_view into one.
use Rattle.std.proofs.Common.{◌≡◌, ℕ, zero, suc, ◌+◌, ◌<◌, ◌≤◌, List, [], ◌∷◌, Bool, true, false, sym, ap, ◌∙◌, arith, map, length, lt-ltb}
use Rattle.std.specs.Prelude.{Option, Some, ◌==◌, is_some, if◌then◌else◌}
use mathlib.Core.Option as maybe
use mathlib.Core.Option.{some, some-injective, some-ne-none}
use lib.ListN.{get_elem?}
use Rattle.atomic_table.specs.Table.{State, Final, Seen}
use Rattle.mars_turn.specs.declared.pass_view.PassView.{PassView}
use mathlib.Core.List.{IsPrefix}
use mathlib.Core.Logic.{dite}
use native.Mathlib.Decide.{dec_le}
use Rattle.mars_turn.specs.Items.{made_by, AllMade, total, one_if, once_below, times}
use Rattle.mars_turn.specs.Views.{IsComplete, OnlyOf, number_of_ended, numbers_of}
use Rattle.mars_turn.specs.Rule.{SixParts, inside_in, times_in, passes_in}
use Rattle.mars_turn.proofs.Flat.{Flat, flat}
use Rattle.mars_turn.proofs.Counted.{inside_in-outside, times_in-live, passes_in-live}
use Rattle.mars_turn.proofs.Lists.{total_at}

module _ {A : Type 0} (f g : A → ℕ) (le : (x : A) → f x ≤ g x) where
  total_mono : (xs : List A) → total f xs ≤ total g xs
  total_mono [] = omega arith
  total_mono (x ∷ xs) = omega (arith, le x, total_mono xs)

  -- where one member has all of g, the others have none of f
  total_gap : (xs : List A) (i : ℕ) (v : A) → get_elem? xs i ≡ some v → total f xs + g v ≤ total g xs + f v
  total_gap [] i v e = absurd (some-ne-none v (sym e))
  total_gap (x ∷ xs) zero v e =
      let a : f x ≡ f v = ap f (some-injective x v e) in
      let b : g x ≡ g v = ap g (some-injective x v e) in
      omega (arith, a, b, total_mono xs)
  total_gap (x ∷ xs) (suc i) v e = omega (arith, le x, total_gap xs i v e)

one_if-most : (b : Bool) → one_if b ≤ 1
one_if-most true = omega arith
one_if-most false = omega arith

times-most : {X : Type 0} (k : ℕ) (es : List (ℕ × List X)) → times k (map number_of_ended es) ≤ length es
times-most k [] = omega arith
times-most k (e ∷ es) = omega (arith, one_if-most (e.0 == k), times-most k es)

within : (b : Bool) (m n : ℕ) → m ≤ n → (if b then m else 0) ≤ (if b then n else 0)
within true m n le = le
within false m n le = omega arith

inside_in-most : {X : Type 0} (v : PassView X) → inside_in v ≤ passes_in v
inside_in-most v = within v.live (one_if (is_some v.entered)) (1 + length v.ended) (omega (arith, one_if-most (is_some v.entered)))

times_in-most : {X : Type 0} (k : ℕ) (v : PassView X) → times_in k v ≤ passes_in v
times_in-most k v = within v.live (one_if (v.number == k) + times k (map number_of_ended v.ended)) (1 + length v.ended) (omega (arith, one_if-most (v.number == k), times-most k v.ended))

module _ {A X : Type 0} (list : A → List X) (fixed : A → ℕ) (by : X → ℕ) (f : ℕ) where
  pub record Facts (v : PassView X) (y : A) : Type 0 where
    pub fixed_is : fixed y ≡ v.fixed
    pub seen_first : IsPrefix v.seen (list y)
    pub mine_all : made_by by v.number (list y) ≡ v.mine
    pub ended_all : AllMade by (list y) v.ended
    pub only : OnlyOf by v (list y)

  module _ (s : State (Option A) (PassView X)) (k : Flat list fixed by f s) (id : ℕ) (v : PassView X) (at : get_elem? s.views id ≡ some v) (live : v.live ≡ true) (complete : IsComplete v) where
    made_is : length v.ended + 1 ≡ k.made
    made_is = (k.each id v at live).made_is (length v.ended + 1) complete.1

    nobody : k.held ≡ 0
    nobody = omega (arith, total_gap inside_in passes_in inside_in-most s.views id v at, inside_in-outside v live complete.0, passes_in-live v live, made_is, k.sized, k.inside)

    each_number : (n : ℕ) → n < length v.ended + 1 → times n (numbers_of v) ≡ 1
    each_number n low =
        let once : once_below n k.made ≡ 1 = ap one_if (lt-ltb n k.made (omega (arith, low, made_is))) in
        let mine : times_in n v ≡ times n (numbers_of v) = times_in-live v live n in
        omega (arith, total_gap (times_in n) passes_in (times_in-most n) s.views id v at, total_at (times_in n) s.views id v at, mine, passes_in-live v live, made_is, k.sized, k.owned n, once)

    no_others : (n : ℕ) → times n (numbers_of v) ≡ 0 → made_by by n k.log ≡ []
    no_others n none = dite (dec_le k.made n) (λ high. k.fresh n high) (λ low. let one : times n (numbers_of v) ≡ 1 = each_number n (omega (arith, low, made_is)) in absurd (omega (arith, one, none)))

    facts : (y : A) × (s.homes ≡ some (Some y) ∷ []) × Facts v y
    facts =
        let (y, home, same, fx) = k.free nobody in
        let fits = k.each id v at live in (
          y,
          home,
          record {
            fixed_is = fx ∙ sym fits.fixed_is;
            seen_first = rw same fits.seen_first;
            mine_all = rw same fits.mine_all;
            ended_all = rw same fits.ended_all;
            only = record { no_others = λ n none. rw same (no_others n none); numbers = each_number };
          },
        )

  pub closes : (id : ℕ) (v : PassView X) (ws : List ℕ) (xs : List (Option A)) → v.live ≡ true → IsComplete v → Final (Seen (SixParts list fixed by f) id v) ws xs
      → (x : Option A) → get_elem? xs 0 ≡ some x → (y : A) × (x ≡ Some y) × Facts v y
  closes id v ws xs live complete (s, seen, words, len, values) x there =
      let (y, home, facts) = facts s (flat list fixed by f s seen.0) id v seen.1 live complete in (
        y,
        some-injective x (Some y) (sym there ∙ values 0 (Some y) (ap (λ (hs : List (maybe.Option (Option A))). get_elem? hs 0) home)),
        facts,
      )
