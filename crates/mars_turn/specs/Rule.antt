-- The rule of the turn, in six parts, which holds between any two steps. Word 0 is 1 while a pass is inside, and else 0. The value's place is slot 0.
-- The parts speak of the views that aren't spent. `log` is the longest list that a pass has seen, `made` the number of passes, ended ones included.
use Rattle.std.specs.Prelude.{◌≡◌, ℕ, ◌+◌, ◌^◌, ◌≤◌, List, [], ◌∷◌, length, Option, Some, true, is_some, if◌then◌else◌}
use mathlib.Core.Option as maybe
use mathlib.Core.Option.{some, none}
use mathlib.Core.List.{IsPrefix}
use lib.ListN.{get_elem?}
use Rattle.atomic_table.specs.Table.{State}
use Rattle.mars_turn.specs.declared.pass_view.PassView.{PassView}
use Rattle.mars_turn.specs.Items.{made_by, AllMade, total, one_if, times, once_below}
use Rattle.mars_turn.specs.Views.{numbers_of}

module _ {X : Type 0} where
  -- F of each view that isn't spent
  abbrev pub EachPass : (PassView X → Type 0) → List (PassView X) → Type 0
  EachPass F views = (i : ℕ) (v : PassView X) → get_elem? views i ≡ some v → v.live ≡ true → F v

  -- F of some view that isn't spent
  abbrev pub SomePass : (PassView X → Type 0) → List (PassView X) → Type 0
  SomePass F views = (i : ℕ) × (v : PassView X) × (get_elem? views i ≡ some v) × ((v.live ≡ true) × F v)

  -- 1 where the view says inside
  abbrev pub inside_in : PassView X → ℕ
  inside_in v = if v.live then one_if (is_some v.entered) else 0

  -- 1 where the view says how many passes there are
  abbrev pub counts_in : PassView X → ℕ
  counts_in v = if v.live then one_if (is_some v.made) else 0

  -- how many passes the view is of: itself, and those that ended in it
  abbrev pub passes_in : PassView X → ℕ
  passes_in v = if v.live then 1 + length v.ended else 0

  -- how often the number is that of the pass or of one that ended in it
  abbrev pub times_in : ℕ → PassView X → ℕ
  times_in k v = if v.live then times k (numbers_of v) else 0

  -- 1. As many views say inside as word 0 says, and that is one at most.
  pub record OneInside (words : List ℕ) (views : List (PassView X)) (held : ℕ) : Type 0 where
    pub word : words ≡ held ∷ []
    pub inside : total inside_in views ≡ held
    pub one : held ≤ 1

  -- 2. Every list that was seen begins the longest, which some pass has seen.
  pub record SeenInOrder (views : List (PassView X)) (log : List X) : Type 0 where
    pub seen : EachPass (λ v. IsPrefix v.seen log) views
    pub shorter : EachPass (λ v. IsPrefix v.shorter log) views
    pub longest : SomePass (λ v. v.seen ≡ log) views

  -- 3. The items of a pass's number, in the longest list and in its own, are those that it made.
  pub record OwnItems (by : X → ℕ) (views : List (PassView X)) (log : List X) : Type 0 where
    pub in_longest : EachPass (λ v. made_by by v.number log ≡ v.mine) views
    pub in_own : EachPass (λ v. made_by by v.number v.seen ≡ v.mine) views

  -- 4. For each pass that ended they are the items that are kept of it.
  abbrev pub EndedItems : (X → ℕ) → List (PassView X) → List X → Type 0
  EndedItems by views log = EachPass (λ v. AllMade by log v.ended) views

  -- 5. One view says how many passes there are, and it is so. The numbers of the passes, live and ended, are those below it, each once.
  -- Numbers from it on have no items.
  pub record Numbered (by : X → ℕ) (views : List (PassView X)) (log : List X) (made : ℕ) : Type 0 where
    pub one_counts : total counts_in views ≡ 1
    pub count : EachPass (λ v. (n : ℕ) → v.made ≡ Some n → n ≡ made) views
    pub passes : total passes_in views ≡ made
    pub numbers : (k : ℕ) → total (times_in k) views ≡ once_below k made
    pub none_past : (k : ℕ) → made ≤ k → made_by by k log ≡ []
    pub few : made ≤ 2 ^ 32

-- 6. While word 0 is 0, the value is at home, and its list is the longest that was seen.
-- While it is 1, the value is with the pass that is inside, and the longest list is the one that this pass found.
-- All have the `fixed` of the value of `open`.
pub record ValueKept {A X : Type 0} (list : A → List X) (fixed : A → ℕ) (f : ℕ) (homes : List (maybe.Option (Option A))) (views : List (PassView X)) (log : List X) (held : ℕ) : Type 0 where
  pub home : held ≡ 0 → (y : A) × (homes ≡ some (Some y) ∷ []) × (list y ≡ log) × (fixed y ≡ f)
  pub out : held ≡ 1 → homes ≡ none ∷ []
  pub found : EachPass (λ v. (l : List X) → v.entered ≡ Some l → l ≡ log) views
  pub same_fixed : EachPass (λ v. v.fixed ≡ f) views

-- the six parts
pub record SixParts {A X : Type 0} (list : A → List X) (fixed : A → ℕ) (by : X → ℕ) (f : ℕ) (s : State (Option A) (PassView X)) : Type 0 where
  pub log : List X
  pub made : ℕ
  pub held : ℕ
  pub one_inside : OneInside s.words s.views held
  pub seen_in_order : SeenInOrder s.views log
  pub own_items : OwnItems by s.views log
  pub ended_items : EndedItems by s.views log
  pub numbered : Numbered by s.views log made
  pub value_kept : ValueKept list fixed f s.homes s.views log held
