-- What is said of one pass by what it knows.
use Rattle.std.specs.Prelude.{◌≡◌, ℕ, ◌+◌, ◌<◌, ◌≤◌, ◌^◌, List, [], ◌∷◌, map, length, Option, Some, None, IsSome}
use Rattle.std.specs.Option.{ForSome}
use Rattle.mars_turn.specs.Items.{made_by, times}
use Rattle.mars_turn.specs.declared.pass_view.PassView.{PassView}

-- how many passes there are, where it is known, and else 0
abbrev pub passes_known : Option ℕ → ℕ
passes_known None = 0
passes_known (Some n) = n

-- an ended pass is kept as its number and its items
abbrev pub number_of_ended : {X : Type 0} → ℕ × List X → ℕ
number_of_ended e = e.0

module _ {X : Type 0} where
  -- the numbers of a pass and of those that ended in it
  abbrev pub numbers_of : PassView X → List ℕ
  numbers_of v = v.number ∷ map number_of_ended v.ended

  -- it doesn't hold the value
  abbrev pub IsOutside : PassView X → Type 0
  IsOutside v = v.entered ≡ None

  -- it is the opening pass, and made fewer than 2^32 - 1 passes, so that with it there are fewer than 2^32
  abbrev pub CanSplit : PassView X → Type 0
  CanSplit v = (v.number ≡ 0) × (passes_known v.made < 2 ^ 32)

  -- it is outside, and the passes that there are are itself and those that ended in it
  abbrev pub IsComplete : PassView X → Type 0
  IsComplete v = (v.entered ≡ None) × (v.made ≡ Some (length v.ended + 1))

  -- the opening pass knows how many passes there are, and whoever knows it knows of one at least
  pub record CountsPasses (v : PassView X) : Type 0 where
    pub opening : v.number ≡ 0 → IsSome v.made
    pub counted : ForSome v.made (λ n. 0 < n)

  -- The items of its number that it has seen are those that it made.
  -- Where it knows how many passes there are, it has seen no item of a number from there on.
  pub record KnowsItems (by : X → ℕ) (v : PassView X) : Type 0 where
    pub own : made_by by v.number v.seen ≡ v.mine
    pub none_past : (n k : ℕ) → v.made ≡ Some n → n ≤ k → made_by by k v.seen ≡ []

  -- The list has items of the pass and of those that ended in it, and no others.
  -- Their numbers are those below the number of passes, each once.
  pub record OnlyOf (by : X → ℕ) (v : PassView X) (items : List X) : Type 0 where
    pub no_others : (k : ℕ) → times k (numbers_of v) ≡ 0 → made_by by k items ≡ []
    pub numbers : (k : ℕ) → k < length v.ended + 1 → times k (numbers_of v) ≡ 1
