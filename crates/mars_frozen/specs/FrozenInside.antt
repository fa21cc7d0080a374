-- Inside: which pairs a wake looks at, and what it finds.
use Rattle.std.specs.Prelude.{◌≡◌, ◌⊎◌, ℕ, ◌<◌, List, [], ◌∷◌, ◌++◌, length, slice_index, map, All, Contains}
use Rattle.mars_store.specs.System.{System}
use Rattle.mars_store.specs.Laws.{IsKnown}
use Rattle.mars_watch.specs.Watched.{CutAt}
use Rattle.mars_watch.specs.Lined.{AreAscending}
use Rattle.mars_watch.specs.Gathered.{AreEach, pair_at}
use Rattle.mars_frozen.specs.Freezing.{FrozenPairs, IsFiled}

-- a pair is looked at, or waits at its variable still
abbrev pub AreAllTouched : FrozenPairs → System → List ℕ → Type 0
AreAllTouched frozen system touched = AreEach (λ number pair. Contains touched number ⊎ IsFiled frozen.watches system number pair) frozen.numbers.now frozen.pairs.now

-- a place of a pair whose first part is known
pub record IsKnownPlace (system : System) (pairs : List (ℕ × ℕ)) (place : ℕ) : Type 0 where
  pub within : place < length pairs
  pub known : IsKnown system (pair_at pairs place).0

-- a pair was found to be known, or waits at its variable
abbrev pub IsPlaceSettled : System → List (ℕ × ℕ) → List ℕ → List (ℕ × ℕ) → List ℕ → ℕ → Type 0
IsPlaceSettled system pairs numbers watches found place = Contains found place ⊎ IsFiled watches system (slice_index numbers place) (pair_at pairs place)

-- the pair of a number was looked at
pub record IsLookedAt (system : System) (pairs : List (ℕ × ℕ)) (numbers : List ℕ) (number : ℕ) (watches more : List (ℕ × ℕ)) (old new : List ℕ) : Type 0 where
  pub cut : CutAt watches more
  pub kept : (place : ℕ) → Contains old place → Contains new place
  pub known : All (IsKnownPlace system pairs) old → All (IsKnownPlace system pairs) new
  pub settled : (place : ℕ) → place < length numbers → slice_index numbers place ≡ number → IsPlaceSettled system pairs numbers more new place

-- the pair at a place was found to be known, or waits at its variable now
pub record IsPairSettled (system : System) (pairs : List (ℕ × ℕ)) (place number : ℕ) (watches more : List (ℕ × ℕ)) (old new : List ℕ) : Type 0 where
  pub cut : CutAt watches more
  pub found : (new ≡ old ++ place ∷ []) × IsKnownPlace system pairs place ⊎ ((new ≡ old) × IsFiled more system number (pair_at pairs place))

-- each pair is yet to be looked at, or settled
pub record AreSettled (system : System) (pairs : List (ℕ × ℕ)) (numbers : List ℕ) (left : List ℕ) (watches : List (ℕ × ℕ)) (found : List ℕ) : Type 0 where
  pub known : All (IsKnownPlace system pairs) found
  pub settled : (place : ℕ) → place < length numbers → Contains left (slice_index numbers place) ⊎ IsPlaceSettled system pairs numbers watches found place

-- the places of all pairs whose first part is known, in order; the others wait at their variables
pub record AreFound (system : System) (pairs : List (ℕ × ℕ)) (numbers : List ℕ) (watches : List (ℕ × ℕ)) (places : List ℕ) : Type 0 where
  pub ascending : AreAscending 0 places (length pairs)
  pub known : All (IsKnownPlace system pairs) places
  pub settled : (place : ℕ) → place < length numbers → IsPlaceSettled system pairs numbers watches places place

-- the second parts of pairs at places
abbrev pub goals_of : List (ℕ × ℕ) → List ℕ → List ℕ
goals_of pairs places = map (λ place. (pair_at pairs place).1) places
