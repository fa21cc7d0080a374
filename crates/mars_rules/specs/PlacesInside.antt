-- Inside: places filed by key.
use Rattle.std.specs.Prelude.{◌≡◌, ◌≢◌, ℕ, ◌<◌, ◌≤◌, ◌+◌, Bool, if◌then◌else◌, List, [], ◌∷◌, ◌++◌, slice_get, Option, Some, None, MatchOption}
use Rattle.std.specs.Global.{Vec}
use Rattle.std.specs.Map.{lookup}
use Rattle.mars_tree.specs.declared.label.Label.{Label}
use Rattle.mars_rules.specs.declared.keys.HeadKey.{HeadKey}
use Rattle.mars_rules.specs.Candidates.{AllowsLabel}
use Rattle.mars_rules.specs.contracts.keys.HeadKeyPartialEq.TheImpl as key_eq

-- whether two keys are equal
abbrev pub same_head_key : HeadKey → HeadKey → Bool
same_head_key = (key_eq.ghosts).eq

-- the places of a list, or none
abbrev pub places_in : Option (Vec ℕ) → List ℕ
places_in None = []
places_in (Some places) = places.items

-- the places that are filed under a key
abbrev pub places_under : List (HeadKey × Vec ℕ) → HeadKey → List ℕ
places_under entries key = places_in (lookup (same_head_key key) entries)

-- a place was added to those of its key, and to no others
pub record IsPlaceAdded (old new : List (HeadKey × Vec ℕ)) (key : HeadKey) (place : ℕ) : Type 0 where
  pub own : places_under new key ≡ places_under old key ++ place ∷ []
  pub others : (other : HeadKey) → other ≢ key → places_under new other ≡ places_under old other

-- the places of a key among keys, where the first one has this place
abbrev pub places_of_key : ℕ → List HeadKey → HeadKey → List ℕ
places_of_key place [] key = []
places_of_key place (own ∷ keys) key = if same_head_key key own then place ∷ places_of_key (place + 1) keys key else places_of_key (place + 1) keys key

-- each key leads to its places
abbrev pub AreFiledPlaces : List HeadKey → List (HeadKey × Vec ℕ) → Type 0
AreFiledPlaces keys entries = (key : HeadKey) → places_under entries key ≡ places_of_key 0 keys key

-- the first place of a key from a place on
abbrev pub IsFirstOfKey : List HeadKey → HeadKey → ℕ → Option ℕ → Type 0
IsFirstOfKey keys key from found = MatchOption found
    ((place : ℕ) → from ≤ place → slice_get keys place ≡ Some key → ⊥)
    (λ found. (from ≤ found) × (slice_get keys found ≡ Some key) × ((place : ℕ) → from ≤ place → place < found → slice_get keys place ≡ Some key → ⊥))

-- each number is greater than those before
abbrev pub IsRising : List ℕ → Type 0
IsRising numbers = (i j n m : ℕ) → i < j → slice_get numbers i ≡ Some n → slice_get numbers j ≡ Some m → n < m

-- the first number from a number on
abbrev pub IsFirstFrom : List ℕ → ℕ → Option ℕ → Type 0
IsFirstFrom numbers from found = MatchOption found
    ((k n : ℕ) → slice_get numbers k ≡ Some n → n < from)
    (λ found. (at : ℕ) × (slice_get numbers at ≡ Some found) × (from ≤ found) × ((k n : ℕ) → slice_get numbers k ≡ Some n → n < found → n < from))

-- the key at a place has this label of a first argument, or none
abbrev pub IsAllowedAt : List HeadKey → Label → ℕ → Type 0
IsAllowedAt keys argument place = (key : HeadKey) × (slice_get keys place ≡ Some key) × AllowsLabel argument key.first

-- the first of some places, from a number on, at which such a key is
abbrev pub IsFirstAllowed : List HeadKey → List ℕ → Label → ℕ → Option ℕ → Type 0
IsFirstAllowed keys places argument from found = MatchOption found
    ((k place : ℕ) → slice_get places k ≡ Some place → from ≤ place → IsAllowedAt keys argument place → ⊥)
    (λ found. (at : ℕ) × (slice_get places at ≡ Some found) × (from ≤ found) × IsAllowedAt keys argument found × ((k place : ℕ) → k < at → slice_get places k ≡ Some place → from ≤ place → IsAllowedAt keys argument place → ⊥))
