-- A component by the places of its nodes: the kids of each that are of the component, and the number of its row.
use Rattle.std.specs.Prelude.{◌≡◌, ℕ, ◌<◌, List, [], length, Option, slice_get, slice_index_or, unwrap_or, All}
use Rattle.std.specs.Option.{option_map}
use Rattle.mars_tree.specs.Walk.{walk}
use Rattle.mars_first.specs.declared.places.Places.{Places}

-- the kids of a place
abbrev pub kids_of_place : Places → ℕ → List ℕ
kids_of_place s x = unwrap_or (option_map (λ v. v.items) (slice_get s.kids.items x)) []

-- the number of a place's row
abbrev pub number_at : Places → ℕ → ℕ
number_at s x = slice_index_or s.numbers.items x 0

-- the number of the row at the end of a path
abbrev pub number_along : Places → ℕ → List ℕ → Option ℕ
number_along s x path = option_map (number_at s) (walk (kids_of_place s) x path)

-- kids are places, and places with one row have equally many
pub record ArePlaces (s : Places) : Type 0 where
  pub size : length s.kids.items ≡ length s.numbers.items
  pub kids_in : (x : ℕ) → x < length s.numbers.items → All (λ kid. kid < length s.numbers.items) (kids_of_place s x)
  pub alike : (x y : ℕ) → x < length s.numbers.items → y < length s.numbers.items → number_at s x ≡ number_at s y → length (kids_of_place s x) ≡ length (kids_of_place s y)
