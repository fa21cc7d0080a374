-- A component's nodes by their places, with its rows, each once, and candidates narrowed by the numbers of rows.
use Rattle.std.specs.Prelude.{◌≡◌, ◌⊎◌, ℕ, ◌<◌, List, [], ◌∷◌, length, map, Some, slice_get, slice_index_or, nat_eq, count_by, unwrap_or, Contains, All, if◌then◌else◌}
use Rattle.std.specs.Option.{option_map}
use Rattle.mars_tree.specs.Graph.{Node}
use Rattle.mars_reach.specs.Order.{place_in}
use Rattle.mars_comp.specs.Key.{inner_kids, entry}
use Rattle.mars_comp.specs.Least.{IsAtMost}
use Rattle.mars_comp.specs.declared.items.Item.{Item}
use Rattle.mars_comp.specs.declared.items.Key.{Key}
use Rattle.mars_first.specs.PlacesInside.{kids_of_place, number_at}
use Rattle.mars_first.specs.StagesInside.{AreRowsApart, NeverDiffer, AreOwn}
use Rattle.mars_first.specs.declared.component.Component.{Component}

-- rows at different places differ
abbrev pub AreDistinctRows : List Key → Type 0
AreDistinctRows keys = (i j : ℕ) (a b : Key) → slice_get keys i ≡ Some a → slice_get keys j ≡ Some b → a.items.items ≡ b.items.items → i ≡ j

-- rows with a row at a place: it went last there, or was there
pub record HasRowAt (old : List Key) (row : List Item) (number : ℕ) (new : List Key) : Type 0 where
  pub key : Key
  pub there : slice_get new number ≡ Some key
  pub is : key.items.items ≡ row
  pub front : (k : ℕ) (other : Key) → slice_get old k ≡ Some other → slice_get new k ≡ Some other
  pub distinct : AreDistinctRows new

-- the row of a node by its number
pub record HasRowNumber (g : List Node) (parts outside : List ℕ) (keys : List Key) (n number : ℕ) : Type 0 where
  pub key : Key
  pub there : slice_get keys number ≡ Some key
  pub is : key.items.items ≡ entry g parts outside [] n

-- the first nodes of an order by their places: the number of each one's row, and its kids that are of the component
pub record IsComponentOf (g : List Node) (parts outside starts : List ℕ) (c : Component) : Type 0 where
  pub size : length c.places.kids.items ≡ length c.places.numbers.items
  pub row : (p n : ℕ) → p < length c.places.numbers.items → slice_get starts p ≡ Some n → HasRowNumber g parts outside c.rows.keys n (number_at c.places p)
  pub kids : (p n : ℕ) → p < length c.places.numbers.items → slice_get starts p ≡ Some n → kids_of_place c.places p ≡ map (place_in starts) (inner_kids g parts n)
  pub distinct : AreDistinctRows c.rows.keys

-- the items of the row with a number
abbrev pub row_items : List Key → ℕ → List Item
row_items keys r = unwrap_or (option_map (λ key. key.items.items) (slice_get keys r)) []

abbrev pub count_of : ℕ → List ℕ → ℕ
count_of r rows = count_by (λ x. nat_eq x r) rows

-- a row that is rarer than another, or is as rare and isn't greater
abbrev pub IsRarer : List Key → List ℕ → ℕ → ℕ → Type 0
IsRarer keys rows r q = (count_of r rows < count_of q rows) ⊎ ((count_of r rows ≡ count_of q rows) × IsAtMost (row_items keys r) (row_items keys q))

-- the same, by counts of the rows
abbrev pub Precedes : List Key → List ℕ → ℕ → ℕ → Type 0
Precedes keys counts r q =
    (slice_index_or counts r 0 < slice_index_or counts q 0) ⊎ ((slice_index_or counts r 0 ≡ slice_index_or counts q 0) × IsAtMost (row_items keys r) (row_items keys q))

-- one of two rows that comes before both
pub record IsRarerOf (keys : List Key) (counts : List ℕ) (row other result : ℕ) : Type 0 where
  pub one : (result ≡ row) ⊎ (result ≡ other)
  pub first : Precedes keys counts result row
  pub second : Precedes keys counts result other

-- how often each number is among rows
pub record AreCounts (size : ℕ) (rows counts : List ℕ) : Type 0 where
  pub size_is : length counts ≡ size
  pub each : (r c : ℕ) → slice_get counts r ≡ Some c → c ≡ count_of r rows

-- the candidates that have a row
abbrev pub chosen : List ℕ → List ℕ → ℕ → List ℕ
chosen [] rows row = []
chosen (a ∷ candidates) [] row = []
chosen (a ∷ candidates) (r ∷ rows) row = if nat_eq r row then a ∷ chosen candidates rows row else chosen candidates rows row

-- candidates with the rarest row at the end of the first path at which they differ
pub record IsNarrowedTo (c : Component) (candidates left : List ℕ) : Type 0 where
  pub rows : List ℕ
  pub row : ℕ
  pub apart : AreRowsApart c.places candidates rows
  pub row_in : Contains rows row
  pub rarest : All (λ r. IsRarer c.rows.keys rows row r) rows
  pub left_is : left ≡ chosen candidates rows row

-- candidates narrowed again and again
pub data NarrowsTo (c : Component) (start : ℕ) : List ℕ → Type 0 where
  alike : (candidates : List ℕ) → NeverDiffer c.places candidates → Contains candidates start → NarrowsTo c start candidates
  further : (candidates left : List ℕ) → IsNarrowedTo c candidates left → NarrowsTo c start left → NarrowsTo c start candidates

-- candidates that all are narrowed to
pub record ComesFrom (c : Component) (all candidates : List ℕ) : Type 0 where
  pub within : (k p : ℕ) → slice_get candidates k ≡ Some p → p < length c.places.numbers.items
  pub some : 0 < length candidates
  pub narrows : (start : ℕ) → NarrowsTo c start candidates → NarrowsTo c start all

-- the number of each place's row is that of a row
abbrev pub AreRowNumbers : Component → Type 0
AreRowNumbers c = (p : ℕ) → p < length c.places.numbers.items → number_at c.places p < length c.rows.keys

-- the place to which all places are narrowed
pub record IsFirstPlace (c : Component) (start : ℕ) : Type 0 where
  pub all : List ℕ
  pub own : AreOwn (length c.places.numbers.items) all
  pub narrows : NarrowsTo c start all
