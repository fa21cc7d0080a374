-- Inside: the index of rows, by a key of each component among them.
use Rattle.std.specs.Prelude.{◌≡◌, ◌≢◌, ◌⊎◌, ℕ, ◌<◌, ◌≤◌, ◌+◌, Bool, true, if◌then◌else◌, List, [], ◌∷◌, length, map, Option, Some, None, unwrap_or, slice_get, slice_index_or, Contains}
use Rattle.std.specs.List.{AllZip}
use Rattle.std.specs.Global.{Vec}
use Rattle.std.specs.Map.{lookup}
use Rattle.mars_tree.specs.Graph.{Node}
use Rattle.mars_comp.specs.Components.{component_of}
use Rattle.mars_comp.specs.KeyLaws.{IsParted, IsOuterKid}
use Rattle.mars_comp.specs.Least.{IsMember}
use Rattle.mars_first.specs.First.{IsFirst}
use Rattle.mars_comp.specs.declared.items.Item.{Item}
use Rattle.mars_comp.specs.declared.items.Key.{Key}
use Rattle.mars_comp.specs.contracts.items.KeyPartialEq.TheImpl as key_eq
use Rattle.mars_rows.specs.Finding.{find_row}
use Rattle.mars_rows.specs.Rows.{Row, HasRow, IsRowOf}

-- whether two keys are equal
abbrev pub same_key : Key → Key → Bool
same_key = (key_eq.ghosts).eq

-- a key with the numbers of the rows at its places
abbrev pub Pair : Type 0
Pair = Key × Vec ℕ

-- the numbers that the index has for a key
abbrev pub rows_under : List Pair → Key → Option (Vec ℕ)
rows_under entries key = lookup (same_key key) entries

-- the number that a list has for a node
abbrev pub number_for : List ℕ → ℕ → ℕ
number_for numbers n = slice_index_or numbers n 0

-- a row that is the tree of node `n`
abbrev pub IsNumber : List Row → List Node → ℕ → ℕ → Type 0
IsNumber rows g n h = HasRow rows h × IsRowOf rows h g n

-- the key under which the index has the component of a node, and the nodes at its places
abbrev pub IsChosen : List Node → List ℕ → List ℕ → ℕ → List ℕ → List Item → Type 0
IsChosen g parts outside n nodes key = IsFirst g parts outside n nodes key

-- rows that are the trees of a component of some graph, place by place, where kids outside have the numbers of their rows
pub record IsEntry (rows : List Row) (key : List Item) (numbers : List ℕ) : Type 0 where
  pub graph : List Node
  pub parts : List ℕ
  pub outside : List ℕ
  pub node : ℕ
  pub nodes : List ℕ
  pub parted : IsParted graph parts
  pub within : node < length graph
  pub chosen : IsChosen graph parts outside node nodes key
  pub rows_are : AllZip (λ n h. IsNumber rows graph n h) nodes numbers
  pub kids_are : (x : ℕ) → IsOuterKid graph parts node x → IsNumber rows graph x (number_for outside x)

-- each entry is rows of a component, and some entry has the number, for each number of `In`
pub record IsRowIndexOf (rows : List Row) (In : ℕ → Type 0) (entries : List Pair) : Type 0 where
  pub each : (key : Key) (numbers : Vec ℕ) → rows_under entries key ≡ Some numbers → IsEntry rows key.items.items numbers.items
  pub all : (h : ℕ) → In h → (key : Key) × (numbers : Vec ℕ) × (rows_under entries key ≡ Some numbers) × Contains numbers.items h

-- each row is in an entry
abbrev pub IsRowIndex : List Row → List Pair → Type 0
IsRowIndex rows entries = IsRowIndexOf rows (HasRow rows) entries

-- one node of each component, children first
pub record AreHeads (parts heads : List ℕ) : Type 0 where
  pub within : (k n : ℕ) → slice_get heads k ≡ Some n → n < length parts
  pub rise : (i j n m : ℕ) → i < j → slice_get heads i ≡ Some n → slice_get heads j ≡ Some m → component_of parts n < component_of parts m
  pub all : (n : ℕ) → n < length parts → (k : ℕ) × (head : ℕ) × (slice_get heads k ≡ Some head) × (component_of parts head ≡ component_of parts n)

-- the number of a node's row, and a number past all rows where it has none
abbrev pub guess : List Row → ℕ → List Node → ℕ → ℕ
guess rows next g n = unwrap_or (find_row rows g n) (next + n)

-- a head of the node's component is before place `k`, or not
abbrev pub IsPast : List ℕ → List ℕ → ℕ → ℕ → Type 0
IsPast parts heads k n = (j : ℕ) × (head : ℕ) × (j < k) × (slice_get heads j ≡ Some head) × (component_of parts head ≡ component_of parts n)

abbrev pub IsAhead : List ℕ → List ℕ → ℕ → ℕ → Type 0
IsAhead parts heads k n = (j : ℕ) × (head : ℕ) × (k ≤ j) × (slice_get heads j ≡ Some head) × (component_of parts head ≡ component_of parts n)

-- a node of the component is in the list
abbrev pub HasPart : List ℕ → List ℕ → ℕ → Type 0
HasPart parts nodes n = (j : ℕ) × (head : ℕ) × (slice_get nodes j ≡ Some head) × (component_of parts head ≡ component_of parts n)

-- the number of the row that is the tree of node `x`, or one that no row has where none is
abbrev pub IsGuess : List Row → List Node → ℕ → ℕ → Type 0
IsGuess rows g x h = IsNumber rows g x h ⊎ (((k : ℕ) → IsNumber rows g x k → ⊥) × (HasRow rows h → ⊥))

-- the kids outside the component of a node have such numbers
abbrev pub KidsGuessed : List Row → List Node → List ℕ → ℕ → List ℕ → Type 0
KidsGuessed rows g parts head numbers = (x : ℕ) → IsOuterKid g parts head x → IsGuess rows g x (number_for numbers x)

-- the first `count` nodes have the numbers at their places, and others have what they had
pub record PutsNumbers (nodes rows : List ℕ) (count : ℕ) (old new : List ℕ) : Type 0 where
  pub size : length new ≡ length old
  pub there : (k n : ℕ) → k < count → slice_get nodes k ≡ Some n → (j : ℕ) × (j < count) × (slice_get nodes j ≡ Some n) × (number_for new n ≡ number_for rows j)
  pub others : (n : ℕ) → ((k : ℕ) → k < count → slice_get nodes k ≡ Some n → ⊥) → number_for new n ≡ number_for old n

-- the components of the first `k` heads were looked up: what isn't found is missed
pub record IsLookedUp (rows : List Row) (next : ℕ) (g : List Node) (parts heads : List ℕ) (k : ℕ) (numbers missed : List ℕ) : Type 0 where
  pub size : length numbers ≡ length g
  pub past : (n : ℕ) → n < length g → IsPast parts heads k n → number_for numbers n ≡ guess rows next g n
  pub ahead : (n : ℕ) → n < length g → IsAhead parts heads k n → number_for numbers n ≡ next + n
  pub missing : (n : ℕ) → n < length g → IsPast parts heads k n → find_row rows g n ≡ None → HasPart parts missed n
  pub missed_in : (j n : ℕ) → slice_get missed j ≡ Some n → n < length g

-- what looking up one component tells
pub record IsLooked (rows : List Row) (g : List Node) (parts : List ℕ) (head : ℕ) (found : Bool) (old new : List ℕ) : Type 0 where
  pub size : length new ≡ length old
  pub here : (n : ℕ) → IsMember g parts head n → find_row rows g n ≡ (if found then Some (number_for new n) else None)
  pub missed : (n : ℕ) → found ≢ true → number_for new n ≡ number_for old n
  pub others : (n : ℕ) → component_of parts n ≢ component_of parts head → number_for new n ≡ number_for old n

-- the key of a head's component, with the numbers of its nodes
pub record IsMade (g : List Node) (parts names : List ℕ) (head : ℕ) (key : List Item) (numbers : List ℕ) : Type 0 where
  pub nodes : List ℕ
  pub chosen : IsChosen g parts names head nodes key
  pub are : numbers ≡ map (number_for names) nodes

-- a key for each head
pub record AreMade (g : List Node) (parts names heads : List ℕ) (entries : List Pair) : Type 0 where
  pub count : length entries ≡ length heads
  pub each : (k : ℕ) (entry : Pair) → slice_get entries k ≡ Some entry → (head : ℕ) × (slice_get heads k ≡ Some head) × IsMade g parts names head entry.0.items.items entry.1.items

-- what keys lead to where entries are put, the last one first
abbrev pub put : List Pair → (Key → Option (Vec ℕ)) → Key → Option (Vec ℕ)
put [] old key = old key
put (entry ∷ entries) old key = if same_key entry.0 key then Some entry.1 else put entries old key
