-- How the nodes of classes are laid out, and the steps of a split.
use Rattle.std.specs.Prelude.{◌≡◌, ◌≢◌, ◌↔◌, ℕ, ◌<◌, ◌≤◌, List, Bool, true, false, length, map, ltb, slice_index_or, All, Contains}
use Rattle.std.specs.List.{range_with_len}
use Rattle.mars_base.specs.Numbers.{NumberList}
use Rattle.mars_refine.specs.declared.classes.Span.{Span}
use Rattle.mars_refine.specs.declared.classes.Parts.{Parts}
use Rattle.mars_refine.specs.Refine.{class_of, Moved}
use Rattle.mars_refine.specs.Classes.{Parted, is_marked}

-- what is at a place
abbrev pub at_place : List ℕ → ℕ → ℕ
at_place xs i = slice_index_or xs i 0

-- the places of a class
abbrev pub span_of : List Span → ℕ → Span
span_of spans c = slice_index_or spans c (record { start = 0; middle = 0; end = 0 })

-- nodes in an order, each at its place
pub record IsOrder (size : ℕ) (order place : List ℕ) : Type 0 where
  pub order_size : length order ≡ size
  pub place_size : length place ≡ size
  pub node_in : (i : ℕ) → i < size → at_place order i < size
  pub place_in : (u : ℕ) → u < size → at_place place u < size
  pub there : (u : ℕ) → u < size → at_place order (at_place place u) ≡ u
  pub back : (i : ℕ) → i < size → at_place place (at_place order i) ≡ i

-- the nodes of a class are from its start to its end, the marked ones before its middle
pub record HasSpans (of order place : List ℕ) (spans : List Span) (marked : List Bool) : Type 0 where
  pub ordered : IsOrder (length of) order place
  pub marks_size : length marked ≡ length of
  pub of_in : (u : ℕ) → u < length of → class_of of u < length spans
  pub start_le : (c : ℕ) → c < length spans → (span_of spans c).start ≤ (span_of spans c).middle
  pub middle_le : (c : ℕ) → c < length spans → (span_of spans c).middle ≤ (span_of spans c).end
  pub end_le : (c : ℕ) → c < length spans → (span_of spans c).end ≤ length of
  pub some : (c : ℕ) → c < length spans → (span_of spans c).start < (span_of spans c).end
  pub from_start : (u : ℕ) → u < length of → (span_of spans (class_of of u)).start ≤ at_place place u
  pub to_end : (u : ℕ) → u < length of → at_place place u < (span_of spans (class_of of u)).end
  pub inside : (c i : ℕ) → c < length spans → (span_of spans c).start ≤ i → i < (span_of spans c).end → class_of of (at_place order i) ≡ c
  pub front : (u : ℕ) → u < length of → is_marked marked u ≡ true → at_place place u < (span_of spans (class_of of u)).middle
  pub behind : (u : ℕ) → u < length of → is_marked marked u ≡ false → (span_of spans (class_of of u)).middle ≤ at_place place u

-- a node is marked where its place is before the middle of its class
abbrev pub marks_of : List ℕ → List ℕ → List Span → List Bool
marks_of of place spans = map (λ u. ltb (at_place place u) (span_of spans (class_of of u)).middle) (range_with_len 0 (length of))

-- the lists have room for each node's number
pub record HaveRoom (of order place : NumberList) : Type 0 where
  pub of_most : length of.items ≤ of.most
  pub order_most : length of.items ≤ order.most
  pub place_most : length of.items ≤ place.most

-- the fields of `Parts` are laid out so
pub record IsPartedInside (p : Parts) : Type 0 where
  pub spans : HasSpans p.of.items p.order.items p.place.items p.spans.items (marks_of p.of.items p.place.items p.spans.items)
  pub room : HaveRoom p.of p.order p.place

-- what contracts see of the fields
abbrev pub parted_of : Parts → Parted
parted_of p = record { of = p.of.items; count = length p.spans.items; marked = marks_of p.of.items p.place.items p.spans.items }

-- the classes of the marked nodes are in the list
pub record AreTouched (p : Parted) (touched : List ℕ) : Type 0 where
  pub below : All (λ c. c < p.count) touched
  pub each : (u : ℕ) → u < length p.of → is_marked p.marked u ≡ true → Contains touched (class_of p.of u)

-- one class is parted into its marked nodes and the others
pub record SplitsOne (class : ℕ) (old new : Parted) : Type 0 where
  pub size : length new.of ≡ length old.of
  pub more : old.count ≤ new.count
  pub moved : Moved old.of old.count new.of
  pub others : (u : ℕ) → u < length old.of → class_of old.of u ≢ class → (class_of new.of u ≡ class_of old.of u) × (is_marked new.marked u ≡ is_marked old.marked u)
  pub parts : (u v : ℕ) → u < length old.of → v < length old.of → (class_of new.of u ≡ class_of new.of v) ↔ ((class_of old.of u ≡ class_of old.of v) × (class_of old.of u ≡ class → is_marked old.marked u ≡ is_marked old.marked v))
  pub unmarked : (u : ℕ) → u < length old.of → class_of old.of u ≡ class → is_marked new.marked u ≡ false

-- the classes of a list are parted into their marked nodes and the others
pub record SplitsEach (done : List ℕ) (old now : Parted) : Type 0 where
  pub size : length now.of ≡ length old.of
  pub more : old.count ≤ now.count
  pub moved : Moved old.of old.count now.of
  pub parts : (u v : ℕ) → u < length old.of → v < length old.of → (class_of now.of u ≡ class_of now.of v) ↔ ((class_of old.of u ≡ class_of old.of v) × (Contains done (class_of old.of u) → is_marked old.marked u ≡ is_marked old.marked v))
  pub others : (u : ℕ) → u < length old.of → (Contains done (class_of old.of u) → ⊥) → (class_of now.of u ≡ class_of old.of u) × (is_marked now.marked u ≡ is_marked old.marked u)
  pub unmarked : (u : ℕ) → u < length old.of → Contains done (class_of old.of u) → is_marked now.marked u ≡ false
