-- Law: first keys are equal exactly where a node of one component is the same tree as one of the other.
use Rattle.std.specs.Prelude.{◌≡◌, ◌↔◌, ℕ, ◌<◌, List, length}
use Rattle.std.specs.List.{AllZip}
use Rattle.mars_tree.specs.Graph.{Node, Same}
use Rattle.mars_comp.specs.KeyLaws.{IsParted, NumbersTell}
use Rattle.mars_comp.specs.LeastLaws.{ShareTree}
use Rattle.mars_comp.specs.declared.items.Item.{Item}
use Rattle.mars_first.specs.First.{IsFirst}

-- first keys are equal exactly where the components share a tree, and then the nodes at each place are the same tree
abbrev pub FirstKeysTell : Type 0
FirstKeysTell =
    (g h : List Node) (parts others outside numbers : List ℕ) (n m : ℕ) (nodes beside : List ℕ) (key other : List Item) →
    IsParted g parts → IsParted h others → n < length g → m < length h →
    NumbersTell g parts outside n h others numbers m →
    IsFirst g parts outside n nodes key → IsFirst h others numbers m beside other →
    (key ≡ other ↔ ShareTree g parts n h others m) × (key ≡ other → AllZip (λ x y. Same g x h y) nodes beside)
