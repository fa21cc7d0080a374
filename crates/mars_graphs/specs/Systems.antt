-- A written tree as a system of equations, and what its solution is.
use Rattle.std.specs.Prelude.{◌≡◌, ◌↔◌, ℕ, List, [], ◌∷◌, map, Option, Some, None, Bool, ◌==◌, if◌then◌else◌}
use Rattle.std.specs.Option.{option_map}
use Rattle.mars_tree.specs.declared.label.Label.{Label}
use Rattle.mars_tree.specs.declared.label.NameId.{NameId}
use Rattle.mars_tree.specs.Graph.{Node, Shown, end_of}
use Rattle.mars_tree.specs.Graph as graph
use Rattle.mars_tree.specs.Walk.{walk}

-- variables are told apart by the numbers of their spellings
abbrev pub same_variable : NameId → NameId → Bool
same_variable x y = x.0 == y.0

mutual
  -- a term: a variable, or a label over terms
  pub data Side : Type 0 where
    variable : NameId → Side
    labelled : Label → Sides → Side

  -- a row of terms
  pub data Sides : Type 0 where
    no_sides : Sides
    next_side : Side → Sides → Sides

-- a row of terms as a list
abbrev pub side_list : Sides → List Side
side_list no_sides = []
side_list (next_side side sides) = side ∷ side_list sides

-- a list of terms as a row
abbrev pub side_row : List Side → Sides
side_row [] = no_sides
side_row (side ∷ sides) = next_side side (side_row sides)

-- a variable, and the term that it is equal to
pub record Equation : Type 0 where
  pub variable : NameId
  pub side : Side

-- a term, and the equations of its variables
pub record EquationSystem : Type 0 where
  pub side : Side
  pub equations : List Equation

-- what a variable is equal to: the term of its first equation, or itself
abbrev pub equal_to : List Equation → NameId → Side
equal_to [] x = variable x
equal_to (e ∷ equations) x = if same_variable x e.variable then e.side else equal_to equations x

-- a term, where a variable alone gives way to what it is equal to
abbrev pub given_way : List Equation → Side → Side
given_way equations (variable x) = equal_to equations x
given_way equations (labelled l sides) = labelled l sides

-- the terms under a term
abbrev pub sides_under : List Equation → Side → List Side
sides_under equations (variable x) = []
sides_under equations (labelled l sides) = map (given_way equations) (side_list sides)

-- what a term is at its root: a label, or a variable without an equation
pub data Tip : Type 0 where
  label : Label → Tip
  free : NameId → Tip

-- the root of a term
abbrev pub tip_of : Side → Tip
tip_of (variable x) = free x
tip_of (labelled l sides) = label l

-- the term at the end of a path
abbrev pub side_at : EquationSystem → List ℕ → Option Side
side_at system path = walk (sides_under system.equations) (given_way system.equations system.side) path

-- what a system says at the end of a path
abbrev pub tip_at : EquationSystem → List ℕ → Option Tip
tip_at system path = option_map tip_of (side_at system path)

-- a graph shows what is said: the same label, or a free leaf
abbrev pub ShowsTip : Option Tip → Option Shown → Type 0
ShowsTip None None = Unit {0}
ShowsTip (Some (label l)) (Some (graph.label shown)) = l ≡ shown
ShowsTip (Some (free x)) (Some (graph.free n)) = Unit {0}
ShowsTip _ _ = ⊥

-- the graph from the root is the solution: the same along every path, and one leaf for each variable that has no equation
pub record IsSolution (system : EquationSystem) (g : List Node) (root : ℕ) : Type 0 where
  pub shown : (path : List ℕ) → ShowsTip (tip_at system path) (graph.at g root path)
  pub leaves : (path other : List ℕ) (x y : NameId) → tip_at system path ≡ Some (free x) → tip_at system other ≡ Some (free y) →
      (x ≡ y) ↔ (end_of g root path ≡ end_of g root other)
