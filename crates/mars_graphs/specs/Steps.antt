-- A tree is told in steps, in the order in which it is written. What system they write.
use Rattle.std.specs.Prelude.{ℕ, ◌-◌, ◌^◌, ◌||◌, ◌==◌, List, [], ◌∷◌, ◌++◌, length, take, drop, Option, Some, None, Bool, false, nat_lt, slice_get, slice_index_or, if◌then◌else◌}
use Rattle.std.specs.List.{list_any}
use Rattle.mars_tree.specs.declared.label.Label.{Label}
use Rattle.mars_tree.specs.declared.label.NameId.{NameId}
use Rattle.mars_tree.specs.declared.label.Label.TheVariants as label
use Rattle.mars_graphs.specs.declared.maker.Head.{Head}
use Rattle.mars_graphs.specs.declared.maker.Head.TheVariants as head
use Rattle.mars_graphs.specs.Systems.{same_variable, Side, variable, labelled, side_row, Equation, EquationSystem}

-- one step of a tree that is written
pub data TreeStep : Type 0 where
  -- a variable
  Variable : NameId → TreeStep
  -- a label without kids
  Leaf : Label → TreeStep
  -- a name or a tuple, whose kids come next, or a dot, after its first kid
  Open : Head → TreeStep
  -- the kids of the last name, tuple or dot that is open are whole
  Close : TreeStep
  -- the variable of an equation
  Equate : NameId → TreeStep
  -- the term of the equation is whole
  Define : TreeStep

-- the label over so many kids, unless they are too many to be counted, or aren't two at a dot
abbrev pub label_over : Head → ℕ → Option Label
label_over (head.Name name) count = if nat_lt count (2 ^ 32) then Some (label.Name name count) else None
label_over head.Tuple count = if nat_lt count (2 ^ 32) then Some (label.Tup count) else None
label_over head.Dot count = if count == 2 then Some label.Dot else None

-- how many terms are before the first kid
abbrev pub terms_before : Head → ℕ → ℕ
terms_before head.Dot count = count - 1
terms_before _ count = count

-- the variable with the first number
abbrev pub no_variable : NameId
no_variable = record { 0 = 0 }

-- what has been written so far: terms, of which the first is the tree's; the heads that are open, the last first, with the number of
-- terms before its kids; the variable of the last equation; equations; and whether a variable got a second one
pub record Writing : Type 0 where
  pub terms : List Side
  pub heads : List (Head × ℕ)
  pub left : Option NameId
  pub equations : List Equation
  pub twice : Bool

abbrev pub nothing_written : Writing
nothing_written = record { terms = []; heads = []; left = None; equations = []; twice = false }

-- the variable has an equation
abbrev pub has_equation : List Equation → NameId → Bool
has_equation equations x = list_any (λ e. same_variable x e.variable) equations

-- the kids under a label take the places of one term; without a label they stay
abbrev pub written_over : Option Label → ℕ → List Side → List Side
written_over None count terms = terms
written_over (Some l) count terms = take count terms ++ labelled l (side_row (drop count terms)) ∷ []

-- the last open head is closed
abbrev pub closed_writing : Writing → List (Head × ℕ) → Writing
closed_writing w [] = w
closed_writing w (last ∷ heads) = record w { terms = written_over (label_over last.0 (length (drop last.1 w.terms))) last.1 w.terms; heads = heads }

-- the equations with one more; a variable is equal to no variable, and has one equation
abbrev pub with_equation : Option NameId → Side → List Equation → List Equation
with_equation (Some x) (labelled l sides) equations = if has_equation equations x then equations else equations ++ record { variable = x; side = labelled l sides } ∷ []
with_equation _ _ equations = equations

-- the last term is that of the equation
abbrev pub defined_writing : Writing → Option Side → Writing
defined_writing w None = w
defined_writing w (Some last) = record w { terms = take (length w.terms - 1) w.terms; equations = with_equation w.left last w.equations }

-- what a step writes
abbrev pub writes : Writing → TreeStep → Writing
writes w (Variable x) = record w { terms = w.terms ++ variable x ∷ [] }
writes w (Leaf l) = record w { terms = w.terms ++ labelled l (side_row []) ∷ [] }
writes w (Open h) = record w { heads = (h, terms_before h (length w.terms)) ∷ w.heads }
writes w Close = closed_writing w w.heads
writes w (Equate x) = record w { left = Some x; twice = w.twice || has_equation w.equations x }
writes w Define = defined_writing w (slice_get w.terms (length w.terms - 1))

-- what steps write, one after the other
abbrev pub writes_all : Writing → List TreeStep → Writing
writes_all w [] = w
writes_all w (step ∷ steps) = writes_all (writes w step) steps

-- the system that is written; where there is no term, the variable with the first number takes its place
abbrev pub system_of : Writing → EquationSystem
system_of w = record { side = slice_index_or w.terms 0 (variable no_variable); equations = w.equations }
