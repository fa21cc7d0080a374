-- How long a store can be undone to a mark, and marks within each other.
use Rattle.std.specs.Prelude.{◌≡◌, ℕ, ◌<◌, ◌≤◌, List, length, slice_index_or, All}
use Rattle.mars_store.specs.declared.mark.Mark.{Mark}
use Rattle.mars_store.specs.System.{System, IsSystem, IsMark, Grows, mark_of, undone}

-- the inner mark tells no smaller sizes than the outer one
pub record IsWithin (outer inner : Mark) : Type 0 where
  pub nodes : outer.nodes ≤ inner.nodes
  pub bound : outer.bound ≤ inner.bound

-- a store can be undone to the mark of its present state, and is then as it is
abbrev pub MarkMade : Type 0
MarkMade = (system : System) → IsSystem system → IsMark system (mark_of system) × (undone system (mark_of system) ≡ system)

-- a mark leads to the same state after nodes and equations were added
abbrev pub MarkKept : Type 0
MarkKept = (old new : System) (mark : Mark) → Grows old new → IsMark old mark → IsMark new mark × (undone new mark ≡ undone old mark)

-- a mark leads to the same state after the store was undone to a mark within it
abbrev pub MarksNest : Type 0
MarksNest = (system : System) (outer inner : Mark) → IsMark system outer → IsMark system inner → IsWithin outer inner
    → IsMark (undone system inner) outer × (undone (undone system inner) outer ≡ undone system outer)

-- marks of one store, each within those before it: it can be undone to the last, then to the one before it, and so on
pub record AreMarks (system : System) (marks : List Mark) : Type 0 where
  pub made : All (IsMark system) marks
  pub nested : (i j : ℕ) (d : Mark) → i ≤ j → j < length marks → IsWithin (slice_index_or marks i d) (slice_index_or marks j d)
