-- Promised: goal lists, and choice points.
pub mod GoalLists
pub mod Points
-- Inside: the code's own steps, promised to nobody.
pub mod CellsInside
