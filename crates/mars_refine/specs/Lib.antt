-- Promised: classes of nodes, and that they are trees (`AreTrees`).
pub mod Classes
pub mod Refine
-- Inside: the code's own steps, promised to nobody.
pub mod Chains
pub mod ClassesInside
pub mod Edges
pub mod Marks
pub mod Writes
