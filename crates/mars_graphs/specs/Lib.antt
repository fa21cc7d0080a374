-- Promised: what is written, what its solution is, and what is made.
pub mod Systems
pub mod Steps
pub mod Nodes
pub mod Making
-- Laws: the graph is the solution, and how large it is.
pub mod MakingLaws
-- Inside: the code's own steps, promised to nobody.
pub mod NodesInside
pub mod MakingInside
