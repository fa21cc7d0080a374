-- Promised: the memory of a machine as one, when it holds an alternative, and what its calls find.
pub mod Memory
pub mod Holding
pub mod Found
-- Laws: marks of a memory.
pub mod MemoryLaws
-- Inside: the code's own steps, promised to nobody.
pub mod BuiltInsInside
pub mod ListsInside
pub mod TakingInside
