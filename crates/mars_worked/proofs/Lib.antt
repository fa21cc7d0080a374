pub mod Rows
pub mod CutRows
pub mod CyclicRows
