-- Promised: what a grammar is, which texts it has, and where a text is refused.
pub mod FormTable
pub mod Rows
pub mod Testing
pub mod Building
pub mod Refusing
-- Inside: the machine's own steps, and how it keeps what is due, promised to nobody.
pub mod DueInside
pub mod MachineInside
