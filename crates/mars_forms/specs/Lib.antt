-- Promised: the grammar, and that it is LL(1).
pub mod Table
pub mod TableTest
