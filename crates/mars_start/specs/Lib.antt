-- Promised: when an ask begins in a store.
pub mod Started
-- Inside: the code's own steps, promised to nobody.
pub mod LoadingInside
pub mod WritingInside
