-- Promised: what contracts see of a pass of a book, which passes are a book's, and what a call makes of a pass.
pub mod PassSeen
pub mod Books
pub mod BookCalls
pub mod Stays
-- Inside: how a pass's fields are seen.
pub mod PassInside
