-- Promised: the number of a term.
pub mod Number
-- Laws: a term has one number at most, and operations have built-in names.
pub mod NumberLaws
-- Inside: the code's own steps, promised to nobody.
pub mod NumberInside
