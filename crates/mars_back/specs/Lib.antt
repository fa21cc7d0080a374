-- Promised: what a text writes, where it can be read, and the law of reading back.
pub mod Written
pub mod ReadBack
pub mod OneMeaning
-- Inside: a text in its smallest parts, promised to nobody.
pub mod PartsInside
