-- Promised: which lists of words are accepted, and what they say.
pub mod Given
pub mod Words
pub mod Written
-- Laws: examples.
pub mod Examples
-- Inside: the code's own steps, promised to nobody.
pub mod KindsInside
pub mod StepsInside
pub mod WordsInside
