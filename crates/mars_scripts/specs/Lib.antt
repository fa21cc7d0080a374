-- Promised: what the events of an input say, and the trees that it writes.
pub mod Trees
pub mod Scripts
-- Laws: what is told is well formed, and small.
pub mod WellFormed
pub mod Sizes
-- Inside: the code's maker, as the definitions see it.
pub mod Told
