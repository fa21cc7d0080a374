-- Promised: what roots reach, in which order, and the part that it makes.
pub mod Order
pub mod Part
pub mod Reach
-- Promised to the crates above: graphs under other numbers.
pub mod Image
