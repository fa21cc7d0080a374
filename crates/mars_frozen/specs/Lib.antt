-- Promised: which pairs wake, and what a keeper of frozen pairs has.
pub mod Freezing
-- Laws: how long a keeper can be used, and its marks.
pub mod FreezingLaws
-- Inside: the code's own steps, promised to nobody.
pub mod FrozenInside
