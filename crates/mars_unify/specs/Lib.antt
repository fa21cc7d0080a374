-- Promised: what the answers yes and no say.
pub mod Unified
-- Inside: the code's own steps, promised to nobody.
pub mod MeetingInside
pub mod MetInside
