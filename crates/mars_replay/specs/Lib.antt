-- Promised: a world as callers see it, its events, and what its run gives.
pub mod WorldSeen
pub mod WorldRuns
-- Promised: laws of worlds.
pub mod WorldEventLaws
-- Inside: what a world keeps, promised to nobody.
pub mod WorldInside
