-- Promised: graphs that have no node too many.
pub mod Minimal
