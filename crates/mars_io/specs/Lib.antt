-- Promised: what contracts of this crate and of others cite.
pub mod Memory
pub mod Sink
pub mod Source
pub mod Whole
