-- Promised: what the contract of the top call, and those of the calls below it, cite.
pub mod Words
pub mod Refusal
pub mod Ran
pub mod Top
pub mod Status
