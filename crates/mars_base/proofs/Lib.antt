pub mod Deciding
pub mod ListFacts
