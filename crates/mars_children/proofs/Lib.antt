pub mod Deciding
pub mod Existing
pub mod Offspring
