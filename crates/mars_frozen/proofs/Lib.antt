pub mod CallerLemmas
pub mod Filing
pub mod Marks
pub mod Wakes
