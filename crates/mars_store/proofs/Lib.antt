pub mod CallerLemmas
mod Celled
mod Found
mod Growing
mod Links
mod Marks
mod Plain
mod Registered
mod Roots
mod Shown
mod Solving
mod Stored
