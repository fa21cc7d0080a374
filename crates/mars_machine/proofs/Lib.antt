pub mod Values
pub mod Steps
pub mod Runs
pub mod Ends
pub mod Telling
