pub mod Blocks
pub mod Implied
pub mod Kids
pub mod Lists
pub mod Meetings
pub mod Solving
