-- For the program's own functions.
pub mod Keepers
