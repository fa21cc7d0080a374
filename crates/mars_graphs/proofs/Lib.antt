pub mod Building
pub mod Makes
pub mod Passes
pub mod Sizes
pub mod Standing
pub mod Telling
pub mod Trees
pub mod Zips
