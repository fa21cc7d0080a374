pub mod Due
pub mod Told
pub mod Complete
pub mod OneOrder
pub mod Texts
pub mod Runs
