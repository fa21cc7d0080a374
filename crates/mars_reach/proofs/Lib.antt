pub mod CallerLemmas
pub mod Flat
pub mod Images
pub mod Numbers
pub mod Ordering
pub mod Parts
pub mod Queues
pub mod Walked
