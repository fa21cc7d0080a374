mod Told
mod NameFacts
mod Refusals
mod Counting
mod Readings
mod TreeTerms
mod TreesMade
mod InputsMade
mod GoalsClosed
mod OneReading
mod OneInput
mod GoalsMade
pub mod MoreNameFacts
pub mod PutTrees
