-- Promised: what tokens mean, what a maker is told. Not promised: how names are kept.
pub mod NameLists
pub mod MoreNamesInside
pub mod Spellings
pub mod Spelled
pub mod Refused
pub mod ReadTree
pub mod ReadInput
pub mod ReadGoals
