pub mod WellFormedLemmas
mod SizeLemmas
mod SessionLemmas
