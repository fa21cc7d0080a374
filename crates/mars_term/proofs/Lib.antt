pub mod RowLemmas
pub mod HashLemmas
pub mod PartLemmas
pub mod SameLemmas
