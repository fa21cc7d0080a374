-- Laws: worked rows, and the terms of which they are made.
pub mod RowTerms
pub mod DerivationRows
pub mod CutRows
pub mod CyclicRows
