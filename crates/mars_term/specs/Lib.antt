-- Promised: the parts of terms, when rules and asks are well formed, and when terms, goals, rules and asks are equal.
pub mod ClauseEquality
pub mod Clauses
pub mod Parts
pub mod TermEquality
-- Laws: what the parts of a term are, that the tests decide equality, and examples.
pub mod ClauseEqualityLaws
pub mod Examples
pub mod PartLaws
pub mod TermEqualityLaws
-- Inside: the code's own steps, promised to nobody.
pub mod Rows
