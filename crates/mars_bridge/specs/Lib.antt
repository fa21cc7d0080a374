-- Promised: when a system represents equations, and a node denotes a term.
pub mod Represents
pub mod Scoped
-- Laws: what is so carried over.
pub mod BridgeLaws
pub mod WakingLaws
pub mod TermLaws
pub mod MatchedLaws
pub mod AnsweredLaws
pub mod BuildingLaws
