-- Promised: when a call is denoted by a system.
pub mod ChildrenLaws
-- Laws: what is decided, and what can be written.
pub mod DecidingLaws
pub mod ExistingLaws
