-- Promised: the limits of an input, and what rules and asks its events make.
pub mod Short
pub mod Limits
pub mod Terms
pub mod Lists
-- Laws: what is made is well formed.
pub mod WellFormed
-- Inside: how the code keeps a rule or an ask that is being read.
pub mod Made
