-- Inside: what choice points have left, which state a machine is at, and what its parts find. What a machine promises is
-- said by the steps of derivations alone.
pub mod Choices
pub mod States
pub mod Searching
pub mod Stepping
pub mod Reached
pub mod Asking
