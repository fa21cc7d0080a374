-- Promised: what derivations are, from the trees of terms to the end of an ask.
pub mod Subjects
pub mod Equations
pub mod Alternatives
pub mod Children
pub mod BuiltIns
pub mod Steps
pub mod Asks
pub mod TermAnswers
pub mod Machines
-- Laws: each step, each run and each end is one.
pub mod StepLaws
pub mod RunLaws
pub mod TellingLaws
