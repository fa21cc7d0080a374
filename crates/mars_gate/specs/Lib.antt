-- Promised: what an event makes of a job, how a history ends, sessions as jobs, and what they give.
pub mod Jobs
pub mod Closing
pub mod SessionJobs
pub mod CutRuns
-- Inside: the code's own steps, promised to nobody.
pub mod ClosingInside
pub mod PassesInside
pub mod WorkersInside
