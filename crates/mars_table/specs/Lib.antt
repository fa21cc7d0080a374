-- Promised: what the calls of the table reply, histories, and doors.
pub mod Calls
pub mod History
pub mod TableSeen
pub mod Door
-- Laws: what legal histories mean.
pub mod HistoryLaws
-- Inside: the code's own steps, promised to nobody.
pub mod TableInside
