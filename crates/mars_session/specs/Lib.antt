-- Promised: lines, what commands do, the events of a session, and the session alone.
pub mod Lines
pub mod SessionPoints
pub mod CommandActs
pub mod AskEvents
pub mod SessionEvents
pub mod SessionAlone
-- Promised: whole runs, the world, and its schedules.
pub mod WholeRuns
pub mod Worlds
-- Promised: what callers see of a session, its events over a door, and sessions over several doors.
pub mod SessionSeen
pub mod DoorEvents
pub mod Together
-- Laws, and worked rows.
pub mod SessionLaws
pub mod WorldLaws
pub mod DoorLaws
pub mod SessionRows
-- Inside: the code's own steps, promised to nobody.
pub mod LinesInside
pub mod WishesInside
pub mod ActsInside
pub mod AskingInside
pub mod NextInside
pub mod SessionInside
pub mod TextSeen
pub mod TextInside
