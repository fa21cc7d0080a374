-- Promised: systems, their solutions, and what they force and imply.
pub mod Solutions
pub mod System
pub mod Valuation
-- Laws: what holds of all solutions, while a system grows, and of marks.
pub mod Growing
pub mod Laws
pub mod Marks
pub mod Shown
-- Inside: the code's own steps, promised to nobody.
pub mod CellsInside
pub mod LinksInside
pub mod RegistersInside
