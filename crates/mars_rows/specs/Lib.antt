-- Promised: rows, the table object and its laws.
pub mod Rows
pub mod Finding
pub mod Object
pub mod Sound
pub mod RowsObject
pub mod TreeGraph
-- Laws: each is the contract of a function of src/laws.rt.
pub mod TableLaws
pub mod SoundLaws
pub mod Lasting
pub mod Met
pub mod Examples
-- Inside: the code's own steps, promised to nobody.
pub mod FreshInside
pub mod HeadsInside
pub mod IndexInside
pub mod RowsInside
pub mod StockInside
pub mod StoreInside
