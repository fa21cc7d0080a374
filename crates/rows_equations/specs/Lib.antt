-- Inside: what the rows' own proofs speak of, promised to nobody.
pub mod LastsInside
