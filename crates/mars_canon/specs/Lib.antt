-- Promised: canonical graphs with their roots, and trees; both shown on small graphs.
pub mod Canon
pub mod Tree
pub mod Examples
-- Laws: equal exactly where the trees are the same, and equal ones hash alike.
pub mod Laws
pub mod CanonLaws
-- Inside: the code's own steps, promised to nobody.
pub mod CanonInside
pub mod TreeInside
