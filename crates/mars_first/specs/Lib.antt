-- Promised: the key of a component from its first node.
pub mod First
-- Law: first keys tell trees.
pub mod FirstLaws
-- Inside: the code's own steps, promised to nobody.
pub mod ComponentInside
pub mod LinksInside
pub mod PlacesInside
pub mod StagesInside
