-- What the crates above may use of frozen pairs: the one module for them.
pub use Rattle.mars_frozen.proofs.Marks.{mark_made, mark_kept, marks_nest, later_follows, later-all}
pub use Rattle.mars_frozen.proofs.Wakes.{frozen_starts, frozen_adds, frozen_grows, woken_once}
