-- What the crates above may use of the keeper of inequations: the one module for them.
pub use Rattle.mars_dif.proofs.Lasting.{keeper_starts, keeper_current, keeper_grows, mark_made, mark_kept, marks_nested, after-then, after-same}
pub use Rattle.mars_dif.proofs.Serving.{serves-added, serves-rechecked, serves-extended}
