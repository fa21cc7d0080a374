-- What the crates above may use of watchers and lines: the one module for them.
pub use Rattle.mars_watch.proofs.Lists.{each-length, each-at, each-from, each-weaker, each-push, ascending-size, ascending-push, ascending-wider, ascending-low, ascending-rises, without-ascends, without-all, without-here, without-later, drop-first, drop-rest, contains-none, contains-cases, contains-later, contains-first, not-before, each-without}
pub use Rattle.mars_watch.proofs.Later.{line-same, line-twice, later-same, later-change, later-with, later-kept, later-then, front-take, undone-in-step, undone-change}
pub use Rattle.mars_watch.proofs.Touching.{items-contain, watches-stay, bound-or-not, rising-apart, rising-sorted, not-there, cut-cut}
