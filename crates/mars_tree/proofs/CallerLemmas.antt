-- What proofs of the crates above cite of trees: paths and walks, sameness, numbers in order, canonical graphs, nodes
-- in flat lists.
pub use Rattle.mars_tree.proofs.Pigeonhole.{Twice, pigeonhole}
pub use Rattle.mars_tree.proofs.Graphs.{node_in}
pub use Rattle.mars_tree.proofs.Paths.{label_from_stands, stands_from_label, kids_from_label, label_in, kid_in, end_in, graph_is_finite}
pub use Rattle.mars_tree.proofs.Walks.{walk-append, walk-push, walk_in, IsBisimulation, same_from_bisimulation, both_from_length, at_both, IsFinite, short, same_from_short}
pub use Rattle.mars_tree.proofs.Numbering.{known_with_cases, known_after_bounds}
pub use Rattle.mars_tree.proofs.Unique.{known_first, roots_in, walk_end-push, one_from_same_roots, one_from_same_walks}
pub use Rattle.mars_tree.proofs.Equal.{all_kids-nodes, tested_nodes}
pub use Rattle.mars_tree.proofs.Laid.{length-nodes, laid_graph, laid-push, laid_like, kids_within, starts-push, starts-length, seen-length, seen-label, seen-arity, seen-start, seen-within, seen-kid, seen-push}
