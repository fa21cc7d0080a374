-- What the crates above may use of systems, marks and solutions: the one module for them.

-- the laws of this crate
pub use Rattle.mars_store.proofs.Plain.{plain_solves, plain_decides, new_names-new, free_unforced, difs_independent}
pub use Rattle.mars_store.proofs.Shown.{labels_shown, leaves_shown, same_shown}
pub use Rattle.mars_store.proofs.Marks.{mark_made, mark_kept, marks_nested, marks-push, marks-kept, marks-pop}
pub use Rattle.mars_store.proofs.Growing.{equation_solved, system-node, node_solved, node_last, node_continued, older_solved, larger_solved, trees_stay}
-- links and their ends
pub use Rattle.mars_store.proofs.Links.{leaf_node, resolve-unbound, resolve-same, resolve-last, resolve-inside, triangular-push, All-front, All-after}
pub use Rattle.mars_store.proofs.Stored.{not-itself}
pub use Rattle.mars_store.proofs.Shown.{end-inside}
-- systems that grow
pub use Rattle.mars_store.proofs.Marks.{grows-refl, grows-trans, grows-linked, grows-node, marks-push, marks-kept, marks-pop}
pub use Rattle.mars_store.proofs.Growing.{front-node}
-- labels of nodes
pub use Rattle.mars_store.proofs.Solving.{cases-label, same-label, name-of, label-within, last-labelled, at-labelled}
-- trees in a solution
pub use Rattle.mars_store.proofs.Solving.{plain-value, solution-last, solution-over}
pub use Rattle.mars_store.proofs.Growing.{over-same, older-value, restricted, agree-cut, agree-back, start-old, start-new, start-solves}
-- the node that a list has at a place
pub use Rattle.mars_store.proofs.Found.{found-is}
