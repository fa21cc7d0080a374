use Rattle.mars_store.proofs.Growing.{system-node, node_solved, node_last, node_continued}
use Rattle.mars_store.proofs.laws.node_solved.Goals as goal

pub returns : goal.returns
returns c = record { system = system-node; solved = node_solved; last = node_last; continued = node_continued }
