use Rattle.std.proofs.Common.{◌≡◌, drop}
use Rattle.mars_session.specs.SessionPoints.{named_trees}
use Rattle.mars_session.proofs.Trees.{after_trees}
use Rattle.mars_session.proofs.maps.kept_trees.Given as goal

-- the trees so far, before those of the names that are left
abbrev pub invariant-loop-name : goal.invariant-loop-name
invariant-loop-name l = named_trees l.names l.kept ≡ after_trees l.trees.items (named_trees l.names (drop l.name-index l.kept))
