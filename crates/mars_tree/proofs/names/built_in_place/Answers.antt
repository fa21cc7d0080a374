use Rattle.mars_tree.specs.Names.{built_in_names}
use Rattle.mars_tree.proofs.names.built_in_place.Goals as goal

pub returns : goal.returns
unfolding built_in_names
returns c = c.place_in.ensures
