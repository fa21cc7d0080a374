use Rattle.std.proofs.Common.{refl}
use Rattle.mars_tree.specs.Names.{built_in_names}
use Rattle.mars_val.proofs.laws.operations_are_built_in.Goals as goal

pub returns : goal.returns
unfolding built_in_names
returns c = record { add = refl; sub = refl; mul = refl; div = refl; mod_is = refl }
