use Rattle.std.proofs.Common.{◌≡◌, take}
use Rattle.std.specs.List.{flat_map, fold}
use Rattle.std.specs.Hash.{slice, u8}
use Rattle.mars_tree.proofs.names.equality.NamesHash.hash.Given as goal

abbrev pub invariant-loop-place : goal.invariant-loop-place
invariant-loop-place g l = l.state ≡ fold g.H.Hasher.write l.initial.state (flat_map (slice u8) (take l.place l.self))
