use Rattle.std.proofs.Common.{take}
use Rattle.mars_rules.specs.PlacesInside.{AreFiledPlaces}
use Rattle.mars_rules.proofs.places.file_places.Given as goal

-- the places before this one are filed
abbrev pub invariant-loop-place : goal.invariant-loop-place
invariant-loop-place l = AreFiledPlaces (take l.place l.keys) l.filed.entries
