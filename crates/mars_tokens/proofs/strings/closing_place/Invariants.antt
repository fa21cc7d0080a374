use Rattle.std.proofs.Common.{◌≡◌, drop, false}
use Rattle.mars_tokens.specs.PiecesInside.{closing_place}
use Rattle.mars_tokens.proofs.strings.closing_place.Given as goal

abbrev pub invariant-loop-b : goal.invariant-loop-b
invariant-loop-b l = (l.n ≡ l.b-index) × (closing_place l.n l.escaped (drop l.b-index l.bytes) ≡ closing_place 0 false l.bytes)
