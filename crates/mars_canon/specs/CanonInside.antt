-- What the fields of `Canon` hold.
use Rattle.mars_canon.specs.declared.rooted.Canon.TheInside.{Inside}
use Rattle.mars_canon.specs.Canon.{Rooted, IsCanon}

-- what contracts see of the fields
abbrev pub rooted_of : Inside → Rooted
rooted_of c = record { nodes = c.graph; roots = c.roots }

-- what holds of the fields
abbrev pub HoldsCanon : Inside → Type 0
HoldsCanon c = IsCanon (rooted_of c)
