-- What the fields of a maker of graphs hold.
use Rattle.std.specs.Prelude.{reverse}
use Rattle.mars_graphs.specs.declared.maker.GraphMaker.TheInside.{Inside}
use Rattle.mars_graphs.specs.Making.{Making, IsMaking}

abbrev pub making_of : Inside → Making
making_of m = record { nodes = m.nodes; terms = m.terms.items; heads = reverse m.heads.items; left = m.left; twice = m.twice }

abbrev pub IsMakingInside : Inside → Type 0
IsMakingInside m = IsMaking (making_of m)
