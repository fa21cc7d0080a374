use Rattle.std.proofs.Common.{◌∙◌, ap, sym, map}
use Rattle.std.proofs.lemmas.List.{take-map}
use Rattle.mars_goals.specs.CellsInside.{cell_of}
use Rattle.mars_goals.proofs.cells.truncate_narrow.Goals as goal

pub returns : goal.returns
returns c = ap (map cell_of) c.truncate.ensures.items ∙ sym (take-map cell_of c.args.len c.args.all.now.items)
