use Rattle.mars_store.proofs.Marks.{mark_made, mark_kept, marks_nested}
use Rattle.mars_store.proofs.laws.marks_nest.Goals as goal

pub returns : goal.returns
returns c = record { made = mark_made; kept = mark_kept; nest = marks_nested }
