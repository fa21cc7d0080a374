use Rattle.mars_frozen.proofs.Marks.{mark_made, mark_kept, marks_nest, later_follows}
use Rattle.mars_frozen.proofs.laws.frozen_marks.Goals as goal

pub returns-clause-made : goal.returns-clause-made
returns-clause-made c = mark_made

pub returns-clause-kept : goal.returns-clause-kept
returns-clause-kept c = mark_kept

pub returns-clause-nest : goal.returns-clause-nest
returns-clause-nest c = marks_nest

pub returns-clause-follows : goal.returns-clause-follows
returns-clause-follows c = later_follows
