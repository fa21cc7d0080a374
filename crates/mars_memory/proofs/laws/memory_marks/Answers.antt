use Rattle.mars_memory.proofs.Marks.{memory_mark_kept, later_memory_follows}
use Rattle.mars_memory.proofs.laws.memory_marks.Goals as goal

pub returns-clause-kept : goal.returns-clause-kept
returns-clause-kept c = memory_mark_kept

pub returns-clause-follows : goal.returns-clause-follows
returns-clause-follows c = later_memory_follows
