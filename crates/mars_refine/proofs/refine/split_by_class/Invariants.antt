use Rattle.std.proofs.Common.{drop}
use Rattle.mars_refine.proofs.Splitting.{IsParting}
use Rattle.mars_refine.proofs.refine.split_by_class.Given as goal

abbrev pub invariant-loop-entry : goal.invariant-loop-entry
invariant-loop-entry l = IsParting l.graph l.initial.classes l.classes l.class (drop l.entry l.found.edges.items)
