use Rattle.mars_refine.specs.contracts.marks.NodeLabelPartialEq.TheImpl.{eq-value}
use Rattle.mars_refine.proofs.Numbers.{IsNumbered}
use Rattle.mars_refine.proofs.marks.numbers.Given as goal

abbrev pub invariant-loop-node : goal.invariant-loop-node
invariant-loop-node l = IsNumbered eq-value.it l.graph l.node l.marks.keys l.numbers.items
