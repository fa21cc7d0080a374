use Rattle.std.proofs.Common.{◌≡◌, length}
use Rattle.mars_grammar.specs.MachineInside.{closed}
use Rattle.mars_grammar.proofs.machine.close.Given as goal

abbrev pub invariant-loop-symbol : goal.invariant-loop-symbol
invariant-loop-symbol g l = closed g.G.Grammar.table g.B.Builder.build l.mode l.fn.due (g.B.Builder.view l.fn.builder)
    ≡ closed g.G.Grammar.table g.B.Builder.build l.mode l.due (g.B.Builder.view l.builder)

abbrev pub decreases-loop-symbol : goal.decreases-loop-symbol
decreases-loop-symbol g l = length l.due
