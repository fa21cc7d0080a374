use Rattle.std.proofs.Common.{◌≡◌, length}
use Rattle.mars_grammar.specs.MachineInside.{token_step}
use Rattle.mars_grammar.proofs.machine.advance.Given as goal

abbrev pub invariant-loop-symbol : goal.invariant-loop-symbol
invariant-loop-symbol g l = token_step g.G.Grammar.table g.B.Builder.build l.token l.mode l.fn.due (g.B.Builder.view l.fn.builder)
    ≡ token_step g.G.Grammar.table g.B.Builder.build l.token l.mode l.due (g.B.Builder.view l.builder)

abbrev pub decreases-loop-symbol : goal.decreases-loop-symbol
decreases-loop-symbol g l = length l.due
