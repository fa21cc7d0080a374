use Rattle.std.proofs.Common.{◌≡◌, length}
use Rattle.mars_grammar.specs.MachineInside.{state, token_run}
use Rattle.mars_grammar.proofs.machine.parse.Given as goal

abbrev pub invariant-loop-next : goal.invariant-loop-next
invariant-loop-next g l = token_run g.G.Grammar.table g.B.Builder.build l.tokens (state g.G.Grammar.table.free l.start (g.B.Builder.view l.fn.builder))
    ≡ token_run g.G.Grammar.table g.B.Builder.build l.rest (state l.mode l.due (g.B.Builder.view l.builder))

abbrev pub decreases-loop-next : goal.decreases-loop-next
decreases-loop-next g l = length l.rest
