use Rattle.std.proofs.Common.{vec_len}
use Rattle.mars_gate.specs.PassesInside.{Meeting}
use Rattle.mars_gate.proofs.passes.meet_all.Given as goal

abbrev pub invariant-loop-pass : goal.invariant-loop-pass
invariant-loop-pass l = Meeting l.fn.book l.fn.program l.fn.passes.items l.passes.items l.program

abbrev pub decreases-loop-pass : goal.decreases-loop-pass
decreases-loop-pass l = vec_len l.passes
