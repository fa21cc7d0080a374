use Rattle.std.proofs.Common.{◌≡◌, vec_len}
use Rattle.mars_term.specs.Rows.{dots}
use Rattle.mars_term.proofs.copying.join_dots.Given as goal

-- the row of what is left and of the last one is the whole row
abbrev pub invariant-loop-first : goal.invariant-loop-first
invariant-loop-first l = dots l.firsts.items l.last ≡ dots l.initial.firsts.items l.initial.last

abbrev pub decreases-loop-first : goal.decreases-loop-first
decreases-loop-first l = vec_len l.firsts
