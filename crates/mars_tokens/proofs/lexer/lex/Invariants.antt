use Rattle.std.proofs.Common.{length, ◌-◌}
use Rattle.mars_tokens.proofs.Reading.{ReadTo}
use Rattle.mars_tokens.proofs.lexer.lex.Given as goal

abbrev pub invariant-loop-at : goal.invariant-loop-at
invariant-loop-at l = ReadTo l.two l.bytes l.lexemes.items l.at l.depth

abbrev pub decreases-loop-at : goal.decreases-loop-at
decreases-loop-at l = length l.bytes - l.at
