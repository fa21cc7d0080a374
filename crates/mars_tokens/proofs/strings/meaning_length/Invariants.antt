use Rattle.std.proofs.Common.{◌≡◌, ◌+◌, ◌≤◌, drop, false, length}
use Rattle.mars_tokens.specs.Strings.{unescaped}
use Rattle.mars_tokens.proofs.strings.meaning_length.Given as goal

abbrev pub invariant-loop-b : goal.invariant-loop-b
invariant-loop-b l = (l.n ≤ l.b-index) × (l.n + length (unescaped l.escaped (drop l.b-index l.inside)) ≡ length (unescaped false l.inside))
