use Rattle.std.proofs.Common.{◌≡◌, ◌++◌, List, ℕ, drop, false}
use Rattle.mars_tokens.specs.Strings.{unescaped}
use Rattle.mars_tokens.proofs.strings.push_meaning.Given as goal

abbrev pub invariant-loop-b : goal.invariant-loop-b
invariant-loop-b l = (some : List ℕ) × (l.into.items ≡ l.fn.into.items ++ some) × (some ++ unescaped l.escaped (drop l.b-index l.inside) ≡ unescaped false l.inside)
