use Rattle.std.proofs.Common.{◌≡◌, take}
use Rattle.mars_clauses.proofs.variables.VariableList.to_names.Given as goal

-- so many names were copied
abbrev pub invariant-loop-place : goal.invariant-loop-place
invariant-loop-place l = l.names ≡ take l.place l.self
