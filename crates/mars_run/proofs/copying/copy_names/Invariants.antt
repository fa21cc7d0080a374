use Rattle.std.proofs.Common.{◌≡◌, take}
use Rattle.mars_run.proofs.copying.copy_names.Given as goal

-- so many names were copied
abbrev pub invariant-loop-name : goal.invariant-loop-name
invariant-loop-name l = l.copy ≡ take l.name-index l.names
