use Rattle.std.proofs.Common.{◌≡◌, replicate}
use Rattle.mars_tree.specs.Graph.{free_leaf}
use Rattle.mars_rules.proofs.laying.lay_vars.Given as goal

-- so many variables have their leaves
abbrev pub invariant-loop : goal.invariant-loop
invariant-loop l = l.nodes ≡ replicate l.counter free_leaf
