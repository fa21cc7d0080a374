use Rattle.std.proofs.Common.{◌≡◌, map}
use Rattle.std.specs.List.{range_with_len}
use Rattle.mars_comp.specs.Components.{component_of}
use Rattle.mars_rows.proofs.heads.numbered.Given as goal

abbrev pub invariant-loop-node : goal.invariant-loop-node
invariant-loop-node l = l.pairs.items ≡ map (λ n. (component_of l.parts n, n)) (range_with_len 0 l.node)
