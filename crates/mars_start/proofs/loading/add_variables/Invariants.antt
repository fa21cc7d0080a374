use Rattle.std.proofs.Common.{◌≡◌, length}
use Rattle.std.specs.List.{range_with_len}
use Rattle.mars_start.specs.LoadingInside.{with_frees}
use Rattle.mars_start.proofs.loading.add_variables.Given as goal

-- so many variables were added
abbrev pub invariant-loop : goal.invariant-loop
invariant-loop l = record {
  store : l.store ≡ with_frees l.fn.store l.counter;
  nodes : l.nodes.items ≡ range_with_len (length l.fn.store.nodes) l.counter;
}
