use Rattle.std.proofs.Common.{◌≡◌, get_or}
use Rattle.mars_store.specs.System.{resolve}
use Rattle.mars_val.specs.NumberInside.{IsWork, work_left}
use Rattle.mars_val.proofs.evaluation.eval_path.Given as goal

-- the work is that of the node
abbrev pub invariant-loop-work : goal.invariant-loop-work
invariant-loop-work l = record {
  work : IsWork l.store l.work.terms l.work.values.items l.work.path.items;
  first : get_or l.work.terms 0 0 ≡ resolve l.store.bound l.fn.node;
}

abbrev pub decreases-loop-work : goal.decreases-loop-work
decreases-loop-work l = work_left l.store l.work.terms l.work.path.items
