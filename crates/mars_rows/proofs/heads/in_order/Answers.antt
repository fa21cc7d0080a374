use Rattle.std.proofs.Common.{subst}
use Rattle.std.specs.List.Sorted.{IsPermutation}
use Rattle.mars_rows.proofs.HeadOrder.{sorted_pairs}
use Rattle.mars_rows.proofs.heads.in_order.Goals as goal

pub returns : goal.returns
returns c =
    sorted_pairs c.args.parts.now c.sort.new.self.items (subst (λ xs. IsPermutation xs c.sort.new.self.items) c.in_ok-pairs.ensures c.sort.ensures.permutation) c.in_ok-sort.ensures.sorted
