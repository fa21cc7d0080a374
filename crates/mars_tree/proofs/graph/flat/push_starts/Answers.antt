use Rattle.std.proofs.Common.{arith, ap, ◌∙◌, ◌+◌}
use Rattle.mars_tree.proofs.Laid.{starts_more, kids_within}
use Rattle.mars_tree.proofs.graph.flat.push_starts.Goals as goal

pub push_reserved-requires : goal.push_reserved-requires
push_reserved-requires c =
    let i = c.loop-k.invariant in
    omega (arith, i.count, i.room)

pub overflow_add-next : goal.overflow_add-next
overflow_add-next c =
    let i = c.loop-k.invariant in
    omega (arith, i.next, c.kid_places-next.ensures, kids_within c.args.labels.now c.loop-k.k, c.requires)

pub loop-k-preserved : goal.loop-k-preserved
loop-k-preserved c =
    let i = c.loop-k.invariant in
    let e = c.push_reserved.ensures in
    let more = starts_more c.args.labels.now c.args.into.now.items c.loop-k.into.items c.push_reserved.new.self.items c.args.start c.loop-k.k c.loop-k.next (omega arith) i.items i.next e.items in
    record {
      items = more.0;
      next = ap (λ n. c.loop-k.next + n) c.kid_places-next.ensures ∙ more.1;
      count = omega (arith, e.len, i.count);
      room = omega (arith, e.capacity, i.room);
    }
