use Rattle.std.proofs.Common.{ℕ, [], ◌∷◌, ◌++◌, ◌+◌, sym, ap, ◌∙◌, arith, append_assoc}
use Rattle.std.specs.List.{range_with_len}
use Rattle.mars_rows.proofs.FreshRows.{range_more}
use Rattle.mars_rows.proofs.stock.push_next.Goals as goal

pub push_reserved-requires : goal.push_reserved-requires
push_reserved-requires c = let i = c.loop-k.invariant in omega (arith, i.size, i.room, c.loop-k-test.true)

pub loop-k-preserved : goal.loop-k-preserved
loop-k-preserved c =
    let i = c.loop-k.invariant in
    let k : ℕ = c.loop-k.k in
    let e = c.push_reserved.ensures in
    record {
      items = e.items ∙ ap (λ xs. xs ++ (c.args.next + k) ∷ []) i.items ∙ append_assoc c.args.numbers.now.items (range_with_len c.args.next k) ((c.args.next + k) ∷ [])
          ∙ ap (λ xs. c.args.numbers.now.items ++ xs) (sym (range_more c.args.next k));
      size = omega (arith, e.len, i.size);
      room = omega (arith, e.capacity, i.room);
    }
