use Rattle.std.proofs.Common.{◌≡◌, false, filter, nat_eq, length, slice_index_or, ap, ◌∙◌, arith}
use Rattle.std.specs.List.{list_any, range_with_len}
use Rattle.mars_rows.proofs.FreshRows.{in_range_of}
use Rattle.mars_rows.proofs.Keeping.{kept_alike}
use Rattle.mars_rows.proofs.marks.kept_nodes.Goals as goal

pub returns : goal.returns
returns c =
    let met = c.in_ok-met.met in
    let marks = c.in_ok-marked.marked.items in
    let size : length c.deref.result.now ≡ length c.args.nodes.now = ap length c.deref.ensures.value ∙ c.in_ok-marked.ensures.size ∙ c.len.ensures.len in
    record {
      met = met;
      reach = c.in_ok-met.ensures.reach;
      roots_in = c.in_ok-met.ensures.roots_in;
      closed = c.in_ok-met.ensures.closed;
      is = c.in_ok-order.ensures ∙ ap (λ n. filter (λ n. slice_index_or c.deref.result.now n false) (range_with_len 0 n)) size
          ∙ ap (λ xs. filter (λ n. slice_index_or xs n false) (range_with_len 0 (length c.args.nodes.now))) c.deref.ensures.value
          ∙ kept_alike (λ n. slice_index_or marks n false) (λ n. list_any (nat_eq n) met) (range_with_len 0 (length c.args.nodes.now)) (λ k n e.
          c.in_ok-marked.ensures.each n (omega (arith, c.len.ensures.len, in_range_of 0 (length c.args.nodes.now) k n e)));
    }
