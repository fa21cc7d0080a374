use Rattle.std.proofs.Common.{◌≡◌, ℕ, ◌+◌, List, length, map, Some, None, ap, sym, ◌∙◌, arith, rules, [], ◌∷◌, ◌++◌}
use Rattle.std.specs.List.{range_with_len}
use Rattle.mars_rows.specs.Finding.{find_row}
use Rattle.mars_rows.specs.Object.{row_number}
use Rattle.mars_rows.specs.Rows.{Row}
use Rattle.mars_rows.specs.RowsInside.{rows_of}
use Rattle.mars_rows.proofs.FreshRows.{numbers_more, number_some, number_none, fresh_some, fresh_none, length-fresh}
use Rattle.mars_rows.proofs.Grown.{fresh_within}
use Rattle.mars_rows.proofs.growth.places_of.Goals as goal
use Rattle.mars_rows.proofs.growth.places_of.Goals.{in-Some+in_ok-push-in-Some, in-None+in_ok-push-in-None+in_ok-push-in-None-2}

pub overflow_add-len : goal.overflow_add-len
overflow_add-len c =
    let rows : List Row = rows_of c.args.stock.now.nodes in
    let tree = c.args.tree.now in
    let size : c.len-in-None.result ≡ length c.loop-node.fresh.items = search rules in
    let node = c.loop-node.node in
    omega (arith, c.len.ensures.len, size, ap length c.loop-node.invariant.fresh, length-fresh rows (length c.args.stock.now.nodes) tree node, fresh_within rows tree node, c.requires.room)

pub loop-node-preserved : goal.loop-node-preserved
loop-node-preserved c =
    let g = c.args.stock.now.nodes in
    let rows : List Row = rows_of g in
    let next : ℕ = length g in
    let tree = c.args.tree.now in
    let node = c.loop-node.node in
    let i = c.loop-node.invariant in
    elim c.match-row_place.branch [
      | in-Some+in_ok-push-in-Some w ↦
          let found : find_row rows tree node ≡ Some w.in-Some.row = sym c.row_place.ensures ∙ w.in-Some.is in
          record {
            numbers = ap (λ v. v.items) w.numbers-is ∙ w.in_ok-push-in-Some.ensures.items ∙ ap (λ xs. xs ++ w.in-Some.row ∷ []) i.numbers
                ∙ ap (λ k. map (row_number rows next tree) (range_with_len 0 node) ++ k ∷ []) (sym (number_some rows next tree node w.in-Some.row found)) ∙ sym (numbers_more rows next tree node);
            fresh = ap (λ v. v.items) w.fresh-is ∙ i.fresh ∙ sym (fresh_some rows next tree node w.in-Some.row found);
          }
      | in-None+in_ok-push-in-None+in_ok-push-in-None-2 w ↦
          let found : find_row rows tree node ≡ None = sym c.row_place.ensures ∙ w.in-None.is in
          let size : w.len-in-None.result ≡ length c.loop-node.fresh.items = search rules in
          let number : w.len.result + w.len-in-None.result ≡ row_number rows next tree node =
          omega (arith, w.len.ensures.len, size, ap length i.fresh, length-fresh rows next tree node, number_none rows next tree node found) in
          record {
            numbers = ap (λ v. v.items) w.numbers-is ∙ w.in_ok-push-in-None.ensures.items ∙ ap (λ xs. xs ++ (w.len.result + w.len-in-None.result) ∷ []) i.numbers
                ∙ ap (λ k. map (row_number rows next tree) (range_with_len 0 node) ++ k ∷ []) number ∙ sym (numbers_more rows next tree node);
            fresh = ap (λ v. v.items) w.fresh-is ∙ w.in_ok-push-in-None-2.ensures.items ∙ ap (λ xs. xs ++ node ∷ []) i.fresh ∙ sym (fresh_none rows next tree node found);
          }
    ]
