use Rattle.std.proofs.Common.{ℕ, ◌<◌, List, length, All, subst, sym, ap, ◌∙◌}
use Rattle.mars_rows.specs.IndexInside.{IsChosen, PutsNumbers}
use Rattle.mars_rows.specs.StockInside.{stock_rows}
use Rattle.mars_rows.proofs.LookedUp.{part_nodes, part_count, found_part, missed_part}
use Rattle.mars_rows.proofs.Stocked.{closed_stock, apart_stock}
use Rattle.mars_rows.proofs.index.look_up_part.Goals as goal

pub put_numbers-requires-clause-within : goal.put_numbers-requires-clause-within
put_numbers-requires-clause-within c =
    let q = c.requires in
    let g = c.args.stock.now.nodes in
    let ns = c.args.stock.now.numbers.items in
    let made = c.in_ok-made.made in
    let tree = c.args.tree.now in
    let parts = c.args.parts.now in
    let old = c.args.numbers.now.items in
    let chosen : IsChosen tree parts old c.args.head made.nodes.items made.key.items.items = subst (λ (xs : List ℕ). IsChosen tree parts xs c.args.head made.nodes.items made.key.items.items) c.deref.ensures.value c.in_ok-made.ensures in
    subst (All (λ n. n < length old)) (sym c.deref-in-Some.ensures.value)
    (subst (λ (k : ℕ). All (λ n. n < k) made.nodes.items) (sym q.size) (part_nodes (stock_rows g ns) (closed_stock g ns q.stock) (apart_stock g ns q.stock) tree q.tree parts q.parts c.args.head made.nodes.items old made.key.items.items chosen))

pub put_numbers-requires-clause-count : goal.put_numbers-requires-clause-count
put_numbers-requires-clause-count c =
    let q = c.requires in
    let g = c.args.stock.now.nodes in
    let ns = c.args.stock.now.numbers.items in
    let made = c.in_ok-made.made in
    let tree = c.args.tree.now in
    let parts = c.args.parts.now in
    let old = c.args.numbers.now.items in
    let chosen : IsChosen tree parts old c.args.head made.nodes.items made.key.items.items = subst (λ (xs : List ℕ). IsChosen tree parts xs c.args.head made.nodes.items made.key.items.items) c.deref.ensures.value c.in_ok-made.ensures in
    let entry = q.index.each made.key c.in-Some.rows.now (sym c.in-Some.ensures.value) in
    ap length c.deref-in-Some.ensures.value
    ∙ part_count (stock_rows g ns) (closed_stock g ns q.stock) (apart_stock g ns q.stock) tree q.tree parts q.parts c.args.head made.nodes.items c.in-Some.rows.now.items old made.key.items.items q.head_in q.kids chosen entry
    ∙ sym (ap length c.deref-in-Some-2.ensures.value)

pub returns-in-Some : goal.returns-in-Some
returns-in-Some c =
    let q = c.requires in
    let g = c.args.stock.now.nodes in
    let ns = c.args.stock.now.numbers.items in
    let made = c.in_ok-made.made in
    let tree = c.args.tree.now in
    let parts = c.args.parts.now in
    let old = c.args.numbers.now.items in
    let new = c.put_numbers.new.numbers.items in
    let rows = c.in-Some.rows.now.items in
    let chosen : IsChosen tree parts old c.args.head made.nodes.items made.key.items.items = subst (λ (xs : List ℕ). IsChosen tree parts xs c.args.head made.nodes.items made.key.items.items) c.deref.ensures.value c.in_ok-made.ensures in
    let entry = q.index.each made.key c.in-Some.rows.now (sym c.in-Some.ensures.value) in
    let put : PutsNumbers made.nodes.items rows (length made.nodes.items) old new =
    subst (λ (xs : List ℕ). PutsNumbers made.nodes.items xs (length made.nodes.items) old new) c.deref-in-Some-2.ensures.value
    (subst (λ (xs : List ℕ). PutsNumbers xs c.deref-in-Some-2.result.now (length xs) old new) c.deref-in-Some.ensures.value c.put_numbers.ensures) in
    found_part (stock_rows g ns) (closed_stock g ns q.stock) (apart_stock g ns q.stock) tree q.tree parts q.parts c.args.head made.nodes.items rows old new made.key.items.items q.head_in q.kids chosen entry put

pub returns : goal.returns
returns c =
    let q = c.requires in
    let g = c.args.stock.now.nodes in
    let ns = c.args.stock.now.numbers.items in
    let made = c.in_ok-made.made in
    let tree = c.args.tree.now in
    let parts = c.args.parts.now in
    let old = c.args.numbers.now.items in
    let chosen : IsChosen tree parts old c.args.head made.nodes.items made.key.items.items = subst (λ (xs : List ℕ). IsChosen tree parts xs c.args.head made.nodes.items made.key.items.items) c.deref.ensures.value c.in_ok-made.ensures in
    missed_part (stock_rows g ns) (closed_stock g ns q.stock) (apart_stock g ns q.stock) tree q.tree parts q.parts c.args.stock.now.index.entries q.index c.args.head made.nodes.items old made.key q.head_in q.kids chosen (sym c.in-None.ensures.value)
