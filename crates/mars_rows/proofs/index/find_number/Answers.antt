use Rattle.std.proofs.Common.{◌≡◌, ◌<◌, length, subst, sym, ◌∙◌, arith}
use Rattle.std.proofs.lemmas.List.{get_or_read}
use Rattle.mars_rows.specs.IndexInside.{AreHeads, number_for}
use Rattle.mars_rows.specs.StockInside.{stock_rows}
use Rattle.mars_rows.proofs.LookedUp.{looked_all}
use Rattle.mars_rows.proofs.Placed.{stock_below, number_found, number_missed}
use Rattle.mars_rows.proofs.Stocked.{closed_stock, apart_stock}
use Rattle.mars_rows.proofs.index.find_number.Goals as goal

pub returns-then-number-next : goal.returns-then-number-next
returns-then-number-next c =
    let q = c.requires in
    let g = c.args.stock.now.nodes in
    let ns = c.args.stock.now.numbers.items in
    let tree = c.args.tree.now in
    let looked = c.in_ok-looked.looked in
    let parts = c.in_ok-parts.parts in
    let heads : AreHeads parts c.deref.result.now = subst (AreHeads parts) (sym c.deref.ensures.value) c.in_ok-heads.ensures in
    let lt : c.args.node < length looked.numbers.items = omega (arith, c.in_ok-looked.ensures.size, q.node_in) in
    let number : c.index-number.result.now ≡ number_for looked.numbers.items c.args.node = get_or_read looked.numbers.items _ _ lt c.index-number.ensures 0 in
    let is = looked_all (stock_rows g ns) (closed_stock g ns q.stock) (apart_stock g ns q.stock) tree q.tree parts c.in_ok-parts.ensures c.args.next (stock_below g ns q.stock c.args.next q.below) c.deref.result.now heads
    looked.numbers.items looked.missed.items c.in_ok-looked.ensures c.args.node q.node_in in
    sym (number_found g ns q.stock c.args.next q.below tree q.tree c.args.node c.index-number.result.now q.node_in (number ∙ is) c.if-number-next.true)

pub returns : goal.returns
returns c =
    let q = c.requires in
    let g = c.args.stock.now.nodes in
    let ns = c.args.stock.now.numbers.items in
    let tree = c.args.tree.now in
    let looked = c.in_ok-looked.looked in
    let parts = c.in_ok-parts.parts in
    let heads : AreHeads parts c.deref.result.now = subst (AreHeads parts) (sym c.deref.ensures.value) c.in_ok-heads.ensures in
    let lt : c.args.node < length looked.numbers.items = omega (arith, c.in_ok-looked.ensures.size, q.node_in) in
    let number : c.index-number.result.now ≡ number_for looked.numbers.items c.args.node = get_or_read looked.numbers.items _ _ lt c.index-number.ensures 0 in
    let is = looked_all (stock_rows g ns) (closed_stock g ns q.stock) (apart_stock g ns q.stock) tree q.tree parts c.in_ok-parts.ensures c.args.next (stock_below g ns q.stock c.args.next q.below) c.deref.result.now heads
    looked.numbers.items looked.missed.items c.in_ok-looked.ensures c.args.node q.node_in in
    sym (number_missed g ns q.stock c.args.next q.below tree q.tree c.args.node c.index-number.result.now q.node_in (number ∙ is) c.if-number-next.false)
