use Rattle.std.proofs.Common.{ℕ, ◌<◌, List, length, subst, sym, ap, ◌∙◌}
use Rattle.mars_base.proofs.ListFacts.{All-from_gets}
use Rattle.mars_rows.specs.IndexInside.{AreHeads, number_for}
use Rattle.mars_rows.specs.StockInside.{stock_rows}
use Rattle.mars_rows.proofs.LookedUp.{looked_all, missing_all}
use Rattle.mars_rows.proofs.Placed.{stock_below}
use Rattle.mars_rows.proofs.Stocked.{closed_stock, apart_stock}
use Rattle.mars_rows.proofs.growth.number_nodes.Goals as goal

pub places_of-requires-clause-looked : goal.places_of-requires-clause-looked
places_of-requires-clause-looked c n n_in =
    let q = c.requires in
    let g = c.args.stock.now.nodes in
    let ns = c.args.stock.now.numbers.items in
    let looked = c.in_ok-looked.looked in
    let parts = c.in_ok-parts.parts in
    let heads : AreHeads parts c.deref.result.now = subst (AreHeads parts) (sym c.deref.ensures.value) c.in_ok-heads.ensures in
    ap (λ (xs : List ℕ). number_for xs n) c.deref-2.ensures.value
    ∙ looked_all (stock_rows g ns) (closed_stock g ns q.stock) (apart_stock g ns q.stock) c.args.tree.now q.tree parts c.in_ok-parts.ensures c.args.next (stock_below g ns q.stock c.args.next q.below) c.deref.result.now heads
    looked.numbers.items looked.missed.items c.in_ok-looked.ensures n n_in

pub returns-clause-missing : goal.returns-clause-missing
returns-clause-missing c m m_in none =
    let q = c.requires in
    let g = c.args.stock.now.nodes in
    let ns = c.args.stock.now.numbers.items in
    let looked = c.in_ok-looked.looked in
    let parts = c.in_ok-parts.parts in
    let heads : AreHeads parts c.deref.result.now = subst (AreHeads parts) (sym c.deref.ensures.value) c.in_ok-heads.ensures in
    missing_all (stock_rows g ns) (closed_stock g ns q.stock) (apart_stock g ns q.stock) c.args.tree.now q.tree parts c.in_ok-parts.ensures c.args.next (stock_below g ns q.stock c.args.next q.below) c.deref.result.now heads
    looked.numbers.items looked.missed.items c.in_ok-looked.ensures m m_in none

pub returns-clause-missed_in : goal.returns-clause-missed_in
returns-clause-missed_in c =
    All-from_gets (λ m. m < length c.args.tree.now) c.in_ok-looked.looked.missed.items (λ k m e. c.in_ok-looked.ensures.missed_in k m e)
