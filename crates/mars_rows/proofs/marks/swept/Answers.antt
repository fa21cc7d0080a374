use Rattle.std.proofs.Common.{◌≡◌, ℕ, ◌<◌, ◌≤◌, length, map, List, All, Contains, subst, sym, ap, ◌∙◌, arith}
use Rattle.std.proofs.lemmas.List.Elements.{All-weaker}
use Rattle.mars_tree.specs.Graph.{Node, IsGraph}
use Rattle.mars_tree.specs.Renumbered.{renumbered}
use Rattle.mars_reach.specs.Order.{place_in}
use Rattle.mars_rows.specs.StockInside.{number_of_node, stock_rows, IsStock, AreKept}
use Rattle.mars_rows.proofs.Sweeping.{order_in, order_closed, swept_rows, swept_stock, swept_among, swept_pinned, swept_small}
use Rattle.mars_rows.proofs.marks.swept.Goals as goal

pub roots_of-requires-clause-pinned : goal.roots_of-requires-clause-pinned
roots_of-requires-clause-pinned c = subst (λ (ns : List ℕ). All (λ (pin : ℕ × ℕ). Contains ns pin.1) c.args.pins.now) (sym c.deref.ensures.value) c.requires.pinned

pub part-requires-clause-in_range : goal.part-requires-clause-in_range
part-requires-clause-in_range c =
    let g = c.args.stock.now.nodes in
    let ns = c.args.stock.now.numbers.items in
    let roots = c.in_ok-roots.roots.items in
    let within : All (λ root. root < length ns) roots = subst (λ (xs : List ℕ). All (λ root. root < length xs) roots) c.deref.ensures.value c.in_ok-roots.ensures.within in
    let are : map (number_of_node ns) roots ≡ map (λ pin. pin.1) c.args.pins.now = subst (λ (xs : List ℕ). map (number_of_node xs) roots ≡ map (λ pin. pin.1) c.args.pins.now) c.deref.ensures.value c.in_ok-roots.ensures.are in
    let kept : AreKept g roots c.in_ok-order.order = subst (λ (xs : List ℕ). AreKept g xs c.in_ok-order.order) c.deref-2.ensures.value c.in_ok-order.ensures in
    order_in g ns c.requires.stock c.args.pins.now c.requires.pinned roots c.in_ok-order.order within are kept

pub part-requires-clause-closed : goal.part-requires-clause-closed
part-requires-clause-closed c =
    let g = c.args.stock.now.nodes in
    let ns = c.args.stock.now.numbers.items in
    let roots = c.in_ok-roots.roots.items in
    let within : All (λ root. root < length ns) roots = subst (λ (xs : List ℕ). All (λ root. root < length xs) roots) c.deref.ensures.value c.in_ok-roots.ensures.within in
    let are : map (number_of_node ns) roots ≡ map (λ pin. pin.1) c.args.pins.now = subst (λ (xs : List ℕ). map (number_of_node xs) roots ≡ map (λ pin. pin.1) c.args.pins.now) c.deref.ensures.value c.in_ok-roots.ensures.are in
    let kept : AreKept g roots c.in_ok-order.order = subst (λ (xs : List ℕ). AreKept g xs c.in_ok-order.order) c.deref-2.ensures.value c.in_ok-order.ensures in
    order_closed g ns c.requires.stock c.args.pins.now c.requires.pinned roots c.in_ok-order.order within are kept

pub numbers_of-requires : goal.numbers_of-requires
numbers_of-requires c =
    let g = c.args.stock.now.nodes in
    let ns = c.args.stock.now.numbers.items in
    let roots = c.in_ok-roots.roots.items in
    let within : All (λ root. root < length ns) roots = subst (λ (xs : List ℕ). All (λ root. root < length xs) roots) c.deref.ensures.value c.in_ok-roots.ensures.within in
    let are : map (number_of_node ns) roots ≡ map (λ pin. pin.1) c.args.pins.now = subst (λ (xs : List ℕ). map (number_of_node xs) roots ≡ map (λ pin. pin.1) c.args.pins.now) c.deref.ensures.value c.in_ok-roots.ensures.are in
    let kept : AreKept g roots c.in_ok-order.order = subst (λ (xs : List ℕ). AreKept g xs c.in_ok-order.order) c.deref-2.ensures.value c.in_ok-order.ensures in
    subst (λ (xs : List ℕ). All (λ n. n < length xs) c.in_ok-order.order) (sym c.deref-3.ensures.value) (All-weaker (λ n. n < length g) (λ n. n < length ns) (λ n lt. omega (arith, lt, c.requires.stock.size)) c.in_ok-order.order (order_in g ns c.requires.stock c.args.pins.now c.requires.pinned roots c.in_ok-order.order within are kept))

pub returns-clause-rows : goal.returns-clause-rows
returns-clause-rows c =
    let g = c.args.stock.now.nodes in
    let ns = c.args.stock.now.numbers.items in
    let roots = c.in_ok-roots.roots.items in
    let within : All (λ root. root < length ns) roots = subst (λ (xs : List ℕ). All (λ root. root < length xs) roots) c.deref.ensures.value c.in_ok-roots.ensures.within in
    let are : map (number_of_node ns) roots ≡ map (λ pin. pin.1) c.args.pins.now = subst (λ (xs : List ℕ). map (number_of_node xs) roots ≡ map (λ pin. pin.1) c.args.pins.now) c.deref.ensures.value c.in_ok-roots.ensures.are in
    let kept : AreKept g roots c.in_ok-order.order = subst (λ (xs : List ℕ). AreKept g xs c.in_ok-order.order) c.deref-2.ensures.value c.in_ok-order.ensures in
    let numbers : c.in_ok-numbers.numbers.items ≡ map (number_of_node ns) c.in_ok-order.order = c.in_ok-numbers.ensures ∙ ap (λ xs. map (number_of_node xs) c.in_ok-order.order) c.deref-3.ensures.value in
    ap (λ h. stock_rows h c.in_ok-numbers.numbers.items) c.in_ok-nodes.ensures.nodes ∙ ap (stock_rows (renumbered g (place_in c.in_ok-order.order) c.in_ok-order.order)) numbers ∙ swept_rows g ns c.requires.stock c.args.pins.now c.requires.pinned roots c.in_ok-order.order within are kept

pub index_of-requires : goal.index_of-requires
index_of-requires c =
    let g = c.args.stock.now.nodes in
    let ns = c.args.stock.now.numbers.items in
    let roots = c.in_ok-roots.roots.items in
    let within : All (λ root. root < length ns) roots = subst (λ (xs : List ℕ). All (λ root. root < length xs) roots) c.deref.ensures.value c.in_ok-roots.ensures.within in
    let are : map (number_of_node ns) roots ≡ map (λ pin. pin.1) c.args.pins.now = subst (λ (xs : List ℕ). map (number_of_node xs) roots ≡ map (λ pin. pin.1) c.args.pins.now) c.deref.ensures.value c.in_ok-roots.ensures.are in
    let kept : AreKept g roots c.in_ok-order.order = subst (λ (xs : List ℕ). AreKept g xs c.in_ok-order.order) c.deref-2.ensures.value c.in_ok-order.ensures in
    let numbers : c.in_ok-numbers.numbers.items ≡ map (number_of_node ns) c.in_ok-order.order = c.in_ok-numbers.ensures ∙ ap (λ xs. map (number_of_node xs) c.in_ok-order.order) c.deref-3.ensures.value in
    subst (IsStock c.in_ok-nodes.nodes) (sym c.deref-4.ensures.value)
    (subst (λ (h : List Node). IsStock h c.in_ok-numbers.numbers.items) (sym c.in_ok-nodes.ensures.nodes) (subst (λ (xs : List ℕ). IsStock (renumbered g (place_in c.in_ok-order.order) c.in_ok-order.order) xs) (sym numbers)
    (swept_stock g ns c.requires.stock c.args.pins.now c.requires.pinned roots c.in_ok-order.order within are kept (subst IsGraph c.in_ok-nodes.ensures.nodes c.in_ok-nodes.ensures.graph))))

pub returns-clause-stock : goal.returns-clause-stock
returns-clause-stock c =
    let g = c.args.stock.now.nodes in
    let ns = c.args.stock.now.numbers.items in
    let roots = c.in_ok-roots.roots.items in
    let within : All (λ root. root < length ns) roots = subst (λ (xs : List ℕ). All (λ root. root < length xs) roots) c.deref.ensures.value c.in_ok-roots.ensures.within in
    let are : map (number_of_node ns) roots ≡ map (λ pin. pin.1) c.args.pins.now = subst (λ (xs : List ℕ). map (number_of_node xs) roots ≡ map (λ pin. pin.1) c.args.pins.now) c.deref.ensures.value c.in_ok-roots.ensures.are in
    let kept : AreKept g roots c.in_ok-order.order = subst (λ (xs : List ℕ). AreKept g xs c.in_ok-order.order) c.deref-2.ensures.value c.in_ok-order.ensures in
    let numbers : c.in_ok-numbers.numbers.items ≡ map (number_of_node ns) c.in_ok-order.order = c.in_ok-numbers.ensures ∙ ap (λ xs. map (number_of_node xs) c.in_ok-order.order) c.deref-3.ensures.value in
    subst (λ (h : List Node). IsStock h c.in_ok-numbers.numbers.items) (sym c.in_ok-nodes.ensures.nodes) (subst (λ (xs : List ℕ). IsStock (renumbered g (place_in c.in_ok-order.order) c.in_ok-order.order) xs) (sym numbers)
    (swept_stock g ns c.requires.stock c.args.pins.now c.requires.pinned roots c.in_ok-order.order within are kept (subst IsGraph c.in_ok-nodes.ensures.nodes c.in_ok-nodes.ensures.graph)))

pub returns-clause-among : goal.returns-clause-among
returns-clause-among c =
    let g = c.args.stock.now.nodes in
    let ns = c.args.stock.now.numbers.items in
    let roots = c.in_ok-roots.roots.items in
    let within : All (λ root. root < length ns) roots = subst (λ (xs : List ℕ). All (λ root. root < length xs) roots) c.deref.ensures.value c.in_ok-roots.ensures.within in
    let are : map (number_of_node ns) roots ≡ map (λ pin. pin.1) c.args.pins.now = subst (λ (xs : List ℕ). map (number_of_node xs) roots ≡ map (λ pin. pin.1) c.args.pins.now) c.deref.ensures.value c.in_ok-roots.ensures.are in
    let kept : AreKept g roots c.in_ok-order.order = subst (λ (xs : List ℕ). AreKept g xs c.in_ok-order.order) c.deref-2.ensures.value c.in_ok-order.ensures in
    let numbers : c.in_ok-numbers.numbers.items ≡ map (number_of_node ns) c.in_ok-order.order = c.in_ok-numbers.ensures ∙ ap (λ xs. map (number_of_node xs) c.in_ok-order.order) c.deref-3.ensures.value in
    subst (All (Contains ns)) (sym numbers) (swept_among g ns c.requires.stock c.args.pins.now c.requires.pinned roots c.in_ok-order.order within are kept)

pub returns-clause-pinned : goal.returns-clause-pinned
returns-clause-pinned c =
    let g = c.args.stock.now.nodes in
    let ns = c.args.stock.now.numbers.items in
    let roots = c.in_ok-roots.roots.items in
    let within : All (λ root. root < length ns) roots = subst (λ (xs : List ℕ). All (λ root. root < length xs) roots) c.deref.ensures.value c.in_ok-roots.ensures.within in
    let are : map (number_of_node ns) roots ≡ map (λ pin. pin.1) c.args.pins.now = subst (λ (xs : List ℕ). map (number_of_node xs) roots ≡ map (λ pin. pin.1) c.args.pins.now) c.deref.ensures.value c.in_ok-roots.ensures.are in
    let kept : AreKept g roots c.in_ok-order.order = subst (λ (xs : List ℕ). AreKept g xs c.in_ok-order.order) c.deref-2.ensures.value c.in_ok-order.ensures in
    let numbers : c.in_ok-numbers.numbers.items ≡ map (number_of_node ns) c.in_ok-order.order = c.in_ok-numbers.ensures ∙ ap (λ xs. map (number_of_node xs) c.in_ok-order.order) c.deref-3.ensures.value in
    subst (λ (xs : List ℕ). All (λ (pin : ℕ × ℕ). Contains xs pin.1) c.args.pins.now) (sym numbers) (swept_pinned g ns c.requires.stock c.args.pins.now c.requires.pinned roots c.in_ok-order.order within are kept)

pub returns-clause-fewer : goal.returns-clause-fewer
returns-clause-fewer c =
    let g = c.args.stock.now.nodes in
    let ns = c.args.stock.now.numbers.items in
    let roots = c.in_ok-roots.roots.items in
    let within : All (λ root. root < length ns) roots = subst (λ (xs : List ℕ). All (λ root. root < length xs) roots) c.deref.ensures.value c.in_ok-roots.ensures.within in
    let are : map (number_of_node ns) roots ≡ map (λ pin. pin.1) c.args.pins.now = subst (λ (xs : List ℕ). map (number_of_node xs) roots ≡ map (λ pin. pin.1) c.args.pins.now) c.deref.ensures.value c.in_ok-roots.ensures.are in
    let kept : AreKept g roots c.in_ok-order.order = subst (λ (xs : List ℕ). AreKept g xs c.in_ok-order.order) c.deref-2.ensures.value c.in_ok-order.ensures in
    subst (λ (h : List Node). length h ≤ length g) (sym c.in_ok-nodes.ensures.nodes) (swept_small g ns c.requires.stock c.args.pins.now c.requires.pinned roots c.in_ok-order.order within are kept)
