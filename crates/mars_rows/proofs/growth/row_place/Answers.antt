use Rattle.std.proofs.Common.{◌≡◌, ℕ, ◌<◌, List, length, Contains, subst, sym}
use Rattle.mars_rows.specs.StockInside.{number_of_node}
use Rattle.mars_rows.proofs.Placed.{number_there, place_found, place_missed}
use Rattle.mars_rows.proofs.growth.row_place.Goals as goal

pub place_of-requires-clause-there : goal.place_of-requires-clause-there
place_of-requires-clause-there c =
    let q = c.requires in
    subst (λ (xs : List ℕ). Contains xs c.args.number) (sym c.deref.ensures.value)
    (number_there c.args.stock.now.nodes c.args.stock.now.numbers.items q.stock c.args.next q.below c.args.tree.now q.tree c.args.node c.args.number q.node_in q.looked c.if-number-next.true)

pub returns-then-number-next : goal.returns-then-number-next
returns-then-number-next c =
    let q = c.requires in
    let p : ℕ = c.place_of.result in
    place_found c.args.stock.now.nodes c.args.stock.now.numbers.items q.stock c.args.next q.below c.args.tree.now q.tree c.args.node c.args.number q.node_in q.looked c.if-number-next.true
    p (subst (λ (xs : List ℕ). p < length xs) c.deref.ensures.value c.place_of.ensures.within) (subst (λ (xs : List ℕ). number_of_node xs p ≡ c.args.number) c.deref.ensures.value c.place_of.ensures.is)

pub returns-else-number-next : goal.returns-else-number-next
returns-else-number-next c =
    let q = c.requires in
    place_missed c.args.stock.now.nodes c.args.stock.now.numbers.items q.stock c.args.next q.below c.args.tree.now q.tree c.args.node c.args.number q.node_in q.looked c.if-number-next.false
