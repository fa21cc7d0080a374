use Rattle.std.proofs.Common.{ℕ, List, [], ◌∷◌, ◌++◌, map, take, sym, ap, ◌∙◌, arith}
use Rattle.std.proofs.lemmas.List.{map-append}
use Rattle.mars_base.proofs.ListFacts.{take-next}
use Rattle.mars_rows.specs.StockInside.{number_of_node}
use Rattle.mars_rows.proofs.marks.numbers_of.Goals as goal

pub loop-place-preserved : goal.loop-place-preserved
loop-place-preserved c =
    let order : List ℕ = c.args.order.now in
    let f = number_of_node c.args.numbers.now in
    record {
      items = c.push_reserved.ensures.items ∙ ap (λ xs. xs ++ f c.get.result ∷ []) c.loop-place.invariant.items
          ∙ sym (ap (map f) (take-next order c.loop-place.place c.get.result c.get.ensures) ∙ map-append f (take c.loop-place.place order) (c.get.result ∷ []));
      room = omega (arith, c.push_reserved.ensures.capacity, c.loop-place.invariant.room);
    }
