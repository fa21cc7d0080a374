use Rattle.std.proofs.Common.{◌≡◌, ℕ, ◌<◌, ◌+◌, List, [], ◌∷◌, ◌++◌, length, map, take, get_or, Some, slice_get, sym, ap, ◌∙◌}
use Rattle.std.specs.List.{range_with_len}
use Rattle.std.proofs.lemmas.List.{map-append}
use Rattle.std.proofs.lemmas.Option.{slice_get-get_or}
use Rattle.mars_base.proofs.ListFacts.{All-get, take-next}
use Rattle.mars_rows.specs.StockInside.{number_of_node}
use Rattle.mars_rows.proofs.growth.names_at.Goals as goal

pub loop-place-preserved : goal.loop-place-preserved
loop-place-preserved c count all =
    let ns = c.args.numbers.now in
    let places : List ℕ = c.args.places.now in
    let k : ℕ = c.loop-place.place-index in
    let x : ℕ = get_or places k 0 in
    let f : ℕ → ℕ = number_of_node (ns ++ range_with_len c.args.next count) in
    let at : slice_get places k ≡ Some x = slice_get-get_or places k 0 c.loop-place-test.true in
    c.in_ok-push.ensures.items ∙ ap (λ xs. xs ++ c.number_at.result ∷ []) (c.loop-place.invariant count all)
    ∙ ap (λ y. map f (take k places) ++ y ∷ []) (c.number_at.ensures count (All-get (λ place. place < length ns + count) places k x all at))
    ∙ sym (ap (map f) (take-next places k x at) ∙ map-append f (take k places) (x ∷ []))
