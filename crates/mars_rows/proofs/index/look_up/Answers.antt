use Rattle.std.proofs.Common.{◌≡◌, ℕ, ◌+◌, List, length, get_or, Some, slice_get, subst, sym, ap, ◌∙◌, arith}
use Rattle.std.specs.List.{range_with_len}
use Rattle.std.proofs.lemmas.Option.{slice_get-get_or}
use Rattle.mars_rows.specs.IndexInside.{IsLookedUp}
use Rattle.mars_rows.specs.StockInside.{stock_rows}
use Rattle.mars_rows.proofs.LookedUp.{kids_guessed, looked_none, looked_found, looked_missed}
use Rattle.mars_rows.proofs.Placed.{stock_below}
use Rattle.mars_rows.proofs.Stocked.{closed_stock, apart_stock}
use Rattle.mars_rows.proofs.index.look_up.Goals as goal
use Rattle.mars_rows.proofs.index.look_up.Goals.{then-not-branch+in_ok-push, else-not-branch}

pub loop-place-init : goal.loop-place-init
loop-place-init c =
    let q = c.requires in
    let g = c.args.stock.now.nodes in
    let ns = c.args.stock.now.numbers.items in
    let tree = c.args.tree.now in
    let parts = c.args.parts.now in
    let heads = c.args.heads.now in
    let numbers = c.in_ok-numbers.numbers.items in
    subst (IsLookedUp (stock_rows g ns) c.args.next tree parts heads 0 numbers) (sym c.new-missed.ensures.items)
    (looked_none (stock_rows g ns) (closed_stock g ns q.stock) (apart_stock g ns q.stock) tree q.tree parts q.parts c.args.next (stock_below g ns q.stock c.args.next q.below) heads q.heads numbers
    (c.in_ok-numbers.ensures ∙ ap (range_with_len c.args.next) c.len.ensures.len))

pub look_up_part-requires-clause-head_in : goal.look_up_part-requires-clause-head_in
look_up_part-requires-clause-head_in c =
    let heads : List ℕ = c.args.heads.now in
    let k : ℕ = c.loop-place.place in
    let head : ℕ = get_or heads k 0 in
    let lt = c.requires.heads.within k head (slice_get-get_or heads k 0 c.loop-place-test.true) in
    omega (arith, lt, c.requires.parts.size)

pub look_up_part-requires-clause-kids : goal.look_up_part-requires-clause-kids
look_up_part-requires-clause-kids c =
    let q = c.requires in
    let g = c.args.stock.now.nodes in
    let ns = c.args.stock.now.numbers.items in
    let heads : List ℕ = c.args.heads.now in
    let k : ℕ = c.loop-place.place in
    let head : ℕ = get_or heads k 0 in
    kids_guessed (stock_rows g ns) (closed_stock g ns q.stock) (apart_stock g ns q.stock) c.args.tree.now q.tree c.args.parts.now q.parts c.args.next (stock_below g ns q.stock c.args.next q.below) heads q.heads
    k head c.loop-place.numbers.items c.loop-place.missed.items c.loop-place.invariant (slice_get-get_or heads k 0 c.loop-place-test.true)

pub loop-place-preserved : goal.loop-place-preserved
loop-place-preserved c =
    let q = c.requires in
    let g = c.args.stock.now.nodes in
    let ns = c.args.stock.now.numbers.items in
    let tree = c.args.tree.now in
    let parts = c.args.parts.now in
    let heads : List ℕ = c.args.heads.now in
    let k : ℕ = c.loop-place.place in
    let head : ℕ = get_or heads k 0 in
    let at : slice_get heads k ≡ Some head = slice_get-get_or heads k 0 c.loop-place-test.true in
    let numbers = c.loop-place.numbers.items in
    let missed = c.loop-place.missed.items in
    let new = c.look_up_part.new.numbers.items in
    let found = c.in_ok-look_up_part.field-0 in
    let is = c.in_ok-look_up_part.ensures in
    elim c.if-not-branch.branch [
      | then-not-branch+in_ok-push w ↦
          subst (IsLookedUp (stock_rows g ns) c.args.next tree parts heads (k + 1) new) (sym (ap (λ v. v.items) w.missed-is ∙ w.in_ok-push.ensures.items))
          (looked_missed (stock_rows g ns) (closed_stock g ns q.stock) (apart_stock g ns q.stock) tree q.tree parts q.parts c.args.next (stock_below g ns q.stock c.args.next q.below) heads q.heads
          k head numbers missed new found c.loop-place.invariant at is)
      | else-not-branch w ↦
          subst (IsLookedUp (stock_rows g ns) c.args.next tree parts heads (k + 1) new) (sym (ap (λ v. v.items) w.missed-is))
          (looked_found (stock_rows g ns) (closed_stock g ns q.stock) (apart_stock g ns q.stock) tree q.tree parts q.parts c.args.next (stock_below g ns q.stock c.args.next q.below) heads q.heads
          k head numbers missed new found c.loop-place.invariant at is w.if-not-branch.false)
    ]

pub returns : goal.returns
returns c =
    let g = c.args.stock.now.nodes in
    let ns = c.args.stock.now.numbers.items in
    let heads : List ℕ = c.args.heads.now in
    let end : c.loop-place.place ≡ length heads = omega (arith, c.loop-place-test.false, c.loop-place.auto.place-end) in
    subst (λ (k : ℕ). IsLookedUp (stock_rows g ns) c.args.next c.args.tree.now c.args.parts.now heads k c.loop-place.numbers.items c.loop-place.missed.items) end c.loop-place.invariant
