use Rattle.std.proofs.Common.{arith, slice_index_or}
use Rattle.std.proofs.lemmas.Option.{slice_get-get_or}
use Rattle.mars_first.proofs.Choosing.{chosen_next}
use Rattle.mars_first.proofs.narrowing.with_row.Goals as goal

pub loop-place-preserved : goal.loop-place-preserved
loop-place-preserved c =
    let k = c.loop-place.place in
    let candidates = c.args.candidates.now in
    let rows = c.args.rows.now in
    chosen_next candidates rows c.args.row k (slice_index_or candidates k 0) (slice_index_or rows k 0) c.loop-place.left.items c.push_chosen.new.left.items c.requires (slice_get-get_or candidates k 0 (omega arith)) (slice_get-get_or rows k 0 (omega arith))
    c.loop-place.invariant c.in_ok-push_chosen.ensures
