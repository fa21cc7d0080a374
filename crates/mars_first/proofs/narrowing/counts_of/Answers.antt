use Rattle.std.proofs.Common.{◌<◌, ◌≤◌, ℕ, arith, slice_index_or}
use Rattle.std.proofs.lemmas.Option.{slice_get-get_or}
use Rattle.mars_reach.proofs.Numbers.{All-slice_get}
use Rattle.mars_first.proofs.Linking.{read_at}
use Rattle.mars_first.proofs.Choosing.{counts_more, counts_few}
use Rattle.mars_first.proofs.narrowing.counts_of.Goals as goal

pub overflow_add-index_mut : goal.overflow_add-index_mut
overflow_add-index_mut c =
    let rows = c.args.rows.now in
    let k = c.loop-row.row-index in
    let row = slice_index_or rows k 0 in
    let counts = c.loop-row.counts.items in
    let within = All-slice_get (λ (r : ℕ). r < c.args.size) rows k row c.requires.rows_in (slice_get-get_or rows k 0 (omega arith)) in
    let size_is = c.loop-row.invariant.size_is in
    let few : c.index_mut.result.now ≤ k = counts_few c.args.size rows counts k row c.index_mut.result.now c.loop-row.invariant (omega arith) within (read_at counts row c.index_mut.result.now (omega (arith, size_is, within)) c.index_mut.ensures.value) in
    omega arith

pub loop-row-preserved : goal.loop-row-preserved
loop-row-preserved c =
    let rows = c.args.rows.now in
    let k = c.loop-row.row-index in
    let row = slice_index_or rows k 0 in
    let counts = c.loop-row.counts.items in
    let at = slice_get-get_or rows k 0 (omega arith) in
    let within = All-slice_get (λ (r : ℕ). r < c.args.size) rows k row c.requires.rows_in at in
    let size_is = c.loop-row.invariant.size_is in
    counts_more c.args.size rows counts k row c.index_mut.result.now c.loop-row.invariant at (read_at counts row c.index_mut.result.now (omega (arith, size_is, within)) c.index_mut.ensures.value) within
