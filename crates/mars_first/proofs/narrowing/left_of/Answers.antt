use Rattle.std.proofs.Common.{◌≡◌, ℕ, List, length, All, subst, arith}
use Rattle.mars_first.specs.ComponentInside.{AreCounts, Precedes}
use Rattle.mars_first.proofs.Ending.{narrowed_to, rows_some}
use Rattle.mars_first.proofs.narrowing.left_of.Goals as goal

pub rarest-row-requires-clause-some : goal.rarest-row-requires-clause-some
rarest-row-requires-clause-some c = rows_some c.args.component.now c.args.candidates.now c.args.rows.now c.requires.apart c.requires.some

pub returns : goal.returns
returns c =
    let comp = c.args.component.now in
    let size : c.len-size.result ≡ length comp.rows.keys = omega arith in
    let are : AreCounts (length comp.rows.keys) c.args.rows.now c.in_ok-counts.counts.items = subst (λ (n : ℕ). AreCounts n c.args.rows.now c.in_ok-counts.counts.items) size c.in_ok-counts.ensures in
    let first : All (λ r. Precedes comp.rows.keys c.in_ok-counts.counts.items c.rarest-row.result r) c.args.rows.now = subst (λ (xs : List ℕ). All (λ r. Precedes comp.rows.keys xs c.rarest-row.result r) c.args.rows.now) c.deref.ensures.value c.rarest-row.ensures.rarest in
    narrowed_to comp c.args.candidates.now c.args.rows.now c.in_ok-counts.counts.items c.in_ok-left.left.items c.rarest-row.result c.requires.apart are c.requires.rows_in c.rarest-row.ensures.there first c.in_ok-left.ensures
