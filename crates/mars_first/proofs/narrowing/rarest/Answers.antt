use Rattle.std.proofs.Common.{◌<◌, ℕ, arith, below_more, slice_index_or, length, Contains, subst, sym, inl, inr}
use Rattle.std.proofs.lemmas.Option.{slice_get-get_or}
use Rattle.mars_reach.proofs.Numbers.{contains_at, All-slice_get}
use Rattle.mars_first.proofs.Ending.{precedes_on}
use Rattle.mars_first.proofs.narrowing.rarest.Goals as goal

pub loop-row-init : goal.loop-row-init
loop-row-init c =
    let rows = c.args.rows.now in
    let at = slice_get-get_or rows 0 0 c.requires.some in
    record {
      there = contains_at rows 0 (slice_index_or rows 0 0) at;
      within = All-slice_get (λ (r : ℕ). r < length c.args.counts.now) rows 0 (slice_index_or rows 0 0) c.requires.rows_in at;
      rarest = λ k lt. absurd (omega (arith, lt));
    }

pub loop-row-preserved : goal.loop-row-preserved
loop-row-preserved c =
    let i = c.loop-row.invariant in
    let rows = c.args.rows.now in
    let k = c.loop-row.row-index in
    let row = slice_index_or rows k 0 in
    let at = slice_get-get_or rows k 0 (omega arith) in
    let r = c.rarer_of-best.ensures in
    record {
      there = elim r.one [ inl e ↦ subst (Contains rows) (sym e) (contains_at rows k row at) | inr e ↦ subst (Contains rows) (sym e) i.there ];
      within = elim r.one [
        | inl e ↦ subst (λ (z : ℕ). z < length c.args.counts.now) (sym e) (All-slice_get (λ (z : ℕ). z < length c.args.counts.now) rows k row c.requires.rows_in at)
        | inr e ↦ subst (λ (z : ℕ). z < length c.args.counts.now) (sym e) i.within
      ];
      rarest = below_more _ _ (λ j lt. precedes_on c.args.keys.now.keys c.args.counts.now c.rarer_of-best.result c.loop-row.best (slice_index_or rows j 0) r.second (i.rarest j lt)) r.first;
    }
