use Rattle.std.proofs.Common.{◌≡◌, Some, slice_get, sym, inr, rules}
use Rattle.std.specs.declared.cmp.Ordering.TheVariants.{Equal, Greater}
use Rattle.mars_comp.specs.Least.{key_cmp}
use Rattle.mars_first.proofs.Ending.{at_least_from}
use Rattle.mars_first.proofs.narrowing.is_rarer.Goals as goal

pub returns-in-Equal : goal.returns-in-Equal
returns-in-Equal c =
    let keys = c.args.keys.now.keys in
    let a : slice_get keys c.args.row ≡ Some c.index.result.now = search rules in
    let b : slice_get keys c.args.other ≡ Some c.index-2.result.now = search rules in
    let e : key_cmp c.index.result.now.items.items c.index-2.result.now.items.items ≡ Equal = search rules in
    inr (sym c.if-counts-row.false, at_least_from keys c.args.row c.args.other c.index.result.now c.index-2.result.now Equal a b e (λ f. absurd cc))

pub returns-in-Greater : goal.returns-in-Greater
returns-in-Greater c =
    let keys = c.args.keys.now.keys in
    let a : slice_get keys c.args.row ≡ Some c.index.result.now = search rules in
    let b : slice_get keys c.args.other ≡ Some c.index-2.result.now = search rules in
    let e : key_cmp c.index.result.now.items.items c.index-2.result.now.items.items ≡ Greater = search rules in
    inr (sym c.if-counts-row.false, at_least_from keys c.args.row c.args.other c.index.result.now c.index-2.result.now Greater a b e (λ f. absurd cc))
