use Rattle.std.proofs.Common.{◌<◌, ◌-◌, length, arith, ap, refl, Contains}
use Rattle.std.proofs.lemmas.List.{get_or_read}
use Rattle.mars_refine.specs.declared.edge.Edge.{Edge}
use Rattle.mars_refine.proofs.Splitting.{marked_at_next, marked_at_end, split_by}
use Rattle.mars_refine.proofs.refine.split_by_place.Goals as goal

pub loop-count-preserved : goal.loop-count-preserved
loop-count-preserved c =
    let i = c.loop-count.invariant in
    let some : 0 < c.loop-count.count = c.loop-count-test.true in
    let entry_in : c.loop-count.count - 1 < length c.args.found.now.edges.items = omega (arith, i.within, c.requires.beside.beside) in
    let read = get_or_read c.args.found.now.edges.items (c.loop-count.count - 1) c.index.result.now entry_in c.index.ensures (record { node = 0; place = 0 }) in
    let node_in : c.index.result.now.node < length c.args.classes.now.of = omega (arith, c.requires.nodes (c.loop-count.count - 1) (record { node = 0; place = 0 }) entry_in, ap (λ (e : Edge). e.node) read) in
    let m = c.in_ok-mark.ensures in
    marked_at_next c.args.found.now.edges.items c.args.found.now.by_place.keys c.args.place c.loop-count.count c.before-count.result _ c.index.result.now.node c.args.classes.now c.loop-count.classes c.mark.new.self
    c.requires.beside some i node_in (ap (λ (e : Edge). e.node) read) m.of m.count m.sized m.marked refl c.before-count.ensures

pub returns : goal.returns
returns c =
    let i = c.loop-count.invariant in
    split_by (λ u. Contains c.args.found.now.edges.items (record { node = u; place = c.args.place })) c.args.classes.now c.loop-count.classes c.split.new.self i.of i.count_is
    (marked_at_end c.args.found.now.edges.items c.args.found.now.by_place.keys c.args.place c.loop-count.count c.args.classes.now c.loop-count.classes i c.loop-count-test.false) c.in_ok-split.ensures
