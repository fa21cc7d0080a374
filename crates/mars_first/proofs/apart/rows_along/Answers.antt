use Rattle.std.proofs.Common.{refl, arith}
use Rattle.mars_first.proofs.Staging.{stage_here, class_here}
use Rattle.mars_first.proofs.Differing.{rows_traced, from_in, all_slots_in, rows_nearer}
use Rattle.mars_first.proofs.apart.rows_along.Goals as goal

pub loop-at-init : goal.loop-at-init
loop-at-init c =
    let stages = c.args.search.now.stages.items in
    let stage = c.index.result.now in
    record {
      within = c.requires.last_in;
      traced = rows_traced c.args.places.now stages c.args.search.now.classes.items c.args.last stage c.deref.result.now c.in_ok-rows.rows.items (stage_here stages c.args.last c.args.last stage refl c.requires.last_in c.index.ensures) c.deref.ensures.value c.in_ok-rows.ensures;
    }

pub rows_before-requires : goal.rows_before-requires
rows_before-requires c =
    let search = c.args.search.now in
    let i = c.loop-at.invariant in
    let at = c.loop-at.at in
    let stage = c.index-in-loop-at.result.now in
    let of = c.index-in-loop-at-2.result.now in
    let here = stage_here search.stages.items at at stage refl i.within c.index-in-loop-at.ensures in
    let from = from_in c.args.places.now search.stages.items search.classes.items search.links.items c.requires.is.0 at stage (omega arith) here in
    record {
      slots_in = all_slots_in c.args.places.now search.stages.items search.classes.items search.links.items c.requires.is.0 c.args.last at stage of c.loop-at.rows.items c.deref-in-loop-at.result.now c.deref-in-loop-at-2.result.now (omega arith) here
          (class_here search.classes.items stage.from of from.0 c.index-in-loop-at-2.ensures) i.traced c.deref-in-loop-at.ensures.value c.deref-in-loop-at-2.ensures.value;
    }

pub loop-at-preserved : goal.loop-at-preserved
loop-at-preserved c =
    let search = c.args.search.now in
    let i = c.loop-at.invariant in
    let at = c.loop-at.at in
    let stage = c.index-in-loop-at.result.now in
    let of = c.index-in-loop-at-2.result.now in
    let here = stage_here search.stages.items at at stage refl i.within c.index-in-loop-at.ensures in
    let from = from_in c.args.places.now search.stages.items search.classes.items search.links.items c.requires.is.0 at stage (omega arith) here in
    let down = from.1 in
    let within = i.within in
    record {
      within = omega (arith, down, within);
      traced = rows_nearer c.args.places.now search.stages.items search.classes.items search.links.items c.requires.is.0 c.args.last at stage of c.loop-at.rows.items c.deref-in-loop-at.result.now c.deref-in-loop-at-2.result.now c.in_ok-rows-2.rows.items (omega arith) here
          (class_here search.classes.items stage.from of from.0 c.index-in-loop-at-2.ensures) i.traced c.deref-in-loop-at.ensures.value c.deref-in-loop-at-2.ensures.value c.in_ok-rows-2.ensures;
    }

pub index-requires-in-loop-at-2 : goal.index-requires-in-loop-at-2
index-requires-in-loop-at-2 c =
    let search = c.args.search.now in
    let at = c.loop-at.at in
    let stage = c.index-in-loop-at.result.now in
    let within = c.loop-at.invariant.within in
    let here = stage_here search.stages.items at at stage refl within c.index-in-loop-at.ensures in
    let from = (from_in c.args.places.now search.stages.items search.classes.items search.links.items c.requires.is.0 at stage (omega arith) here).0 in
    omega arith

pub loop-at-smaller : goal.loop-at-smaller
loop-at-smaller c =
    let search = c.args.search.now in
    let at = c.loop-at.at in
    let stage = c.index-in-loop-at.result.now in
    let within = c.loop-at.invariant.within in
    let here = stage_here search.stages.items at at stage refl within c.index-in-loop-at.ensures in
    (from_in c.args.places.now search.stages.items search.classes.items search.links.items c.requires.is.0 at stage (omega arith) here).1
