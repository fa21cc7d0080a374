use Rattle.std.proofs.Common.{arith, slice_index_or}
use Rattle.std.proofs.lemmas.Option.{slice_get-get_or}
use Rattle.mars_reach.proofs.Numbers.{contains_at}
use Rattle.mars_first.proofs.Linking.{linked_none, linked_more, linked_all, linked_end, each_at}
use Rattle.mars_first.proofs.links.join.Goals as goal

pub loop-head-init : goal.loop-head-init
loop-head-init c = linked_none c.args.links.now.items c.args.heads.now c.least_of-least.result

pub index_mut-requires : goal.index_mut-requires
index_mut-requires c =
    let at = slice_get-get_or c.args.heads.now c.loop-head.head-index 0 (omega arith) in
    let root = c.requires.roots c.loop-head.head-index (slice_index_or c.args.heads.now c.loop-head.head-index 0) at in
    let within = root.0 in
    let size = c.loop-head.invariant.size in
    omega arith

pub loop-head-preserved : goal.loop-head-preserved
loop-head-preserved c =
    let head = slice_index_or c.args.heads.now c.loop-head.head-index 0 in
    let at = slice_get-get_or c.args.heads.now c.loop-head.head-index 0 (omega arith) in
    linked_more c.args.links.now.items c.args.heads.now c.loop-head.head-index c.least_of-least.result c.loop-head.links.items head c.loop-head.invariant at
    (c.requires.roots c.loop-head.head-index head at) (each_at c.args.heads.now c.least_of-least.result c.least_of-least.ensures.least c.loop-head.head-index head at) (contains_at c.args.heads.now c.loop-head.head-index head at)

pub returns : goal.returns
returns c =
    linked_all c.args.links.now.items c.args.heads.now c.least_of-least.result c.loop-head.links.items c.requires.falling c.requires.roots c.least_of-least.ensures.there
    (each_at c.args.heads.now c.least_of-least.result c.least_of-least.ensures.least)
    (linked_end c.args.links.now.items c.args.heads.now c.loop-head.head-index c.least_of-least.result c.loop-head.links.items (omega arith) c.loop-head.invariant)
