use Rattle.std.proofs.Common.{refl}
use Rattle.mars_refine.proofs.Marking.{as_they_stand, split_as_they_stand}
use Rattle.mars_refine.proofs.Parting.{unmark_done}
use Rattle.mars_refine.proofs.classes.unmark_class.Goals as goal

pub returns-clause-parted : goal.returns-clause-parted
returns-clause-parted c = record { spans = as_they_stand _ _ _ _ _ (unmark_done c.args.parts.now.of.items c.args.parts.now.order.items c.args.parts.now.place.items c.args.parts.now.spans.items _ c.requires.parted.spans c.args.class c.index.result.now c.args.parts.now.order.items _ _ c.requires.class_in c.index.ensures c.requires.whole refl refl refl).0; room = c.requires.parted.room }

pub returns-clause-ok : goal.returns-clause-ok
returns-clause-ok c =
    let done = unmark_done c.args.parts.now.of.items c.args.parts.now.order.items c.args.parts.now.place.items c.args.parts.now.spans.items _ c.requires.parted.spans c.args.class c.index.result.now c.args.parts.now.order.items _ _ c.requires.class_in c.index.ensures c.requires.whole refl refl refl in
    split_as_they_stand _ _ _ _ _ _ _ _ done.0 done.1
