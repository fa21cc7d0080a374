use Rattle.std.proofs.Common.{◌≡◌, ◌∙◌, length, ap, arith, refl}
use Rattle.mars_refine.proofs.Marking.{as_they_stand, split_as_they_stand}
use Rattle.mars_refine.proofs.Parting.{few_classes, part_done}
use Rattle.mars_refine.proofs.Writing.{length-put_all}
use Rattle.mars_refine.proofs.classes.part_class.Goals as goal

pub write_all-requires-clause-fits : goal.write_all-requires-clause-fits
write_all-requires-clause-fits c = omega (arith, few_classes c.args.parts.now.of.items c.args.parts.now.order.items c.args.parts.now.place.items c.args.parts.now.spans.items _ c.requires.parted.spans, c.len-new.ensures, c.args.parts.now.spans.ok.0, c.requires.parted.room.of_most)

pub returns-clause-parted : goal.returns-clause-parted
returns-clause-parted c =
    let size : length c.write_all.new.values.items ≡ length c.args.parts.now.of.items = ap length c.write_all.ensures.items ∙ length-put_all c.args.parts.now.of.items c.part.result c.len-new.result in
    record {
      spans = as_they_stand _ _ _ _ _ (part_done c.args.parts.now.of.items c.args.parts.now.order.items c.args.parts.now.place.items c.args.parts.now.spans.items _ c.requires.parted.spans c.args.class c.len-new.result c.index.result.now c.smaller_first.result c.push.new.self.items c.args.parts.now.order.items c.part.result c.write_all.new.values.items c.args.parts.now.order.items _ _
          c.requires.class_in c.index.ensures c.requires.some_marked c.requires.some_others c.smaller_first.ensures.both c.in_ok-push.ensures.items (c.len-new.ensures ∙ c.args.parts.now.spans.ok.0) refl c.part.ensures c.write_all.ensures.items refl refl refl).0;
      room = record { of_most = omega (arith, size, c.write_all.ensures.most, c.requires.parted.room.of_most); order_most = omega (arith, size, c.requires.parted.room.order_most); place_most = omega (arith, size, c.requires.parted.room.place_most) };
    }

pub returns-clause-ok : goal.returns-clause-ok
returns-clause-ok c =
    let done = part_done c.args.parts.now.of.items c.args.parts.now.order.items c.args.parts.now.place.items c.args.parts.now.spans.items _ c.requires.parted.spans c.args.class c.len-new.result c.index.result.now c.smaller_first.result c.push.new.self.items c.args.parts.now.order.items c.part.result c.write_all.new.values.items c.args.parts.now.order.items _ _
    c.requires.class_in c.index.ensures c.requires.some_marked c.requires.some_others c.smaller_first.ensures.both c.in_ok-push.ensures.items (c.len-new.ensures ∙ c.args.parts.now.spans.ok.0) refl c.part.ensures c.write_all.ensures.items refl refl refl in
    split_as_they_stand _ _ _ _ _ _ _ _ done.0 done.1
