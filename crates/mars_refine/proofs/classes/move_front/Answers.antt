use Rattle.std.proofs.Common.{sym, arith}
use Rattle.mars_refine.proofs.Moving.{move_done, room_behind, before_middle}
use Rattle.mars_refine.proofs.Marking.{marks_are, as_they_stand, marked_before}
use Rattle.mars_refine.proofs.classes.move_front.Goals as goal

pub one_marked_more-requires : goal.one_marked_more-requires
one_marked_more-requires c = room_behind _ _ _ _ _ c.requires.parted.spans c.args.node c.get-class.result c.get-at.result c.index-span.result.now c.requires.node_in c.get-class.ensures c.index-span.ensures c.get-at.ensures c.if-at-middle.false

pub returns-clause-parted : goal.returns-clause-parted
returns-clause-parted c = record {
  spans = as_they_stand _ _ _ _ _ (move_done _ _ _ _ _ c.requires.parted.spans c.args.node c.get-class.result c.get-at.result c.index-span.result.now c.requires.node_in c.get-class.ensures c.index-span.ensures c.get-at.ensures
      c.get-other.result c.one_marked_more.result _ _ _ _ c.if-at-middle.false c.get-other.ensures c.one_marked_more.ensures c.set.ensures.items c.set-2.ensures.items c.set-3.ensures.items c.set-4.ensures.items);
  room = record { of_most = c.requires.parted.room.of_most; order_most = omega (arith, c.requires.parted.room.order_most, c.set.ensures.most, c.set-3.ensures.most); place_most = omega (arith, c.requires.parted.room.place_most, c.set-2.ensures.most, c.set-4.ensures.most) };
}

pub returns-clause-marked : goal.returns-clause-marked
returns-clause-marked c = sym (marks_are _ _ _ _ _ (move_done _ _ _ _ _ c.requires.parted.spans c.args.node c.get-class.result c.get-at.result c.index-span.result.now c.requires.node_in c.get-class.ensures c.index-span.ensures c.get-at.ensures
    c.get-other.result c.one_marked_more.result _ _ _ _ c.if-at-middle.false c.get-other.ensures c.one_marked_more.ensures c.set.ensures.items c.set-2.ensures.items c.set-3.ensures.items c.set-4.ensures.items))

pub returns-then-at-middle-clause-marked : goal.returns-then-at-middle-clause-marked
returns-then-at-middle-clause-marked c = marked_before _ _ _ c.args.node c.requires.node_in (before_middle _ _ _ _ _ c.requires.parted.spans c.args.node c.get-class.result c.get-at.result c.index-span.result.now c.requires.node_in c.get-class.ensures c.index-span.ensures c.get-at.ensures c.if-at-middle.true)
