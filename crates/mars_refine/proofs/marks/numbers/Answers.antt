use Rattle.std.proofs.Common.{◌≡◌, true, arith, rules}
use Rattle.mars_refine.specs.declared.marks.NodeLabel.{NodeLabel}
use Rattle.mars_refine.specs.contracts.marks.NodeLabelPartialEq.TheImpl.{eq-value}
use Rattle.mars_refine.proofs.Numbers.{numbered_more, numbered_done}
use Rattle.mars_refine.proofs.marks.numbers.Goals as goal

own : (a : NodeLabel) → eq-value.it a a ≡ true
own a = search rules

same : (a b : NodeLabel) → eq-value.it a b ≡ true → a ≡ b
same a b e = search rules

pub loop-node-preserved : goal.loop-node-preserved
loop-node-preserved c =
    let n = c.in_ok-number.ensures in
    numbered_more eq-value.it own c.args.graph.now c.loop-node.node c.loop-node.marks.keys c.insert_full.new.self.keys c.loop-node.numbers.items c.push.new.self.items c.shown_at.result c.in_ok-number.number c.loop-node.invariant c.shown_at.ensures n.index n.keys n.within c.in_ok-push.ensures.items

pub returns : goal.returns
returns c = numbered_done eq-value.it same c.args.graph.now c.loop-node.node c.loop-node.marks.keys c.loop-node.numbers.items c.loop-node.invariant (omega (arith, c.loop-node-test.false, c.len-node-end.ensures.len))
