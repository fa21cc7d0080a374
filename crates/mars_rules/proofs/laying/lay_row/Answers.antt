use Rattle.std.proofs.Common.{arith}
use Rattle.mars_rules.proofs.Laid.{row-first, row-last, row-step, row-starts, row-end}
use Rattle.mars_rules.proofs.laying.lay_row.Goals as goal

pub loop-first-init : goal.loop-first-init
loop-first-init c = record {
  first = c.requires.first;
  last = c.requires.last;
  row = λ vars start terms term f g. row-starts vars start c.args.nodes.now terms term c.args.firsts.items c.args.last f g;
}

pub loop-first-preserved : goal.loop-first-preserved
loop-first-preserved c = record {
  first = row-first c.loop-first.nodes c.lay_node.new.nodes c.loop-first.firsts.items c.pop.new.self.items c.in-Some.first _ _ c.in_ok-last.ensures.1 c.in-Some.ensures.items c.loop-first.invariant.first;
  last = row-last c.loop-first.nodes c.lay_node.new.nodes c.in_ok-last.last _ c.in_ok-last.ensures.0 c.in_ok-last.ensures.1;
  row = λ vars start terms term f g.
      row-step vars start c.loop-first.nodes c.lay_node.new.nodes c.loop-first.firsts.items c.pop.new.self.items c.in-Some.first c.loop-first.last c.in_ok-last.last terms term
      c.in_ok-last.ensures.0 c.in_ok-last.ensures.1 c.in-Some.ensures.items (c.loop-first.invariant.row vars start terms term f g);
}

pub returns : goal.returns
returns c = λ vars start terms term f g.
    row-end vars start c.loop-first.nodes c.loop-first.firsts.items c.loop-first.last terms term (omega (arith, c.in_default.ensures.cases.0)) (c.loop-first.invariant.row vars start terms term f g)
