use Rattle.std.proofs.Common.{◌≡◌, length, arith}
use Rattle.mars_start.proofs.WrittenRows.{IsRowNext, row-next, row-ends}
use Rattle.mars_start.proofs.writing.write_row.Goals as goal

pub loop-first-preserved : goal.loop-first-preserved
loop-first-preserved c =
    let inv = c.loop-first.invariant in
    let next : IsRowNext c.args.store.now c.loop-first.store c.add.new.self c.loop-first.firsts.items c.pop.new.self.items c.loop-first.last c.in_ok-last.last =
    row-next c.args.store.now c.loop-first.store c.add.new.self c.loop-first.firsts.items c.pop.new.self.items c.in-Some.first c.loop-first.last c.in_ok-last.last inv.more inv.first inv.last
    c.in-Some.ensures.items c.in_ok-last.ensures.ok c.in_ok-last.ensures.node in
    record {
      more = next.more;
      first = next.inside;
      last = next.last_in;
      row = λ vars kept terms term names f g. next.row vars kept terms term names (inv.row vars kept terms term names f g);
    }

pub returns : goal.returns
returns c =
    let inv = c.loop-first.invariant in
    let none : length c.loop-first.firsts.items ≡ 0 = omega (arith, c.in_default.ensures.cases.0) in
    record {
      more = inv.more;
      shows = λ vars kept terms term names f g. row-ends c.loop-first.store vars kept terms term c.loop-first.firsts.items c.loop-first.last none (inv.row vars kept terms term names f g);
    }
