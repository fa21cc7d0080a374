use Rattle.std.proofs.Common.{◌≡◌, ◌∙◌, arith, sym, length}
use Rattle.mars_gate.proofs.JobLemmas.{new_pushed}
use Rattle.rows_gate.specs.Keepers.{job_of}
use Rattle.rows_gate.proofs.runs.many.Goals as goal

pub loop-who-preserved : goal.loop-who-preserved
loop-who-preserved c =
    let old = c.loop-who.keepers in
    let made = c.new-keeper.ensures in
    let from : c.from.result ≡ c.loop-who.who = c.from.ensures in
    let place : length old.items ≡ c.loop-who.who = omega (arith, old.ok.0, c.loop-who.invariant.count) in
    record {
      new = new_pushed job_of old.items c.push.new.self.items c.new-keeper.result c.in_ok-push.ensures.items c.loop-who.invariant.new
          (record { numbered = made.who ∙ from ∙ sym place; none = made.none; going = made.going });
      count = omega (arith, c.in_ok-push.ensures.len, c.loop-who.invariant.count);
    }
