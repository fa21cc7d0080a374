use Rattle.std.proofs.Common.{Ok, Err}
use Rattle.std.proofs.lemmas.Result.{on_ok_weaker}
use Rattle.std.proofs.lemmas.List.Sorted.{searched}
use Rattle.mars_watch.proofs.CallerLemmas.{rising-sorted, not-there}
use Rattle.mars_frozen.proofs.Filing.{looked-there, looked-gone}
use Rattle.mars_frozen.proofs.waking.look_at.Goals as goal

pub returns-in-Ok-clause-looked : goal.returns-in-Ok-clause-looked
returns-in-Ok-clause-looked c =
    let s = searched c.args.numbers.now c.args.number (Ok c.in-Ok.place) c.in-Ok.ensures.position (rising-sorted c.args.numbers.now c.requires.rising) in
    on_ok_weaker c.settle.result (λ p.
    looked-there c.args.store.now c.args.pairs.now c.args.numbers.now c.in-Ok.place c.args.number c.args.watchers.now c.settle.new.watchers c.args.found.now.items c.settle.new.found.items c.requires.rising s.0 s.1 p) c.settle.ensures.settled

pub returns-in-Err-clause-looked : goal.returns-in-Err-clause-looked
returns-in-Err-clause-looked c =
    let s = searched c.args.numbers.now c.args.number (Err c.in-Err.field-0) c.in-Err.ensures.position (rising-sorted c.args.numbers.now c.requires.rising) in
    looked-gone c.args.store.now c.args.pairs.now c.args.numbers.now c.args.number c.args.watchers.now c.args.found.now.items (not-there c.args.numbers.now c.args.number c.in-Err.field-0 s.1 s.2)
