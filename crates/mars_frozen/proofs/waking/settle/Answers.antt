use Rattle.std.proofs.Common.{get_or}
use Rattle.std.proofs.lemmas.List.{get_or_default}
use Rattle.mars_frozen.proofs.Filing.{pair-settled}
use Rattle.mars_frozen.proofs.waking.settle.Goals as goal

pub returns-in_ok-watch-in-None-clause-settled : goal.returns-in_ok-watch-in-None-clause-settled
returns-in_ok-watch-in-None-clause-settled c =
    pair-settled c.args.store.now c.args.pairs.now c.args.place c.args.number c.deref.result c.args.watchers.now c.watch.new.self c.args.found.now.items
    (get_or c.args.pairs.now c.args.place c.index-pairs-place.result) (get_or_default c.args.pairs.now c.args.place (0, 0) c.index-pairs-place.result c.requires.within)
    c.deref.ensures.end c.deref.ensures.inside c.in-None.ensures.label c.in_ok-watch-in-None.ensures.ok
