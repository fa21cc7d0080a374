use Rattle.std.proofs.Common.{◌<◌, length, All, sym, subst}
use Rattle.std.specs.List.Sorted.{IsNonDecreasing}
use Rattle.std.proofs.lemmas.Result.{IfOk-weaker}
use Rattle.std.proofs.lemmas.List.Sorted.{IsNonDecreasingBy-from_sort, All-permutation}
use Rattle.std.proofs.lemmas.List.Elements.{All-weaker}
use Rattle.mars_watch.specs.Gathered.{AreInOrder}
use Rattle.mars_frozen.specs.FrozenInside.{IsKnownPlace, AreFound}
use Rattle.mars_frozen.proofs.Filing.{found-all}
use Rattle.mars_frozen.proofs.waking.known_places.Goals as goal

pub once_each-requires-clause-sorted : goal.once_each-requires-clause-sorted
once_each-requires-clause-sorted c =
    subst IsNonDecreasing (sym c.deref.ensures.value) (IsNonDecreasingBy-from_sort (λ x. x) c.sort_unstable.new.self.items c.sort_unstable.ensures.sorted)

pub once_each-requires-clause-within : goal.once_each-requires-clause-within
once_each-requires-clause-within c =
    subst (All (λ place. place < length c.args.pairs.now)) (sym c.deref.ensures.value)
    (All-permutation (λ place. place < length c.args.pairs.now) c.look_at_all.new.found.items c.sort_unstable.new.self.items c.sort_unstable.ensures.permutation
    (All-weaker (IsKnownPlace c.args.store.now c.args.pairs.now) (λ place. place < length c.args.pairs.now) (λ place k. k.within) c.look_at_all.new.found.items c.in_ok-look_at_all.ensures.settled.known))

pub returns-clause-found : goal.returns-clause-found
returns-clause-found c =
    IfOk-weaker c.once_each.result (λ places. AreInOrder (length c.args.pairs.now) c.deref.result.now places.items) (λ places. AreFound c.args.store.now c.args.pairs.now c.args.numbers.now c.look_at_all.new.watchers places.items)
    (λ places o. found-all c.args.store.now c.args.pairs.now c.args.numbers.now c.look_at_all.new.watchers c.look_at_all.new.found.items c.sort_unstable.new.self.items places.items c.requires.sizes
    c.in_ok-look_at_all.ensures.settled c.sort_unstable.ensures.permutation (subst (λ found. AreInOrder (length c.args.pairs.now) found places.items) c.deref.ensures.value o)) c.once_each.ensures
