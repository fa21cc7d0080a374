use Rattle.std.proofs.Common.{◌≤◌, ℕ, List, ◌∷◌, [], length, drop, subst, ◌∙◌, arith}
use Rattle.std.proofs.lemmas.List.{take-append-le, take_all}
use Rattle.mars_watch.proofs.CallerLemmas.{cut-cut}
use Rattle.mars_dif.specs.Watched.{AreWatched}
use Rattle.mars_dif.proofs.Watching.{watched-next}
use Rattle.mars_dif.proofs.telling.watch_from.Goals as goal

pub loop-place-preserved : goal.loop-place-preserved
loop-place-preserved c =
    let w : List (ℕ × ℕ) = c.loop-place.watchers in
    let low : c.args.from ≤ c.loop-place.place = omega (arith, c.mark-place-end.ensures.mark, c.requires) in
    record {
      cut = cut-cut c.args.watchers.now w c.watch.new.self c.loop-place.invariant.cut
          (rw c.in_ok-watch.ensures.ok (take-append-le (length w) w ((c.equation-variable.result.0, c.args.number) ∷ []) (omega arith) ∙ take_all (length w) w (omega arith)));
      watched = watched-next w c.watch.new.self c.args.store.now.bound c.args.number c.args.from c.loop-place.place c.equation-variable.result low c.equation-variable.ensures c.in_ok-watch.ensures.ok c.loop-place.invariant.watched;
    }

pub returns-clause-ok : goal.returns-clause-ok
returns-clause-ok c =
    let over : length c.args.store.now.bound ≤ c.loop-place.place = (let m = c.mark-place-end.ensures.mark in grind (arith, m, c.loop-place-test.false)) in
    subst (λ xs. AreWatched c.loop-place.watchers c.args.number (drop c.args.from xs)) (take_all c.loop-place.place c.args.store.now.bound over) c.loop-place.invariant.watched
