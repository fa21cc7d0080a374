use Rattle.std.proofs.Common.{ℕ, sym, ◌∙◌}
use Rattle.std.proofs.lemmas.Result.{on_ok_weaker}
use Rattle.std.proofs.lemmas.List.{get_or_default}
use Rattle.mars_dif.proofs.Attending.{noted-tried}
use Rattle.mars_dif.proofs.sorting.settle.Goals as goal

pub returns-clause-tried : goal.returns-clause-tried
returns-clause-tried c =
    let dif : ℕ × ℕ = c.index-difs-place.result in
    on_ok_weaker c.note.result (λ n.
    noted-tried c.args.store.now c.args.difs.now c.args.place c.args.number c.args.watchers.now c.tell_apart.new.watchers c.args.sorted.now.found.items c.note.new.sorted.found.items c.args.sorted.now.failed c.note.new.sorted.failed
    c.in_ok-told.told dif (get_or_default c.args.difs.now c.args.place (0, 0) c.index-difs-place.result c.requires.within ∙ sym c.index-difs-place.is) c.requires.within c.tell_apart.ensures.cut
    c.in_ok-told.ensures.told c.in_ok-told.ensures.watching n) c.note.ensures
