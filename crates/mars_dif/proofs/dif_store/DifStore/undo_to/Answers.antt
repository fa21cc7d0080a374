use Rattle.std.proofs.Common.{subst, sym}
use Rattle.mars_watch.proofs.CallerLemmas.{undone-in-step}
use Rattle.mars_dif.specs.Kept.{Kept, IsKeeperMark}
use Rattle.mars_dif.proofs.dif_store.DifStore.undo_to.Goals as goal

pub invariant_of-self : goal.invariant_of-self
invariant_of-self c =
    let i = c.self.inside in
    let m = subst (λ (k : Kept). IsKeeperMark k c.args.mark) (sym c.self.view_is) c.requires in
    rw (c.undo_to.ensures, c.undo_to-2.ensures) (undone-in-step i.numbers i.difs c.args.mark.changes m.numbers m.difs)
