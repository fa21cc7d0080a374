use Rattle.std.proofs.Common.{subst, sym}
use Rattle.mars_watch.proofs.CallerLemmas.{undone-in-step}
use Rattle.mars_frozen.specs.Freezing.{FrozenPairs, IsFrozenMark}
use Rattle.mars_frozen.proofs.frozen.Frozen.undo_to.Goals as goal

pub invariant_of-self : goal.invariant_of-self
invariant_of-self c =
    let i = c.self.inside in
    let m = subst (λ (f : FrozenPairs). IsFrozenMark f c.args.mark) (sym c.self.view_is) c.requires in
    rw (c.undo_to.ensures, c.undo_to-2.ensures) (undone-in-step i.numbers i.pairs c.args.mark.changes m.numbers m.pairs)
