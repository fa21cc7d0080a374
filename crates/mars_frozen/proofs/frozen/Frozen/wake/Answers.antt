use Rattle.std.proofs.Common.{◌≡◌, sym, subst, ◌∙◌}
use Rattle.mars_frozen.specs.Freezing.{IsLaterFrozen}
use Rattle.mars_frozen.proofs.Marks.{mark_kept, later-all}
use Rattle.mars_frozen.proofs.frozen.Frozen.wake.Goals as goal

pub returns-in-Err-clause-err : goal.returns-in-Err-clause-err
returns-in-Err-clause-err c =
    c.undo_to.ensures ∙ (mark_kept c.args.self.now c.wake_known.new.self c.mark-mark.result c.wake_known.ensures.after c.mark-mark.ensures.made).1 ∙ c.mark-mark.ensures.back

pub returns-in-Err-clause-after : goal.returns-in-Err-clause-after
returns-in-Err-clause-after c =
    let same : c.undo_to.new.self ≡ c.args.self.now =
    c.undo_to.ensures ∙ (mark_kept c.args.self.now c.wake_known.new.self c.mark-mark.result c.wake_known.ensures.after c.mark-mark.ensures.made).1 ∙ c.mark-mark.ensures.back in
    subst (IsLaterFrozen c.args.self.now) (sym same) (later-all c.args.self.now)
