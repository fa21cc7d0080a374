use Rattle.std.proofs.Common.{◌≡◌, sym, subst, ◌∙◌}
use Rattle.mars_store.specs.System.{IsMark, undone}
use Rattle.mars_frozen.specs.Freezing.{CanWake}
use Rattle.mars_store.proofs.CallerLemmas.{mark_made as store_made, mark_kept as store_kept}
use Rattle.mars_frozen.proofs.CallerLemmas.{mark_kept}
use Rattle.rows_equations.proofs.freezing.run_undone.Goals as goal

pub undo-requires-clause-store : goal.undo-requires-clause-store
undo-requires-clause-store c =
    let s = c.args.world.now.store in
    let made = subst (λ m. IsMark s m) (sym c.mark-store.ensures.mark) (store_made s c.mark-store.ensures.system).0 in
    (store_kept s c.run_all.new.world.store c.mark-store.result c.in_ok-run_all.ensures.grows made).0

pub undo-requires-clause-frozen : goal.undo-requires-clause-frozen
undo-requires-clause-frozen c =
    (mark_kept c.args.world.now.frozen c.run_all.new.world.frozen c.mark-frozen.result c.in_ok-run_all.ensures.later c.mark-frozen.ensures.made).0

pub returns : goal.returns
returns c =
    let s = c.args.world.now.store in
    let made = subst (λ m. IsMark s m) (sym c.mark-store.ensures.mark) (store_made s c.mark-store.ensures.system).0 in
    let same : undone s c.mark-store.result ≡ s = subst (λ m. undone s m ≡ s) (sym c.mark-store.ensures.mark) (store_made s c.mark-store.ensures.system).1 in
    let store : c.undo.new.world.store ≡ s = c.undo.ensures.store ∙ (store_kept s c.run_all.new.world.store c.mark-store.result c.in_ok-run_all.ensures.grows made).1 ∙ same in
    let frozen : c.undo.new.world.frozen ≡ c.args.world.now.frozen =
    c.undo.ensures.frozen ∙ (mark_kept c.args.world.now.frozen c.run_all.new.world.frozen c.mark-frozen.result c.in_ok-run_all.ensures.later c.mark-frozen.ensures.made).1 ∙ c.mark-frozen.ensures.back in
    subst (λ f. CanWake f c.undo.new.world.store) (sym frozen) (subst (λ t. CanWake c.args.world.now.frozen t) (sym store) c.requires)
