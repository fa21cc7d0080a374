use Rattle.std.proofs.Common.{◌≡◌, List, IfOk, OnErr, sym, subst, ap, ◌∙◌}
use Rattle.mars_table.specs.declared.entry.Entry.{Entry}
use Rattle.mars_table.specs.History.{OwnsFor, of}
use Rattle.mars_table.proofs.PinLemmas.{calls_are_own}
use Rattle.mars_turn.specs.declared.pass_view.PassView.{PassView}
use Rattle.mars_turn.specs.Passes.{pass_view, turn_of}
use Rattle.mars_turn.specs.Steps.{Leaves}
use Rattle.mars_book.specs.PassSeen.{PassSeen}
use Rattle.mars_book.specs.BookCalls.{Called}
use Rattle.mars_book.proofs.CalledLemmas.{entry_by, called, as_before}
use Rattle.mars_book.proofs.book.Book.call.Goals as goal

-- whether the caller may make the call is told by its own entries
pub apply-reply-requires : goal.apply-reply-requires
apply-reply-requires g c =
    let t = c.enter-shared.result.table in
    let own : of t.history c.number-who.result ≡ c.args.pass.now.view.mine =
    ap (of t.history) c.number-who.ensures ∙ c.enter-shared.ensures.entered.own ∙ ap (λ (p : PassSeen). p.view.mine) c.pass.view_is in
    (calls_are_own t.cap t.history c.number-who.result c.args.call c.history-before.ensures.legal).1 (subst (λ (xs : List Entry). OwnsFor xs c.args.call) (sym own) c.requires.may)

pub returns-clause-called : goal.returns-clause-called
returns-clause-called g c =
    let p = c.pass.inside.pass in
    let q = c.leave.new.pass in
    let old : PassSeen = record { turn = turn_of p; view = pass_view p } in
    let new : PassSeen = record { turn = turn_of q; view = pass_view q } in
    let t = c.enter-shared.result.table in
    let u = c.apply-reply.new.self in
    let entered = c.enter-shared.ensures.entered in
    let leaves = subst (λ (v : PassView Entry). Leaves entry_by v u.history (pass_view q)) entered.view c.leave.ensures.left in
    subst (λ (before : PassSeen). IfOk c.apply-reply.result (λ reply. Called before c.args.call reply new)) c.pass.view_is
    (called old new (c.leave.ensures.of ∙ c.enter-shared.ensures.of) t u c.number-who.result c.args.call c.pass.invariant.outside entered.same_fixed entered.seen_first c.number-who.ensures leaves c.apply-reply.result c.apply-reply.ensures.applied)

pub returns-clause-as_before : goal.returns-clause-as_before
returns-clause-as_before g c =
    let p = c.pass.inside.pass in
    let q = c.leave.new.pass in
    let old : PassSeen = record { turn = turn_of p; view = pass_view p } in
    let new : PassSeen = record { turn = turn_of q; view = pass_view q } in
    let t = c.enter-shared.result.table in
    let u = c.apply-reply.new.self in
    let entered = c.enter-shared.ensures.entered in
    let leaves = subst (λ (v : PassView Entry). Leaves entry_by v u.history (pass_view q)) entered.view c.leave.ensures.left in
    subst (λ (before : PassSeen). OnErr c.apply-reply.result (new ≡ before)) c.pass.view_is
    (as_before old new (c.leave.ensures.of ∙ c.enter-shared.ensures.of) t u c.number-who.result c.args.call c.pass.invariant.outside entered.same_fixed entered.seen_first c.number-who.ensures leaves c.apply-reply.result c.apply-reply.ensures.as_before)
