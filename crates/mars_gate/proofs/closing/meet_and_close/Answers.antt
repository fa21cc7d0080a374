use Rattle.std.proofs.Common.{◌≡◌, ◌∙◌, length}
use Rattle.std.specs.Prelude.{All}
use Rattle.std.proofs.lemmas.Result.{IfOk-weaker}
use Rattle.mars_table.specs.History.{of}
use Rattle.mars_table.specs.TableSeen.{TableSeen}
use Rattle.mars_book.specs.PassSeen.{PassSeen}
use Rattle.mars_gate.specs.declared.closing.ClosingReplies.{ClosingReplies}
use Rattle.mars_gate.specs.Closing.{ClosingIsLast, closing_entries}
use Rattle.mars_gate.specs.ClosingInside.{IsClosedBy}
use Rattle.mars_gate.proofs.FinishLemmas.{own_all, closes_all}
use Rattle.mars_gate.proofs.closing.meet_and_close.Goals as goal

pub returns-clause-own : goal.returns-clause-own
returns-clause-own g c =
    let ps = c.args.passes.items in
    let q = c.meet_all-program.result in
    let m = c.meet_all-program.ensures in
    IfOk-weaker c.close.result (λ (r : TableSeen × ClosingReplies). IsClosedBy q.view r.1 r.0.history) (λ (r : TableSeen × ClosingReplies). All (λ (p : PassSeen). of r.0.history p.view.number ≡ p.view.mine) ps)
    (λ r closed. own_all ps q r.1 r.0.history (λ k p at. (c.requires.passes k p at).number) m.knows (m.same.0 ∙ c.requires.program.0.number) (m.same.1 ∙ c.requires.program.1) m.ended m.met closed)
    c.close.ensures.closed

pub returns-clause-closing : goal.returns-clause-closing
returns-clause-closing g c =
    let ps = c.args.passes.items in
    let q = c.meet_all-program.result in
    let m = c.meet_all-program.ensures in
    IfOk-weaker c.close.result (λ (r : TableSeen × ClosingReplies). IsClosedBy q.view r.1 r.0.history) (λ (r : TableSeen × ClosingReplies). ClosingIsLast (length ps) (closing_entries (length ps) r.1) r.0.history)
    (λ r closed. closes_all ps q r.1 r.0.history (λ k p at. (c.requires.passes k p at).number) m.knows (m.same.0 ∙ c.requires.program.0.number) (m.same.1 ∙ c.requires.program.1) m.ended m.met closed)
    c.close.ensures.closed
