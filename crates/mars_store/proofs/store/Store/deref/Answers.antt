use Rattle.std.proofs.Common.{◌∙◌, sym}
use Rattle.mars_store.proofs.Stored.{follow-step, follow-end, read-same}
use Rattle.mars_store.proofs.store.Store.deref.Goals as goal

pub loop-last-smaller : goal.loop-last-smaller
loop-last-smaller c =
    let same = read-same c.self.inside.nodes.links c.loop-last.last c.link.result c.link-last.result c.loop-last.invariant.inside c.link.ensures c.link-last.ensures in
    (follow-step _ _ _ c.loop-last.last c.link-last.result c.self.invariant c.loop-last.invariant.inside c.link-last.ensures (λ p. c.loop-last-test.true (same ∙ p))).2

pub loop-last-preserved : goal.loop-last-preserved
loop-last-preserved c =
    let same = read-same c.self.inside.nodes.links c.loop-last.last c.link.result c.link-last.result c.loop-last.invariant.inside c.link.ensures c.link-last.ensures in
    let step = follow-step _ _ _ c.loop-last.last c.link-last.result c.self.invariant c.loop-last.invariant.inside c.link-last.ensures (λ p. c.loop-last-test.true (same ∙ p)) in
    record { inside = step.0; same = step.1 ∙ c.loop-last.invariant.same }

pub returns-clause-end : goal.returns-clause-end
returns-clause-end c =
    rw (← c.self.view_is)
    (sym (follow-end _ _ _ c.loop-last.last c.link.result c.self.invariant c.loop-last.invariant.inside c.link.ensures c.loop-last-test.false).1
    ∙ c.loop-last.invariant.same)

pub returns-clause-unbound : goal.returns-clause-unbound
returns-clause-unbound c =
    rw (← c.self.view_is)
    (follow-end _ _ _ c.loop-last.last c.link.result c.self.invariant c.loop-last.invariant.inside c.link.ensures c.loop-last-test.false).0
