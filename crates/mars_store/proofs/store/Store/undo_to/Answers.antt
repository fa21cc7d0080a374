use Rattle.std.proofs.Common.{◌∙◌, ap, arith}
use Rattle.mars_store.specs.System.{System}
use Rattle.mars_store.specs.CellsInside.{LinkedNodes}
use Rattle.mars_store.proofs.Stored.{undo-step, undo-end, front-graph}
use Rattle.mars_store.proofs.store.Store.undo_to.Goals as goal

pub loop-self-preserved : goal.loop-self-preserved
loop-self-preserved c =
    let step = undo-step _ _ _ c.pop.new.self.items c.in-Some.var c.in-Some.field-0-1 c.args.mark.bound c.loop-self.invariant.stored c.in-Some.ensures.items (omega (arith, c.in-Some.ensures.len)) in
    record { stored = rw (c.set_link.ensures.nodes, c.set_link.ensures.links) step.0; nodes = c.set_link.ensures.nodes ∙ c.loop-self.invariant.nodes; front = step.1 ∙ c.loop-self.invariant.front; more = omega (arith, c.in-Some.ensures.len) }

pub truncate-requires-clause-graph : goal.truncate-requires-clause-graph
truncate-requires-clause-graph c =
    front-graph (record { nodes = c.loop-self.self-inside.nodes.nodes; bound = c.loop-self.self-inside.trail.items }) c.args.mark.nodes c.loop-self.invariant.stored.system
    (rw (c.loop-self.invariant.nodes ∙ ap (λ (s : System). s.nodes) c.self.view_is) c.requires.nodes)

pub invariant_of-self : goal.invariant_of-self
invariant_of-self c =
    (undo-end c.loop-self.self-inside.nodes.nodes _ _ _ _ _ c.args.self.now c.args.mark c.loop-self.invariant.stored c.loop-self.invariant.front
    (ap (λ nodes. let s : System = record { nodes = nodes; bound = c.self.inside.trail.items } in s) c.loop-self.invariant.nodes ∙ c.self.view_is) c.requires
    (omega arith) (ap (λ (all : LinkedNodes). all.nodes) c.truncate.ensures) (ap (λ (all : LinkedNodes). all.links) c.truncate.ensures)).0
