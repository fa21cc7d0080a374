use Rattle.std.proofs.Common.{ℕ, List, [], ◌∷◌, ◌++◌, set, sym, subst, ap₂, ◌∙◌}
use Rattle.mars_tree.specs.Graph.{Node}
use Rattle.mars_store.specs.System.{IsSystem}
use Rattle.mars_store.proofs.Stored.{stored-bound_to}
use Rattle.mars_store.proofs.store.Store.bind_to.Goals as goal

pub invariant_of-self-2 : goal.invariant_of-self-2
invariant_of-self-2 c =
    rw c.link.ensures.nodes (stored-bound_to c.self.inside.nodes.nodes c.self.inside.nodes.links _ c.self.inside.trail.items _ c.args.self.now c.args.var c.args.to c.self.view_is c.self.invariant
    c.requires.var_in c.requires.free c.requires.end c.requires.labelled (c.in_ok-link.ensures.links ∙ ap₂ (λ (x y : ℕ). set c.self.inside.nodes.links x y) c.var.view_is c.to.view_is)
    (c.in_ok-link.ensures.trail ∙ ap₂ (λ (x y : ℕ). c.self.inside.trail.items ++ (x, y) ∷ []) c.var.view_is c.to.view_is)).0

pub returns-clause-system : goal.returns-clause-system
returns-clause-system c =
    let linked =
    (stored-bound_to c.self.inside.nodes.nodes c.self.inside.nodes.links _ c.self.inside.trail.items _ c.args.self.now c.args.var c.args.to c.self.view_is c.self.invariant
    c.requires.var_in c.requires.free c.requires.end c.requires.labelled (c.in_ok-link.ensures.links ∙ ap₂ (λ (x y : ℕ). set c.self.inside.nodes.links x y) c.var.view_is c.to.view_is)
    (c.in_ok-link.ensures.trail ∙ ap₂ (λ (x y : ℕ). c.self.inside.trail.items ++ (x, y) ∷ []) c.var.view_is c.to.view_is)).0.system in
    subst (λ (ns : List Node). IsSystem (record { nodes = ns; bound = c.link.new.trail.items })) (sym c.link.ensures.nodes) linked
