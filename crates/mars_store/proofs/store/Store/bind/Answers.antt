use Rattle.std.proofs.Common.{◌≡◌, ℕ, List, [], ◌∷◌, ◌++◌, set, sym, subst, ap, ap₂, ◌∙◌}
use Rattle.mars_tree.specs.Graph.{Node}
use Rattle.mars_store.specs.System.{IsSystem, equation_of}
use Rattle.mars_store.proofs.Stored.{stored-linked_view}
use Rattle.mars_store.proofs.store.Store.bind.Goals as goal

pub invariant_of-self-2 : goal.invariant_of-self-2
invariant_of-self-2 c =
    let young : c.in_order-young.result ≡ equation_of c.args.self.now.nodes c.args.var c.deref-last.result =
    c.in_order-young.ensures ∙ ap₂ (equation_of c.args.self.now.nodes) c.var.view_is c.last.view_is in
    rw c.link.ensures.nodes (stored-linked_view c.self.inside.nodes.nodes c.self.inside.nodes.links _ c.self.inside.trail.items _ c.args.self.now c.args.var c.deref-last.result c.self.view_is c.self.invariant
    c.requires.var_in c.requires.free c.requires.end c.deref-last.ensures.inside c.deref-last.ensures.unbound
    (λ p. c.requires.elsewhere (sym c.deref-last.ensures.end ∙ p))
    (c.in_ok-link.ensures.links ∙ ap (λ (e : ℕ × ℕ). set c.self.inside.nodes.links e.0 e.1) young)
    (c.in_ok-link.ensures.trail ∙ ap (λ (e : ℕ × ℕ). c.self.inside.trail.items ++ e ∷ []) young)).0

pub returns-clause-system : goal.returns-clause-system
returns-clause-system c =
    let young : c.in_order-young.result ≡ equation_of c.args.self.now.nodes c.args.var c.deref-last.result =
    c.in_order-young.ensures ∙ ap₂ (equation_of c.args.self.now.nodes) c.var.view_is c.last.view_is in
    let linked =
    (stored-linked_view c.self.inside.nodes.nodes c.self.inside.nodes.links _ c.self.inside.trail.items _ c.args.self.now c.args.var c.deref-last.result c.self.view_is c.self.invariant
    c.requires.var_in c.requires.free c.requires.end c.deref-last.ensures.inside c.deref-last.ensures.unbound
    (λ p. c.requires.elsewhere (sym c.deref-last.ensures.end ∙ p))
    (c.in_ok-link.ensures.links ∙ ap (λ (e : ℕ × ℕ). set c.self.inside.nodes.links e.0 e.1) young)
    (c.in_ok-link.ensures.trail ∙ ap (λ (e : ℕ × ℕ). c.self.inside.trail.items ++ e ∷ []) young)).0.system in
    subst (λ (ns : List Node). IsSystem (record { nodes = ns; bound = c.link.new.trail.items })) (sym c.link.ensures.nodes) linked
