use Rattle.std.proofs.Common.{◌≡◌, ◌∙◌, ◌-◌, ap, refl, sym, subst, length, slice_get}
use Rattle.mars_tree.specs.Graph.{label_of}
use Rattle.mars_graphs.specs.Making.{Making, IsMaking, defined_making, tied_nodes}
use Rattle.mars_graphs.specs.MakingInside.{making_of}
use Rattle.mars_graphs.proofs.Makes.{making-defined, defined-made, left-none}
use Rattle.mars_graphs.proofs.maker.GraphMaker.define.Goals as goal

tied : (c : goal.After-tie) → making_of (record { nodes = c.tie.new.self; terms = c.pop.new.self; heads = c.self.inside.heads; left = c.self.inside.left; twice = c.self.inside.twice })
    ≡ defined_making (making_of c.self.inside) (slice_get (making_of c.self.inside).terms (length (making_of c.self.inside).terms - 1))
tied c = defined-made (making_of c.self.inside) c.tie.new.self c.pop.new.self.items c.in-Some.root c.in-Some.ensures.items
    (c.tie.ensures ∙ ap (λ left. tied_nodes c.self.inside.nodes left c.in-Some.root (label_of c.self.inside.nodes.nodes c.in-Some.root)) (sym c.in-Some-left.is))

pub invariant_of-self-in-Some-left : goal.invariant_of-self-in-Some-left
invariant_of-self-in-Some-left c = subst IsMaking (sym (tied c)) (making-defined (making_of c.self.inside) (slice_get (making_of c.self.inside).terms (length (making_of c.self.inside).terms - 1)) refl c.self.invariant)

pub returns-in-Some-left : goal.returns-in-Some-left
returns-in-Some-left c = tied c ∙ ap (λ (m : Making). defined_making m (slice_get m.terms (length m.terms - 1))) c.self.view_is

pub returns-in_default-left : goal.returns-in_default-left
returns-in_default-left c =
    defined-made (making_of c.self.inside) c.self.inside.nodes c.pop.new.self.items c.in-Some.root c.in-Some.ensures.items (left-none c.self.inside.nodes c.self.inside.left c.in-Some.root c.in_default-left.not-Some)
    ∙ ap (λ (m : Making). defined_making m (slice_get m.terms (length m.terms - 1))) c.self.view_is
