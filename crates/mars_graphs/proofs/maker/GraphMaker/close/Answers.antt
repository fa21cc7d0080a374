use Rattle.std.proofs.Common.{◌≡◌, ◌∙◌, ◌++◌, ◌∷◌, [], ap, sym, subst, refl, take, length, ◌-◌, arith, Some}
use Rattle.std.specs.Prelude.{min}
use Rattle.mars_graphs.specs.Steps.{label_over}
use Rattle.mars_graphs.specs.Making.{Making, IsMaking, closed_making}
use Rattle.mars_graphs.specs.MakingInside.{making_of}
use Rattle.mars_graphs.proofs.Makes.{making-closed, closed-made, rest-of}
use Rattle.mars_graphs.proofs.maker.GraphMaker.close.Goals as goal

-- the terms after room was made, as the code sees them
terms-are : (c : goal.After-push_reserved) → c.deref.result.now ≡ c.self.inside.terms.items
terms-are c = c.deref.ensures.value ∙ c.in_ok-reserve.ensures.items

before-is : (c : goal.After-push_reserved) → c.min-before.result ≡ min c.in-Some.before (length c.self.inside.terms.items)
before-is c = omega (arith, c.min-before.ensures, c.len.ensures, ap length c.in_ok-reserve.ensures.items)

label-is : (c : goal.After-push_reserved) → label_over c.in-Some.head (length c.self.inside.terms.items - c.min-before.result) ≡ Some c.in-Some-label_over.label
label-is c = ap (label_over c.in-Some.head) (omega (arith, c.len-2.ensures, ap length c.in_ok-reserve.ensures.items)) ∙ sym c.label_over.ensures ∙ c.in-Some-label_over.is

closed : (c : goal.After-push_reserved) → making_of (record { nodes = c.apply.new.self; terms = c.push_reserved.new.self; heads = c.pop.new.self; left = c.self.inside.left; twice = c.self.inside.twice }) ≡ closed_making (making_of c.self.inside) (making_of c.self.inside).heads
closed c = closed-made (making_of c.self.inside) c.apply.new.self c.push_reserved.new.self.items _ c.self.inside.heads.items c.pop.new.self.items c.in-Some.head c.in-Some.before c.min-before.result c.in_ok-node.node c.in-Some-label_over.label
    refl c.in-Some.ensures.items (before-is c) (label-is c) (rest-of c.deref.result.now c.self.inside.terms.items c.min-before.result (terms-are c)) c.in_ok-node.ensures.node c.in_ok-node.ensures.ok
    (c.push_reserved.ensures.items ∙ ap (λ terms. terms ++ c.in_ok-node.node ∷ []) (c.truncate.ensures.items ∙ ap (take c.min-before.result) c.in_ok-reserve.ensures.items))

pub invariant_of-self-2 : goal.invariant_of-self-2
invariant_of-self-2 c = subst IsMaking (sym (closed c)) (making-closed (making_of c.self.inside) (making_of c.self.inside).heads c.self.invariant)

pub returns : goal.returns
returns c = closed c ∙ ap (λ (m : Making). closed_making m m.heads) c.self.view_is
