use Rattle.std.proofs.Common.{◌≡◌, ◌<◌, ℕ, List, length, get_or, sym, subst, ap, ◌∙◌, arith}
use Rattle.std.proofs.lemmas.List.Elements.{Contains-get_or}
use Rattle.mars_tree.specs.Graph.{Node}
use Rattle.mars_refine.specs.Refine.{class_of}
use Rattle.mars_refine.specs.Classes.{AreMembers}
use Rattle.mars_reach.specs.Image.{IsImage}
use Rattle.mars_minim.proofs.Quotients.{no_firsts, firsts_more, quotient_image, quotient_size, quotient_below}
use Rattle.mars_minim.proofs.smallest.quotient.Goals as goal

-- the first member of a class
first_in : (of members : List ℕ) (class count node : ℕ) → AreMembers of class members → 0 < length members → length of ≡ count → node ≡ get_or members 0 0 → (node < count) × (class_of of node ≡ class)
first_in of members class count node are some size is =
    let member = (are (get_or members 0 0)).0 (Contains-get_or members 0 0 some) in
    (omega (arith, member.0, size, is), ap (class_of of) is ∙ member.1)

pub label-requires : goal.label-requires
label-requires c = (first_in c.args.classes.now.of c.members.result c.loop-class.class (length c.args.graph.now) c.get-node.result c.members.ensures.members c.members.ensures.some c.requires.size c.get-node.ensures).0

pub kids-requires : goal.kids-requires
kids-requires c = (first_in c.args.classes.now.of c.members.result c.loop-class.class (length c.args.graph.now) c.get-node.result c.members.ensures.members c.members.ensures.some c.requires.size c.get-node.ensures).0

pub loop-class-init : goal.loop-class-init
loop-class-init c = no_firsts c.args.graph.now c.args.classes.now.of c.in_ok-labels.labels.items c.new-kids.result.items c.in_ok-labels.ensures.items c.new-kids.ensures.items

pub loop-class-preserved : goal.loop-class-preserved
loop-class-preserved c =
    let g = c.args.graph.now in
    let of : List ℕ = c.args.classes.now.of in
    let first = first_in of c.members.result c.loop-class.class (length g) c.get-node.result c.members.ensures.members c.members.ensures.some c.requires.size c.get-node.ensures in
    firsts_more g of c.loop-class.class c.get-node.result c.loop-class.labels.items c.push.new.self.items c.loop-class.kids.items c.push_classes.new.into.items c.loop-class.invariant first.0 first.1 (record {
      label = c.label.result;
      label_is = c.label.ensures;
      labels_are = c.in_ok-push.ensures.items;
      node_kids = c.kids.result.now;
      node_kids_are = c.kids.ensures.kids;
      kids_are = c.in_ok-push_classes.ensures;
    })

below : (c : goal.After-loop-class) → (u : ℕ) → u < length c.args.graph.now → class_of c.args.classes.now.of u < c.loop-class.class
below c u u_in =
    let in_of : u < length c.args.classes.now.of = omega (arith, u_in, c.requires.size) in
    omega (arith, c.count-class-end.ensures.below u in_of)

pub from_lists-requires-clause-size : goal.from_lists-requires-clause-size
from_lists-requires-clause-size c =
    quotient_size c.args.graph.now c.args.classes.now.of c.len-nodes.ensures.graph c.requires.trees c.loop-class.class c.loop-class.labels.items c.loop-class.kids.items c.loop-class.invariant

pub from_lists-requires-clause-in_range : goal.from_lists-requires-clause-in_range
from_lists-requires-clause-in_range c =
    quotient_below c.args.graph.now c.args.classes.now.of c.len-nodes.ensures.graph c.requires.trees c.loop-class.class c.loop-class.labels.items c.loop-class.kids.items c.loop-class.invariant (below c)

pub returns : goal.returns
returns c =
    let g = c.args.graph.now in
    let of : List ℕ = c.args.classes.now.of in
    let few = λ (u : ℕ) (u_in : u < length g).
    let in_of : u < length of = omega (arith, u_in, c.requires.size) in
    let lt : class_of of u < c.loop-class.class = omega (arith, c.count-class-end.ensures.below u in_of) in lt in
    subst (λ (h : List Node). IsImage g (λ n. n < length g) (class_of of) h) (sym c.in_ok-quotient.ensures)
    (quotient_image g of c.len-nodes.ensures.graph c.requires.trees c.loop-class.class c.loop-class.labels.items c.loop-class.kids.items c.loop-class.invariant few)
