use Rattle.std.proofs.Common.{◌≡◌, ℕ, slice_get, Some, sym, ap, ◌∙◌, get_or}
use Rattle.std.proofs.lemmas.Option.{slice_get-get_or}
use Rattle.mars_tree.specs.Graph.{kids_of}
use Rattle.mars_reach.specs.Order.{place_in}
use Rattle.mars_comp.specs.Key.{same_part}
use Rattle.mars_comp.proofs.Inner.{inner_met}
use Rattle.mars_first.proofs.Placing.{placed_more}
use Rattle.mars_first.proofs.component.inner_places.Goals as goal

pub push_place-requires-clause-met : goal.push_place-requires-clause-met
push_place-requires-clause-met c t =
    let kids = c.kids-kid-items.result.now in
    let kid : ℕ = get_or kids c.loop-kid.kid-index 0 in
    let at : slice_get (kids_of c.args.graph.now c.args.node) c.loop-kid.kid-index ≡ Some kid =
    ap (λ xs. slice_get xs c.loop-kid.kid-index) (sym c.kids-kid-items.ensures.kids) ∙ slice_get-get_or kids c.loop-kid.kid-index 0 c.loop-kid-test.true in
    inner_met c.args.graph.now c.args.parts.now c.args.starts.now c.args.node kid c.requires.size c.requires.closed (c.loop-kid.kid-index, at) t

pub loop-kid-preserved : goal.loop-kid-preserved
loop-kid-preserved c =
    placed_more (λ kid. same_part c.args.parts.now c.args.node kid) (place_in c.args.starts.now) c.kids-kid-items.result.now c.loop-kid.places.items c.push_place.new.places.items c.loop-kid.kid-index
    c.loop-kid-test.true c.loop-kid.invariant c.in_ok-push_place.ensures
