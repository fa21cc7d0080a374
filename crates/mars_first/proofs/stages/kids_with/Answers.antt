use Rattle.std.proofs.Common.{◌≡◌, ◌<◌, ◌++◌, ◌∷◌, [], ℕ, List, length, arith, Some, slice_get, slice_index_or, subst, sym, take, ap, ◌∙◌}
use Rattle.std.proofs.lemmas.Option.{slice_get-get_or}
use Rattle.mars_comp.proofs.Gets.{take_next}
use Rattle.mars_reach.proofs.Numbers.{All-slice_get}
use Rattle.mars_first.specs.PlacesInside.{kids_of_place}
use Rattle.mars_first.specs.StagesInside.{AreKids}
use Rattle.mars_first.proofs.Staging.{kids_more}
use Rattle.mars_first.proofs.stages.kids_with.Goals as goal

pub loop-node-preserved : goal.loop-node-preserved
loop-node-preserved c =
    let s = c.args.places.now in
    let nodes = c.args.nodes.now in
    let i = c.loop-node.node-index in
    let node = slice_index_or nodes i 0 in
    let at = slice_get-get_or nodes i 0 (omega arith) in
    let kid = c.args.kid in
    let wide = All-slice_get (λ (x : ℕ). kid < length (kids_of_place s x)) nodes i node c.requires.wide at in
    let here = slice_get-get_or (kids_of_place s node) kid 0 wide in
    let y = slice_index_or c.kids.result.now kid 0 in
    let there : slice_get (kids_of_place s node) kid ≡ Some y = here ∙ ap (λ (xs : List ℕ). Some (slice_index_or xs kid 0)) (sym c.kids.ensures) in
    subst (λ (ns : List ℕ). AreKids s kid ns c.push.new.self.items) (sym (take_next nodes i node at))
    (subst (AreKids s kid (take i nodes ++ node ∷ [])) (sym c.in_ok-push.ensures.items)
    (kids_more s kid (take i nodes) c.loop-node.kids.items node y c.loop-node.invariant there))
