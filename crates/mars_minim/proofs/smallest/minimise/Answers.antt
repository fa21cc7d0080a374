use Rattle.std.proofs.Common.{◌≡◌, ◌++◌, List, ℕ, map, ap, ◌∙◌}
use Rattle.mars_refine.specs.Refine.{class_of}
use Rattle.mars_minim.proofs.Quotients.{quotient_shows}
use Rattle.mars_minim.proofs.smallest.minimise.Goals as goal

pub returns : goal.returns
returns c =
    let part = c.in_ok-part.part in
    let of : List ℕ = c.in_ok-classes.classes.of in
    let placed : c.from_list.result ≡ map (class_of of) part.roots =
    c.from_list.ensures ∙ c.in_ok-push_classes.ensures ∙ ap (λ (xs : List ℕ). xs ++ map (class_of of) c.as_slice.result.now) c.new-places.ensures.items ∙ ap (map (class_of of)) c.as_slice.ensures in
    let s = quotient_shows c.args.graph.now c.args.roots.now part.graph part.roots of c.in_ok-graph.graph c.from_list.result c.in_ok-part.ensures.shows c.in_ok-part.ensures.graph c.in_ok-classes.ensures.trees c.in_ok-graph.ensures placed in
    record { keeps = s.keeps; minimal = s.minimal; graph = s.graph; roots_in = s.roots_in; small = s.small }
