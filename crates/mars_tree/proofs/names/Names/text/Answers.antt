use Rattle.std.proofs.Common.{Some, sym, ap, ◌∙◌, ◌-◌, ◌+◌, ◌++◌, ◌≡◌, map, slice_get, arith}
use Rattle.std.proofs.lemmas.Option.{slice_get-map}
use Rattle.std.specs.Option.{option_map}
use Rattle.mars_tree.specs.Names.{built_in_names}
use Rattle.mars_base.proofs.ListFacts.{get-append_after}
use Rattle.mars_tree.proofs.names.Names.text.Goals as goal

pub returns-else-place-lt13 : goal.returns-else-place-lt13
unfolding built_in_names
returns-else-place-lt13 c =
    let place = c.args.id.0 in
    let at : place ≡ 13 + (place - 13) = omega arith in
    ap (λ names. slice_get names place) (sym c.self.view_is) ∙
    ap (λ i. slice_get (built_in_names ++ map (λ text. text.items) c.self.inside.added.keys) i) at ∙
    get-append_after built_in_names (map (λ text. text.items) c.self.inside.added.keys) (place - 13) ∙
    slice_get-map (λ text. text.items) c.self.inside.added.keys (place - 13) ∙
    ap (option_map (λ text. text.items)) c.index.ensures ∙ ap Some (sym c.as_slice.ensures.value)
