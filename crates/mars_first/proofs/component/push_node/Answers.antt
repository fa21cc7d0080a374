use Rattle.std.proofs.Common.{◌∷◌, [], List, length, slice_get, unwrap_or, length-append, subst, sym, ap, ◌∙◌}
use Rattle.std.specs.Option.{option_map}
use Rattle.mars_comp.specs.declared.items.Item.{Item}
use Rattle.mars_comp.proofs.Gets.{get_front, get_last}
use Rattle.mars_first.specs.ComponentInside.{HasRowAt}
use Rattle.mars_first.proofs.Staging.{element}
use Rattle.mars_first.proofs.Placing.{component_more}
use Rattle.mars_first.proofs.component.push_node.Goals as goal

pub returns-clause-is : goal.returns-clause-is
returns-clause-is c =
    let old = c.args.component.now in
    let kids = old.places.kids.items in
    let last = c.in_ok-kids.kids in
    let pushed = c.in_ok-push-2.ensures.items in
    component_more c.args.graph.now c.args.parts.now c.args.outside.now c.args.starts.now old
    (record { places = record { numbers = c.push.new.self; kids = c.push-2.new.self }; rows = c.number_of.new.rows })
    c.args.node c.in_ok-number.number c.requires.is c.requires.next
    (subst (λ (row : List Item). HasRowAt old.rows.keys row c.in_ok-number.number c.number_of.new.rows.keys) c.in_ok-row.ensures c.in_ok-number.ensures)
    c.in_ok-push.ensures.items
    (λ p lt.
    let v = element kids p lt in
    ap (λ o. unwrap_or (option_map (λ v. v.items) o) []) (ap (λ xs. slice_get xs p) pushed ∙ get_front kids (last ∷ []) p v.0 v.1 ∙ sym v.1))
    (ap (λ o. unwrap_or (option_map (λ v. v.items) o) []) (ap (λ xs. slice_get xs (length kids)) pushed ∙ get_last kids last) ∙ c.in_ok-kids.ensures)
    (ap length pushed ∙ length-append kids (last ∷ []))
