use Rattle.std.proofs.Common.{◌+◌, ap, sym, ◌∙◌, position, nat_eq}
use Rattle.std.specs.Option.{option_map}
use Rattle.std.specs.Cmp.Lexicographic.{pointwise}
use Rattle.mars_tree.proofs.NameLemmas.{place_after, place_of-names}
use Rattle.mars_tree.proofs.names.Names.find.Goals as goal

pub returns-in-Some : goal.returns-in-Some
returns-in-Some c =
    let text = c.args.text.now in
    let added = c.self.inside.added.keys in
    sym (place_of-names text (λ name. name.items) added c.args.self.now c.self.view_is ∙
    ap (λ o. place_after 13 o (position (λ name. pointwise nat_eq text name.items) added)) (sym c.in-Some.ensures))

pub returns-in-Some-get_index_of : goal.returns-in-Some-get_index_of
returns-in-Some-get_index_of c =
    let text = c.args.text.now in
    let added = c.self.inside.added.keys in
    sym (place_of-names text (λ name. name.items) added c.args.self.now c.self.view_is ∙
    ap (λ o. place_after 13 o (position (λ name. pointwise nat_eq text name.items) added)) (sym c.in-None.ensures) ∙
    ap (λ o. option_map (λ j. 13 + j) o) (sym c.in-Some-get_index_of.ensures.index))

pub returns-in-None-get_index_of : goal.returns-in-None-get_index_of
returns-in-None-get_index_of c =
    let text = c.args.text.now in
    let added = c.self.inside.added.keys in
    sym (place_of-names text (λ name. name.items) added c.args.self.now c.self.view_is ∙
    ap (λ o. place_after 13 o (position (λ name. pointwise nat_eq text name.items) added)) (sym c.in-None.ensures) ∙
    ap (λ o. option_map (λ j. 13 + j) o) (sym c.in-None-get_index_of.ensures.index))
