use Rattle.std.proofs.Common.{◌+◌, ◌<◌, ◌^◌, Some, ap, sym, subst, refl, ◌∙◌, length}
use Rattle.std.specs.Option.{option_map}
use Rattle.mars_tree.specs.Names.{place_of, AreDistinct}
use Rattle.mars_clauses.specs.Short.{in_32_bits}
use Rattle.mars_read.specs.NameLists.{NameLists, joined_names}
use Rattle.mars_read.proofs.MoreNameFacts.{joined-place, known-found}
use Rattle.mars_read.proofs.more_names.MoreNames.find.Goals as goal

pub returns-in-Some-clause-number : goal.returns-in-Some-clause-number
returns-in-Some-clause-number c =
    let now = c.args.self.now in
    let view = c.self.view_is ∙ c.index_of.ensures.same in
    let distinct = subst (λ (n : NameLists). AreDistinct (joined_names n)) view c.self.invariant.distinct in
    ap Some (c.number_after.ensures ∙ ap (λ n. in_32_bits (n + c.in-Some.index)) (c.self.invariant.first ∙ ap (λ n. length n.known) view)) ∙
    ap (option_map in_32_bits) (sym (joined-place c.args.text.now now.known now.added c.in-Some.index distinct (sym c.in-Some.ensures.place)))

pub returns-in-None-clause-number : goal.returns-in-None-clause-number
returns-in-None-clause-number c =
    let now = c.args.self.now in
    c.known_id.ensures ∙ ap (λ n. place_of c.args.text.now n.known) c.index_of.ensures.same ∙ known-found c.args.text.now now.known now.added (place_of c.args.text.now now.known) refl c.in-None.ensures.place
    (subst (λ (n : NameLists). length n.known < 2 ^ 32) (c.self.view_is ∙ c.index_of.ensures.same) c.self.invariant.few)
