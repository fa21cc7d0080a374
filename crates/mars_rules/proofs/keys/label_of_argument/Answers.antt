use Rattle.std.proofs.Common.{◌≡◌, sym, ap, ◌∙◌, slice_get, Some, None}
use Rattle.std.specs.Option.{option_copied}
use Rattle.mars_rules.proofs.TermFacts.{first-label, no-first}
use Rattle.mars_rules.proofs.RuleParts.{argument-short}
use Rattle.mars_rules.proofs.keys.label_of_argument.Goals as goal

pub label_of-requires : goal.label_of-requires
label_of-requires c =
    let there : slice_get c.in-Name.terms 0 ≡ Some c.in-Some.argument.now =
    ap (λ ts. slice_get ts 0) (sym c.as_slice.ensures) ∙ sym c.first.ensures.value ∙ ap option_copied c.in-Some.is in
    argument-short c.args.rule.now c.requires c.in-Name.field-0 c.in-Name.terms c.in-Some.argument.now c.in-Name.is there

pub returns-in-Some : goal.returns-in-Some
returns-in-Some c =
    let there : slice_get c.in-Name.terms 0 ≡ Some c.in-Some.argument.now =
    ap (λ ts. slice_get ts 0) (sym c.as_slice.ensures) ∙ sym c.first.ensures.value ∙ ap option_copied c.in-Some.is in
    c.label_of.ensures ∙ sym (first-label c.args.rule.now.head c.in-Name.field-0 c.in-Name.terms c.in-Some.argument.now c.in-Name.is there)

pub returns-in-None : goal.returns-in-None
returns-in-None c =
    let there : slice_get c.in-Name.terms 0 ≡ None = ap (λ ts. slice_get ts 0) (sym c.as_slice.ensures) ∙ sym c.first.ensures.value ∙ ap option_copied c.in-None.is in
    sym (no-first c.args.rule.now.head c.in-Name.field-0 c.in-Name.terms c.in-Name.is there)
