use Rattle.std.proofs.Common.{◌≡◌, length, get_or, ap, sym, ◌∙◌, subst, arith, slice_get, Some}
use Rattle.mars_rules.specs.RuleLists.{RuleList}
use Rattle.mars_rules.specs.FlatRules.{IsFlatRule}
use Rattle.mars_rules.proofs.Paired.{paired-size}
use Rattle.mars_rules.proofs.Found.{flat-at, some-flat}
use Rattle.mars_rules.proofs.base.RuleBase.instance.Goals as goal

pub flat_at-requires : goal.flat_at-requires
flat_at-requires c =
    let size = paired-size IsFlatRule c.self.inside.rules.items c.self.inside.flat.items c.self.invariant.flat_are in
    let rules : length c.self.inside.rules.items ≡ length c.args.self.now.rules = ap (λ (l : RuleList). length l.rules) c.self.view_is in
    let h = c.requires in
    omega (arith, size, rules, ap length c.deref.ensures.value)

pub copy_rule-requires : goal.copy_rule-requires
copy_rule-requires c =
    let rules : length c.self.inside.rules.items ≡ length c.args.self.now.rules = ap (λ (l : RuleList). length l.rules) c.self.view_is in
    let h = c.requires in
    let some = some-flat c.self.inside.rules.items c.self.inside.flat.items c.self.invariant.flat_are c.args.rule c.flat_at.result.now (omega arith) in
    (some.0, subst (IsFlatRule some.0) (ap (λ fs. get_or fs c.args.rule c.flat_at.result.now) (sym c.deref.ensures.value) ∙ sym c.flat_at.ensures) some.1)

pub returns-clause-copy : goal.returns-clause-copy
returns-clause-copy c = λ written e.
    let there : slice_get c.self.inside.rules.items c.args.rule ≡ Some written = ap (λ (l : RuleList). slice_get l.rules c.args.rule) c.self.view_is ∙ e in
    let flat = flat-at c.self.inside.rules.items c.self.inside.flat.items c.self.invariant.flat_are c.args.rule written c.flat_at.result.now there in
    c.copy_rule.ensures.copy written (subst (IsFlatRule written) (ap (λ fs. get_or fs c.args.rule c.flat_at.result.now) (sym c.deref.ensures.value) ∙ sym c.flat_at.ensures) flat)
