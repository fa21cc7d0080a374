use Rattle.std.proofs.Common.{◌≡◌, length, get_or, ap, sym, ◌∙◌, subst, arith, slice_get, Some}
use Rattle.mars_rules.specs.RuleLists.{RuleList}
use Rattle.mars_rules.specs.FlatRules.{IsFlatRule}
use Rattle.mars_rules.proofs.Paired.{paired-size}
use Rattle.mars_rules.proofs.Found.{flat-at}
use Rattle.mars_rules.proofs.base.RuleBase.flat.Goals as goal

pub flat_at-requires : goal.flat_at-requires
flat_at-requires c =
    let size = paired-size IsFlatRule c.self.inside.rules.items c.self.inside.flat.items c.self.invariant.flat_are in
    let rules : length c.self.inside.rules.items ≡ length c.args.self.now.rules = ap (λ (l : RuleList). length l.rules) c.self.view_is in
    let h = c.requires in
    omega (arith, size, rules, ap length c.deref.ensures.value)

pub returns : goal.returns
returns c = λ written e.
    let there : slice_get c.self.inside.rules.items c.args.rule ≡ Some written = ap (λ (l : RuleList). slice_get l.rules c.args.rule) c.self.view_is ∙ e in
    let flat = flat-at c.self.inside.rules.items c.self.inside.flat.items c.self.invariant.flat_are c.args.rule written c.flat_at.result.now there in
    subst (IsFlatRule written) (ap (λ fs. get_or fs c.args.rule c.flat_at.result.now) (sym c.deref.ensures.value) ∙ sym c.flat_at.ensures) flat
