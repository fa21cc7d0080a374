use Rattle.std.proofs.Common.{ap, ◌∙◌}
use Rattle.mars_term.proofs.SameLemmas.{same_by}
use Rattle.mars_rules.specs.RuleLists.{RuleList}
use Rattle.mars_rules.specs.BaseEquality.{same_base}
use Rattle.mars_rules.specs.BaseEqualityLaws.{base_decides}
use Rattle.mars_rules.proofs.base.RuleBasePartialEq.eq.Goals as goal

pub returns-clause-value : goal.returns-clause-value
returns-clause-value c =
    c.same_parts.ensures
    ∙ ap (λ rs. same_base (record { rules = rs; version = c.self.inside.version }) (record { rules = c.deref-2.result.now; version = c.other.inside.version })) c.deref.ensures.value
    ∙ ap (λ rs. same_base (record { rules = c.self.inside.rules.items; version = c.self.inside.version }) (record { rules = rs; version = c.other.inside.version })) c.deref-2.ensures.value
    ∙ ap (λ (l : RuleList). same_base l (record { rules = c.other.inside.rules.items; version = c.other.inside.version })) c.self.view_is
    ∙ ap (same_base c.args.self.now) c.other.view_is

pub returns-clause-same : goal.returns-clause-same
returns-clause-same c = same_by c.same_parts.result _ (returns-clause-value c) (base_decides c.args.self.now c.args.other.now)
