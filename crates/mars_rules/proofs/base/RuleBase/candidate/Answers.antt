use Rattle.std.proofs.Common.{Some, None, sym, subst, ◌≡◌, ap, ◌∙◌}
use Rattle.mars_rules.specs.RuleLists.{RuleList}
use Rattle.mars_rules.specs.Candidates.{FitsGoal, IsFirstRule}
use Rattle.mars_rules.specs.PlacesInside.{IsFirstFrom, IsRising, places_of_key}
use Rattle.mars_rules.specs.declared.keys.HeadKey.{HeadKey}
use Rattle.mars_rules.proofs.Filing.{first_is, places_rise}
use Rattle.mars_rules.proofs.Found.{head-first}
use Rattle.mars_rules.proofs.base.RuleBase.candidate.Goals as goal

pub returns-in-Some : goal.returns-in-Some
returns-in-Some c =
    let heads = c.self.invariant.heads_are in
    let key : HeadKey = record { label = c.in-Some.label; first = None } in
    let places : c.places.result.now ≡ places_of_key 0 heads.keys key = c.places.ensures ∙ heads.filed key in
    let first = subst (λ ns. IsFirstFrom ns c.args.from c.first_from.result) places (c.first_from.ensures (subst IsRising (sym places) (places_rise 0 heads.keys key))) in
    let found = head-first c.in-Some.label c.self.inside.rules.items heads.keys heads.each c.args.from c.first_from.result (first_is heads.keys key c.args.from c.first_from.result first) in
    subst (λ g. IsFirstRule (FitsGoal g) c.args.self.now.rules c.args.from c.first_from.result) (sym c.in-Some.is)
    (subst (λ (l : RuleList). IsFirstRule (FitsGoal (Some c.in-Some.label)) l.rules c.args.from c.first_from.result) c.self.view_is found)

pub returns-in-None : goal.returns-in-None
returns-in-None c =
    subst (λ g. IsFirstRule (FitsGoal g) c.args.self.now.rules c.args.from c.any_from.result) (sym c.in-None.is)
    (subst (λ (l : RuleList). IsFirstRule (FitsGoal None) l.rules c.args.from c.any_from.result) c.self.view_is
    (subst (λ rules. IsFirstRule (FitsGoal None) rules c.args.from c.any_from.result) c.deref.ensures.value c.any_from.ensures))
