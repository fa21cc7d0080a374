use Rattle.std.proofs.Common.{◌≡◌, sym, subst, Some, None, ◌∙◌}
use Rattle.mars_rules.specs.RuleLists.{RuleList}
use Rattle.mars_rules.specs.Candidates.{FitsFirst, IsFirstRule}
use Rattle.mars_rules.specs.PlacesInside.{IsFirstAllowed, places_of_key}
use Rattle.mars_rules.specs.declared.keys.HeadKey.{HeadKey}
use Rattle.mars_rules.proofs.Found.{among-first}
use Rattle.mars_rules.proofs.base.RuleBase.candidate_of.Goals as goal

pub returns-then-places-le-FEW : goal.returns-then-places-le-FEW
returns-then-places-le-FEW c =
    let base = c.self.invariant in
    let key : HeadKey = record { label = c.args.label; first = None } in
    let places : c.places-places.result.now ≡ places_of_key 0 base.heads_are.keys key = c.places-places.ensures ∙ base.heads_are.filed key in
    let first = subst (λ ns. IsFirstAllowed c.self.inside.keys.items ns c.args.argument c.args.from c.first_allowed.result) places
    (subst (λ ks. IsFirstAllowed ks c.places-places.result.now c.args.argument c.args.from c.first_allowed.result) c.deref.ensures.value c.first_allowed.ensures) in
    subst (λ (l : RuleList). IsFirstRule (FitsFirst (Some c.args.label) (Some c.args.argument)) l.rules c.args.from c.first_allowed.result) c.self.view_is
    (among-first c.args.label c.args.argument c.self.inside.rules.items base.heads_are.keys c.self.inside.keys.items base.heads_are.each base.keys_are c.args.from c.first_allowed.result first)
