use Rattle.std.proofs.Common.{sym, subst, Some}
use Rattle.mars_rules.specs.RuleLists.{RuleList}
use Rattle.mars_rules.specs.BaseInside.{earlier_of}
use Rattle.mars_rules.specs.Candidates.{FitsFirst, IsFirstRule}
use Rattle.mars_rules.proofs.Found.{by-first}
use Rattle.mars_rules.proofs.base.RuleBase.candidate_of_many.Goals as goal

pub returns : goal.returns
returns c =
    let base = c.self.invariant in
    let found =
    by-first c.args.label c.args.argument c.self.inside.rules.items c.self.inside.keys.items base.keys_are c.args.from c.first_place.result c.first_place-2.result (c.first_place.ensures c.self.inside.keys.items base.firsts_are)
    (c.first_place-2.ensures c.self.inside.keys.items base.firsts_are) in
    subst (λ r. IsFirstRule (FitsFirst (Some c.args.label) (Some c.args.argument)) c.args.self.now.rules c.args.from r) (sym c.earlier.ensures)
    (subst (λ (l : RuleList). IsFirstRule (FitsFirst (Some c.args.label) (Some c.args.argument)) l.rules c.args.from (earlier_of c.first_place.result c.first_place-2.result)) c.self.view_is found)
