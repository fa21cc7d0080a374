use Rattle.std.proofs.Common.{sym, ◌∙◌, subst}
use Rattle.std.proofs.lemmas.Option.{none-some}
use Rattle.mars_rules.specs.Candidates.{FitsGoal, IsFirstRule}
use Rattle.mars_rules.proofs.Found.{open-first}
use Rattle.mars_rules.proofs.base.RuleBase.candidate_by.Goals as goal

pub returns-in-None : goal.returns-in-None
returns-in-None c =
    open-first c.args.goal c.args.first c.args.self.now.rules c.args.from c.candidate-in-None.result (λ label argument e f. none-some label (sym c.in-None.is ∙ e)) c.candidate-in-None.ensures

pub returns-in-None-first : goal.returns-in-None-first
returns-in-None-first c =
    open-first c.args.goal c.args.first c.args.self.now.rules c.args.from c.candidate.result (λ label argument e f. none-some argument (sym c.in-None-first.is ∙ f))
    (subst (λ g. IsFirstRule (FitsGoal g) c.args.self.now.rules c.args.from c.candidate.result) (sym c.in-Some.is) c.candidate.ensures)
