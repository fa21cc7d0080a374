use Rattle.std.proofs.Common.{sym, subst, ℕ, List, Option, IfOk}
use Rattle.std.specs.Option.{option_map}
use Rattle.mars_answer.specs.declared.answers.Answer.{Answer}
use Rattle.mars_session.specs.declared.named.Named.{Named}
use Rattle.mars_session.specs.CommandActs.{KeepsRoot, KeepsVariable}
use Rattle.mars_session.specs.ActsInside.{IsAct}
use Rattle.mars_session.proofs.acts.keep_variable.Goals as goal

pub returns-in-Some : goal.returns-in-Some
returns-in-Some c =
    let r = c.keep_root.result in
    let latest = c.args.latest.now in
    subst (λ (o : Option Answer). IfOk r (λ act. (names : List Named) → IsAct names (KeepsVariable c.args.name c.args.var latest.vars.now (option_map (λ (a : Answer). a.canon) o)) act)) (sym c.in-Some.is)
    (subst (λ (o : Option ℕ). IfOk r (λ act. (names : List Named) → IsAct names (KeepsRoot c.args.name c.in-Some.answer.canon o) act)) c.place_of_variable.ensures c.keep_root.ensures)
