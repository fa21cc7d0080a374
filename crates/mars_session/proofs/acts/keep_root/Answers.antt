use Rattle.std.proofs.Common.{sym, subst, ℕ, List, Option, IfOk}
use Rattle.mars_tree.specs.Graph.{Node}
use Rattle.mars_session.specs.declared.named.Named.{Named}
use Rattle.mars_session.specs.CommandActs.{KeepsTree, KeepsRoot}
use Rattle.mars_session.specs.ActsInside.{IsAct}
use Rattle.mars_session.proofs.acts.keep_root.Goals as goal

pub returns-in-Some : goal.returns-in-Some
returns-in-Some c =
    let r = c.keep_tree.result in
    let canon = c.args.canon.now in
    let name = c.args.name in
    subst (λ (o : Option ℕ). IfOk r (λ act. (names : List Named) → IsAct names (KeepsRoot name canon o) act)) (sym c.in-Some.is)
    (subst (λ (n : ℕ). IfOk r (λ act. (names : List Named) → IsAct names (KeepsTree name canon.nodes n) act)) c.root_at.ensures
    (subst (λ (g : List Node). IfOk r (λ act. (names : List Named) → IsAct names (KeepsTree name g c.root_at.result) act)) c.graph.ensures.nodes c.keep_tree.ensures))
