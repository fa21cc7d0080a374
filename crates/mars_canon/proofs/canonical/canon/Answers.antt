use Rattle.std.proofs.Common.{ℕ, List, subst}
use Rattle.std.proofs.lemmas.Result.{IfOk-weaker}
use Rattle.mars_tree.specs.Canonical.{KeepsWalks}
use Rattle.mars_reach.proofs.Images.{keeps_transitive}
use Rattle.mars_canon.specs.Canon.{Rooted}
use Rattle.mars_canon.proofs.canonical.canon.Goals as goal

pub returns-clause-keeps : goal.returns-clause-keeps
returns-clause-keeps c =
    IfOk-weaker c.numbered.result (λ (r : Rooted). KeepsWalks c.in_ok-minimal.minimal.graph c.as_slice.result.now r.nodes r.roots) (λ (r : Rooted). KeepsWalks c.args.graph.now c.args.roots.now r.nodes r.roots)
    (λ r kept. keeps_transitive c.args.graph.now c.args.roots.now c.in_ok-minimal.minimal.graph c.in_ok-minimal.minimal.roots r.nodes r.roots c.in_ok-minimal.ensures.keeps
    (subst (λ (rs : List ℕ). KeepsWalks c.in_ok-minimal.minimal.graph rs r.nodes r.roots) c.as_slice.ensures kept))
    c.numbered.ensures.keeps
