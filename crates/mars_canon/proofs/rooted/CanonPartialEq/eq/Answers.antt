use Rattle.std.proofs.Common.{subst, sym, ap, ◌∙◌, nat_eq}
use Rattle.std.specs.Cmp.Lexicographic.{pointwise}
use Rattle.mars_canon.specs.Canon.{Rooted, IsCanon}
use Rattle.mars_canon.proofs.Forms.{walks_decided, trees_decided, decided_by_roots, decided_by_nodes}
use Rattle.mars_canon.proofs.rooted.CanonPartialEq.eq.Goals as goal

pub returns-then-eq-clause-same : goal.returns-then-eq-clause-same
returns-then-eq-clause-same c =
    decided_by_roots c.self.inside.graph c.other.inside.graph c.self.inside.roots c.other.inside.roots c.args.self.now c.args.other.now
    (sym (ap (λ (x : Rooted). x.nodes) c.self.view_is)) (sym (ap (λ (x : Rooted). x.roots) c.self.view_is)) (sym (ap (λ (x : Rooted). x.nodes) c.other.view_is)) (sym (ap (λ (x : Rooted). x.roots) c.other.view_is))
    c.eq.result c.eq.ensures.same c.eq-then-eq.result (c.eq-then-eq.ensures ∙ ap (λ rs. pointwise nat_eq rs c.as_slice-then-eq.result.now) c.as_slice.ensures ∙ ap (pointwise nat_eq c.self.inside.roots) c.as_slice-then-eq.ensures) c.if-eq.true

pub returns-then-eq-clause-walks : goal.returns-then-eq-clause-walks
returns-then-eq-clause-walks c = walks_decided c.args.self.now c.args.other.now c.eq-then-eq.result (subst IsCanon c.self.view_is c.self.invariant) (subst IsCanon c.other.view_is c.other.invariant) (returns-then-eq-clause-same c)

pub returns-then-eq-clause-trees : goal.returns-then-eq-clause-trees
returns-then-eq-clause-trees c = trees_decided c.args.self.now c.args.other.now c.eq-then-eq.result (subst IsCanon c.self.view_is c.self.invariant) (subst IsCanon c.other.view_is c.other.invariant) (returns-then-eq-clause-same c)

pub returns-else-eq-clause-same : goal.returns-else-eq-clause-same
returns-else-eq-clause-same c =
    decided_by_nodes c.self.inside.graph c.other.inside.graph c.self.inside.roots c.other.inside.roots c.args.self.now c.args.other.now
    (sym (ap (λ (x : Rooted). x.nodes) c.self.view_is)) (sym (ap (λ (x : Rooted). x.roots) c.self.view_is)) (sym (ap (λ (x : Rooted). x.nodes) c.other.view_is)) (sym (ap (λ (x : Rooted). x.roots) c.other.view_is))
    c.eq.result c.eq.ensures.same c.if-eq.false

pub returns-else-eq-clause-walks : goal.returns-else-eq-clause-walks
returns-else-eq-clause-walks c = walks_decided c.args.self.now c.args.other.now c.eq.result (subst IsCanon c.self.view_is c.self.invariant) (subst IsCanon c.other.view_is c.other.invariant) (returns-else-eq-clause-same c)

pub returns-else-eq-clause-trees : goal.returns-else-eq-clause-trees
returns-else-eq-clause-trees c = trees_decided c.args.self.now c.args.other.now c.eq.result (subst IsCanon c.self.view_is c.self.invariant) (subst IsCanon c.other.view_is c.other.invariant) (returns-else-eq-clause-same c)
