use Rattle.std.proofs.Common.{◌≡◌, ap, subst, sym, ◌∙◌}
use Rattle.mars_store.specs.System.{resolve}
use Rattle.mars_store.proofs.CallerLemmas.{resolve-unbound}
use Rattle.mars_val.proofs.Working.{met-none}
use Rattle.mars_val.proofs.operand.operand_of.Goals as goal

pub returns-in-None-clause-told : goal.returns-in-None-clause-told
returns-in-None-clause-told c =
    (c.deref-end.ensures.end, c.deref-end.ensures.inside, resolve-unbound c.args.store.now.bound c.deref-end.result c.deref-end.ensures.unbound, c.in-None.ensures)

pub returns-in-None-clause-last : goal.returns-in-None-clause-last
returns-in-None-clause-last c =
    subst (λ n. resolve c.args.store.now.bound n ≡ n) c.deref-end.ensures.end (resolve-unbound c.args.store.now.bound c.deref-end.result c.deref-end.ensures.unbound)

pub returns-in-Some-values-clause-last : goal.returns-in-Some-values-clause-last
returns-in-Some-values-clause-last c =
    subst (λ n. resolve c.args.store.now.bound n ≡ n) c.deref-end.ensures.end (resolve-unbound c.args.store.now.bound c.deref-end.result c.deref-end.ensures.unbound)

pub returns-in-None-values-clause-last : goal.returns-in-None-values-clause-last
returns-in-None-values-clause-last c =
    subst (λ n. resolve c.args.store.now.bound n ≡ n) c.deref-end.ensures.end (resolve-unbound c.args.store.now.bound c.deref-end.result c.deref-end.ensures.unbound)

pub returns-in-None-values-clause-told : goal.returns-in-None-values-clause-told
returns-in-None-values-clause-told c = let h = c.in-None-values.is in met-none c.args.terms.now c.args.values.now c.in-Some.place c.deref-end.result (resolve c.args.store.now.bound c.args.kid) c.requires.sizes c.in-Some.ensures c.deref-end.ensures.end h
