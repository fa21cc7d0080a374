use Rattle.std.proofs.Common.{◌≡◌, ◌≢◌, ◌∙◌, sym, rules, arith}
use Rattle.mars_store.proofs.CallerLemmas.{resolve-unbound}
use Rattle.mars_tree.specs.Label.{arity_of}
use Rattle.mars_unify.proofs.Meetings.{free-end, met-same, met-apart, met-pair, met-leaf, met-bound, met-bound_back}
use Rattle.mars_unify.proofs.unification.meet.Goals as goal

pub returns-then-eq-clause-met : goal.returns-then-eq-clause-met
returns-then-eq-clause-met c =
    let same : c.deref-x.result ≡ c.deref-y.result = search rules in
    met-same c.args.store.now _ c.args.a c.args.b _ _ c.deref-x.ensures.end c.deref-y.ensures.end c.deref-x.ensures.system c.requires.met same

pub returns-then-ne-clause-met : goal.returns-then-ne-clause-met
returns-then-ne-clause-met c =
    met-apart c.args.store.now c.args.a c.args.b _ _ c.in-Some-Some.left c.in-Some-Some.right c.deref-x.ensures.end c.deref-y.ensures.end c.deref-x.ensures.unbound c.deref-y.ensures.unbound
    c.in-Some-Some.ensures.label c.in-Some-Some.ensures'.label (search rules)

pub bind-requires-clause-free : goal.bind-requires-clause-free
bind-requires-clause-free c = free-end c.args.store.now c.deref-y.result c.deref-y.ensures.unbound c.in-Some-None.ensures'.label

pub bind-requires-clause-end : goal.bind-requires-clause-end
bind-requires-clause-end c = resolve-unbound c.args.store.now.bound c.deref-y.result c.deref-y.ensures.unbound

pub bind-requires-clause-elsewhere : goal.bind-requires-clause-elsewhere
bind-requires-clause-elsewhere c =
    let apart : c.deref-x.result ≢ c.deref-y.result = search rules in
    λ e. apart (sym (resolve-unbound c.args.store.now.bound c.deref-x.result c.deref-x.ensures.unbound) ∙ e)

pub bind-requires-in-None-default-clause-free : goal.bind-requires-in-None-default-clause-free
bind-requires-in-None-default-clause-free c = free-end c.args.store.now c.deref-x.result c.deref-x.ensures.unbound (sym c.in-None-default.is-0 ∙ c.root_label.ensures.label)

pub bind-requires-in-None-default-clause-end : goal.bind-requires-in-None-default-clause-end
bind-requires-in-None-default-clause-end c = resolve-unbound c.args.store.now.bound c.deref-x.result c.deref-x.ensures.unbound

pub bind-requires-in-None-default-clause-elsewhere : goal.bind-requires-in-None-default-clause-elsewhere
bind-requires-in-None-default-clause-elsewhere c =
    let apart : c.deref-x.result ≢ c.deref-y.result = search rules in
    λ e. apart (sym e ∙ resolve-unbound c.args.store.now.bound c.deref-y.result c.deref-y.ensures.unbound)

pub returns-in_ok-add-in-Some-Some-clause-met : goal.returns-in_ok-add-in-Some-Some-clause-met
returns-in_ok-add-in-Some-Some-clause-met c =
    met-pair c.args.store.now _ _ c.args.a c.args.b _ _ c.in-Some-Some.left c.in-Some-Some.right c.deref-x.ensures.end c.deref-y.ensures.end c.deref-x.ensures.unbound c.deref-y.ensures.unbound
    c.deref-x.ensures.system c.requires.met c.in-Some-Some.ensures.label c.in-Some-Some.ensures'.label (search rules) c.in_ok-add-in-Some-Some.ensures.ok

pub returns-else-arity-gt0-clause-met : goal.returns-else-arity-gt0-clause-met
returns-else-arity-gt0-clause-met c =
    let none : arity_of c.in-Some-Some.left ≡ 0 = omega (arith, c.arity.ensures) in
    met-leaf c.args.store.now _ c.args.a c.args.b _ _ c.in-Some-Some.left c.in-Some-Some.right c.deref-x.ensures.end c.deref-y.ensures.end c.deref-x.ensures.unbound c.deref-y.ensures.unbound
    c.deref-x.ensures.system c.requires.met c.in-Some-Some.ensures.label c.in-Some-Some.ensures'.label (search rules) none

pub returns-in_ok-bind-in-Some-None-clause-met : goal.returns-in_ok-bind-in-Some-None-clause-met
returns-in_ok-bind-in-Some-None-clause-met c =
    met-bound_back c.args.store.now _ _ c.args.a c.args.b _ _ c.deref-x.ensures.end c.deref-y.ensures.end c.deref-x.ensures.unbound
    c.in_ok-bind-in-Some-None.ensures.system c.requires.met c.in_ok-bind-in-Some-None.ensures.ok

pub returns-in_ok-bind-in-None-default-clause-met : goal.returns-in_ok-bind-in-None-default-clause-met
returns-in_ok-bind-in-None-default-clause-met c =
    met-bound c.args.store.now _ _ c.args.a c.args.b _ _ c.deref-x.ensures.end c.deref-y.ensures.end c.deref-y.ensures.unbound
    c.in_ok-bind-in-None-default.ensures.system c.requires.met c.in_ok-bind-in-None-default.ensures.ok
