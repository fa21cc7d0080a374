use Rattle.std.proofs.Common.{◌≡◌, ◌∙◌, subst, sym, length, get_or, None, arith}
use Rattle.std.specs.Vec.{vec_len}
use Rattle.std.proofs.lemmas.Bool.{eqb-true}
use Rattle.std.proofs.lemmas.List.{get_or_default}
use Rattle.std.proofs.lemmas.List.Elements.{All-get_or}
use Rattle.mars_store.specs.System.{resolve}
use Rattle.mars_store.proofs.CallerLemmas.{resolve-unbound}
use Rattle.mars_val.specs.NumberInside.{IsStepped}
use Rattle.mars_val.proofs.Working.{work-begins, work-done, number-of-end}
use Rattle.mars_val.proofs.evaluation.eval_path.Goals as goal

pub loop-work-init : goal.loop-work-init
loop-work-init c =
    let s = c.args.store.now in
    let b = work-begins s c.args.node c.deref.result c.open.new.work.terms c.new.result c.open.new.work.values.items c.new-2.result.items c.open.new.work.path.items c.new-3.result.items c.deref.ensures.end c.deref.ensures.inside
    (resolve-unbound s.bound c.deref.result c.deref.ensures.unbound) c.new.ensures c.new-2.ensures.items c.new-3.ensures.items c.in_ok-open.ensures.terms c.in_ok-open.ensures.values c.in_ok-open.ensures.path c.in_ok-open.ensures.distinct in
    record { work = b.0; first = b.1 }

pub returns-then-not-branch : goal.returns-then-not-branch
returns-then-not-branch c =
    let s = c.args.store.now in
    let w = c.loop-work.work in
    let i = c.loop-work.invariant in
    let none = subst (λ on. IsStepped s w.terms w.path.items c.step.new.work.terms c.step.new.work.values.items c.step.new.work.path.items on) c.if-not-branch.true c.in_ok-step.ensures in
    number-of-end s c.args.node (get_or w.terms 0 0) None i.first (All-get_or (λ n. resolve s.bound n ≡ n) w.terms 0 0 i.work.some i.work.ends) none

pub returns : goal.returns
returns c =
    let s = c.args.store.now in
    let w = c.loop-work.work in
    let i = c.loop-work.invariant in
    let empty : length w.path.items ≡ 0 = sym w.path.ok.0 ∙ eqb-true (vec_len w.path) 0 (sym c.loop-work-test.ensures) in
    let sizes = i.work.sizes in
    let some = i.work.some in
    let value : c.index.result.now ≡ get_or w.values.items 0 None = c.index.ensures ∙ get_or_default w.values.items 0 c.index.result.now None (omega arith) in
    number-of-end s c.args.node (get_or w.terms 0 0) c.index.result.now i.first (All-get_or (λ n. resolve s.bound n ≡ n) w.terms 0 0 i.work.some i.work.ends)
    (work-done s w.terms w.values.items w.path.items i.work empty c.index.result.now value)
