use mir.Val.{SFits}
use Rattle.std.proofs.lemmas.Int.{to_z-of_z}
use Rattle.std.proofs.Common.{◌≡◌, ◌∙◌, w64, rules, List, ℕ, ℤ, Option, subst, sym}
use Rattle.mars_val.specs.declared.operand.Next.TheVariants.{Number, Wants, Nothing}
use Rattle.mars_val.specs.NumberInside.{IsNext}
use Rattle.mars_val.proofs.Working.{last-place, step-closed, step-opened, step-failed}
use Rattle.mars_val.proofs.evaluation.step.Goals as goal

pub returns-in-Number : goal.returns-in-Number
returns-in-Number c =
    let w = c.args.work.now in
    let fits : SFits w64 c.in-Number.number = search rules in
    let values = rw (to_z-of_z w64 c.in-Number.number fits) at c.close.ensures.values in
    step-closed c.args.store.now w.terms c.close.new.work.terms w.values.items c.close.new.work.values.items w.path.items c.close.new.work.path.items c.index-place.result.now c.get.result c.in-Number.number c.requires.work c.requires.more
    (last-place w.path.items c.index-place.result.now c.len.result c.index-place.ensures (c.len.ensures ∙ w.path.ok.0) c.requires.more) c.get.ensures c.in-Number.ensures c.close.ensures.terms values c.close.ensures.path

pub returns-in_ok-open-in-Wants : goal.returns-in_ok-open-in-Wants
returns-in_ok-open-in-Wants c =
    let w = c.args.work.now in
    let e = c.in-Wants.ensures in
    step-opened c.args.store.now w.terms c.open.new.work.terms w.values.items c.open.new.work.values.items w.path.items c.open.new.work.path.items c.index-place.result.now c.get.result c.in-Wants.operand c.requires.work c.requires.more
    (last-place w.path.items c.index-place.result.now c.len.result c.index-place.ensures (c.len.ensures ∙ w.path.ok.0) c.requires.more) c.get.ensures e.0 e.1 e.2
    c.in_ok-open-in-Wants.ensures.terms c.in_ok-open-in-Wants.ensures.values c.in_ok-open-in-Wants.ensures.path c.in_ok-open-in-Wants.ensures.distinct

pub returns-in-Nothing : goal.returns-in-Nothing
returns-in-Nothing c =
    let w = c.args.work.now in
    step-failed c.args.store.now w.terms w.values.items w.path.items c.index-place.result.now c.get.result c.requires.work c.requires.more
    (last-place w.path.items c.index-place.result.now c.len.result c.index-place.ensures (c.len.ensures ∙ w.path.ok.0) c.requires.more) c.get.ensures
    (subst (λ (vs : List (Option ℤ)). IsNext c.args.store.now w.terms vs c.get.result Nothing) c.deref.ensures.value c.in-Nothing.ensures)
