use Rattle.std.proofs.Common.{◌≡◌, ◌+◌, length, sym, ap, ◌∙◌, subst, arith, All, get_or}
use Rattle.std.specs.List.{range_with_len}
use Rattle.std.proofs.lemmas.List.FromFn.{length-range_with_len, get_or-range_with_len}
use Rattle.mars_store.specs.System.{System}
use Rattle.mars_rules.specs.PairedLists.{AllPaired}
use Rattle.mars_rules.specs.CopyingInside.{IsGoalBelow, IsCopiedGoal}
use Rattle.mars_rules.proofs.Instanced.{goals-below, instance-is}
use Rattle.mars_rules.proofs.copying.copy_all.Goals as goal

pub copy_goals-requires : goal.copy_goals-requires
copy_goals-requires c =
    let flat = c.args.flat.now in
    let is = c.requires.flat.1 in
    let size : length c.deref-2.result.now ≡ length flat.template.nodes =
    ap length c.deref-2.ensures.value ∙ ap length c.in_ok-copy_nodes.ensures.copies ∙ length-range_with_len (length c.args.store.now.nodes) (length flat.template.nodes) in
    subst (λ gs. All (IsGoalBelow (length c.deref-2.result.now)) gs) (sym c.deref.ensures.value)
    (subst (λ n. All (IsGoalBelow n) flat.goals.items) (sym size) (goals-below flat.template.nodes flat.template.vars (flat.template.head + 1) c.requires.flat.0.body flat.goals.items is.goals))

pub index-requires : goal.index-requires
index-requires c =
    let flat = c.args.flat.now in
    let size : length c.deref-2.result.now ≡ length flat.template.nodes =
    ap length c.deref-2.ensures.value ∙ ap length c.in_ok-copy_nodes.ensures.copies ∙ length-range_with_len (length c.args.store.now.nodes) (length flat.template.nodes) in
    let head_in = c.requires.flat.1.template.head_in in
    omega (arith, c.deref-2.ensures.len, size)

pub returns-clause-copy : goal.returns-clause-copy
returns-clause-copy c = λ rule is.
    let flat = c.args.flat.now in
    let s : System = c.args.store.now in
    let body = c.in_ok-body.body in
    let copies : c.deref-2.result.now ≡ range_with_len (length s.nodes) (length flat.template.nodes) = c.deref-2.ensures.value ∙ c.in_ok-copy_nodes.ensures.copies in
    let head : c.index.result.now ≡ length s.nodes + flat.template.head =
    c.index.ensures ∙ ap (λ ns. get_or ns flat.template.head c.index.result.now) c.in_ok-copy_nodes.ensures.copies
    ∙ get_or-range_with_len (length s.nodes) (length flat.template.nodes) flat.template.head c.index.result.now is.template.head_in in
    let goals : AllPaired (IsCopiedGoal (range_with_len (length s.nodes) (length flat.template.nodes))) flat.goals.items body =
    subst (λ ns. AllPaired (IsCopiedGoal ns) flat.goals.items body) copies (subst (λ gs. AllPaired (IsCopiedGoal c.deref-2.result.now) gs body) c.deref.ensures.value c.in_ok-body.ensures) in
    rw (c.in_ok-copy_nodes.ensures.ok, head) (instance-is s c.requires.sound rule flat is body goals)
