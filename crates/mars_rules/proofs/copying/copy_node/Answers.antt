use Rattle.std.proofs.Common.{sym, ap, ◌∙◌, length, ◌≤◌, ◌<◌, All, subst, List, ℕ}
use Rattle.mars_rules.proofs.CopyingSteps.{kids-copied}
use Rattle.mars_rules.proofs.copying.copy_node.Goals as goal

pub add-requires-clause-arity : goal.add-requires-clause-arity
add-requires-clause-arity c =
    ap length c.deref.ensures.value
    ∙ (kids-copied c.args.nodes.now c.args.place c.in-Some.label c.args.copies.now.items c.loop-kid.kids.items c.loop-kid.kid-index _ c.requires.older (sym c.label.ensures ∙ c.in-Some.is)
    (subst (λ (ks : List ℕ). length ks ≤ c.loop-kid.kid-index) c.kids-kid-items.ensures.kids c.loop-kid-test.false) c.loop-kid.invariant c.requires.size c.requires.inside).0

pub add-requires-clause-inside : goal.add-requires-clause-inside
add-requires-clause-inside c =
    subst (λ ks. All (λ kid. kid < length c.args.store.now.nodes) ks) (sym c.deref.ensures.value)
    (kids-copied c.args.nodes.now c.args.place c.in-Some.label c.args.copies.now.items c.loop-kid.kids.items c.loop-kid.kid-index _ c.requires.older (sym c.label.ensures ∙ c.in-Some.is)
    (subst (λ (ks : List ℕ). length ks ≤ c.loop-kid.kid-index) c.kids-kid-items.ensures.kids c.loop-kid-test.false) c.loop-kid.invariant c.requires.size c.requires.inside).1
