use Rattle.std.proofs.Common.{◌≡◌, ◌<◌, ℕ, length, get_or, arith, sym, ap, ◌∙◌, slice_get, Some}
use Rattle.std.proofs.lemmas.List.{get_or_default}
use Rattle.mars_tree.specs.Graph.{kids_of}
use Rattle.mars_matching.proofs.Meets.{met-first, read-empty}
use Rattle.mars_matching.proofs.Kids.{kid-listed, kid-before, kid-inside, alike-arity, kids-step}
use Rattle.mars_matching.proofs.matching.meet_new.Goals as goal

pub loop-at-preserved : goal.loop-at-preserved
loop-at-preserved c =
    let test = c.loop-at-test.true in
    let nodes = c.args.rule.now.nodes in
    let store = c.args.store.now in
    let at = c.loop-at.at in
    let p = get_or c.kids-places.result.now at 0 in
    let is = kid-listed c.kids-places.result.now _ at c.kids-places.ensures.kids (omega arith) in
    let before = kid-before nodes c.requires.template.older c.args.place at p is in
    let size = alike-arity nodes c.requires.template.older c.args.place store c.args.node c.requires.sound c.requires.alike in
    let within : at < length c.kids-kids.result.now = omega (arith, size, ap length c.kids-kids.ensures.kids, ap length c.kids-places.ensures.kids) in
    let y : slice_get (kids_of store.nodes c.args.node) at ≡ Some c.index-kids-at.result =
    kid-listed c.kids-kids.result.now _ at c.kids-kids.ensures.kids within
    ∙ ap (λ (n : ℕ). Some n) (get_or_default c.kids-kids.result.now at 0 c.index-kids-at.result within ∙ sym c.index-kids-at.is) in
    let inside = kid-inside nodes c.requires.template.older c.args.place store c.args.node at c.index-kids-at.result c.requires.sound c.requires.alike y in
    kids-step nodes c.requires.template.older c.args.place store store store c.args.registers.now c.loop-at.registers _ c.args.node at p c.index-kids-at.result
    c.requires.sound c.requires.alike c.loop-at.invariant is y
    (met-first nodes store c.loop-at.registers _ p c.index-kids-at.result c.requires.sound c.loop-at.invariant.step.inside
    (let in_range = c.requires.place_in in let same = c.loop-at.invariant.step.size in omega arith) inside
    (read-empty c.loop-at.registers p c.get.result c.is_some.result c.get.ensures c.is_some.ensures c.if-is_some.false) c.set.ensures)
