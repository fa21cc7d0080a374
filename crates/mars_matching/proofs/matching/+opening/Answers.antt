use Rattle.std.proofs.Common.{[], ◌∷◌, ◌++◌, ◌≡◌, ◌∙◌, refl, sym, subst, ap, length, ◌<◌, arith, ℕ, List, map}
use Rattle.std.proofs.lemmas.List.Elements.{All-get_or}
use Rattle.mars_tree.specs.Graph.{kids_of, labelled}
use Rattle.mars_store.specs.System.{IsNodeAt, with_node, node_at}
use Rattle.mars_store.proofs.CallerLemmas.{grows-trans}
use Rattle.mars_matching.specs.StepsInside.{AreOpened}
use Rattle.mars_matching.proofs.Kids.{kid-listed, open-step}
use Rattle.mars_matching.proofs.Filled.{filled-all, opened-filled, opened-found}
use Rattle.mars_matching.proofs.Making.{made-opened}
use Rattle.mars_matching.proofs.matching.+opening.Goals as goal

pub open_kids-loop-at-preserved : goal.open_kids-loop-at-preserved
open_kids-loop-at-preserved t c = record {
  grows = grows-trans c.args.store.now c.loop-at.store c.open_kid.new.store c.loop-at.invariant.grows c.open_kid.ensures.grows;
  kids =
      let before = c.loop-at.invariant.kids in
      let there : c.loop-at.at < length c.args.places.now = let test = c.loop-at-test.true in let most = c.loop-at.auto.at-end in omega arith in (
        before.0 ++ c.in_ok-open_kid.field-0 ∷ [],
        open-step c.args.rule.now.nodes c.requires.template.older c.args.place c.args.store.now c.loop-at.store c.open_kid.new.store c.args.registers.now c.loop-at.registers _ before.0 _ c.loop-at.at _ _
            before.1 (kid-listed c.args.places.now _ c.loop-at.at c.requires.places there) c.in_ok-open_kid.ensures.ok c.open_kid.ensures.bound refl,
      );
}

pub open_kids-returns-clause-ok : goal.open_kids-returns-clause-ok
open_kids-returns-clause-ok t c =
    let nodes = c.args.rule.now.nodes in
    let all : c.loop-at.at ≡ length (kids_of nodes c.args.place) =
    let most = c.loop-at.auto.at-end in let done = c.loop-at-test.false in omega (arith, ap length c.requires.places) in
    let opened = c.loop-at.invariant.kids in
    opened-found nodes c.args.store.now c.loop-at.store c.args.registers.now c.loop-at.registers c.args.place opened.0
    (subst (λ n. AreOpened nodes c.args.store.now c.loop-at.store c.args.registers.now c.loop-at.registers c.args.place opened.0 n) all opened.1)

pub make-add_over-requires-clause-filled : goal.make-add_over-requires-clause-filled
make-add_over-requires-clause-filled t c =
    let nodes = c.args.rule.now.nodes in
    let f = c.in_ok-open_kids.ensures.ok in
    let after = c.open_kids.new.registers in
    let grown = c.open_kids.new.store in
    let all = filled-all nodes grown after c.args.place f.step.inside (opened-filled nodes c.args.store.now grown c.args.registers.now after c.args.place _ f) in
    λ k d h. All-get_or (IsNodeAt after (length grown.nodes)) c.kids-places.result.now k d h (rw c.kids-places.ensures.kids all)

pub make-returns-clause-ok : goal.make-returns-clause-ok
make-returns-clause-ok t c =
    let nodes = c.args.rule.now.nodes in
    let kids = map (node_at c.open_kids.new.registers) (kids_of nodes c.args.place) in
    let made : c.add_over.new.self ≡ with_node c.open_kids.new.store (labelled c.args.label kids) =
    c.in_ok-node.ensures.ok ∙ ap (λ (ks : List ℕ). with_node c.open_kids.new.store (labelled c.args.label (map (node_at c.open_kids.new.registers) ks))) c.kids-places.ensures.kids in
    made-opened nodes c.requires.template.older c.args.place c.args.label c.requires.label c.args.store.now c.open_kids.new.store c.args.registers.now
    c.open_kids.new.registers kids c.in_ok-open_kids.ensures.ok c.add_over.new.self _ c.in_ok-node.node c.requires.place_in (sym c.requires.empty) c.in_ok-node.ensures.node made c.set.ensures
