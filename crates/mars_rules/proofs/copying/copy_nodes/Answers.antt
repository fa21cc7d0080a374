use Rattle.std.proofs.Common.{◌++◌, ◌∷◌, [], ◌<◌, length, sym, ap, ◌∙◌, subst, arith, All}
use Rattle.std.proofs.lemmas.List.FromFn.{length-range_with_len}
use Rattle.mars_store.proofs.CallerLemmas.{grows-trans}
use Rattle.mars_rules.proofs.CopyingSteps.{range-inside, range-more, copied-step, copied-count}
use Rattle.mars_rules.proofs.copying.copy_nodes.Goals as goal

pub copy_node-requires-clause-size : goal.copy_node-requires-clause-size
copy_node-requires-clause-size c = ap length c.loop-place.invariant.copies ∙ length-range_with_len (length c.args.store.now.nodes) c.loop-place.place

pub copy_node-requires-clause-inside : goal.copy_node-requires-clause-inside
copy_node-requires-clause-inside c =
    let size = copied-count c.args.store.now c.loop-place.store c.args.nodes.now c.loop-place.place (let h = c.loop-place-test.true in omega arith) c.loop-place.invariant.store in
    subst (λ ns. All (λ node. node < length c.loop-place.store.nodes) ns) (sym c.loop-place.invariant.copies)
    (range-inside (length c.args.store.now.nodes) c.loop-place.place (length c.loop-place.store.nodes) (omega arith))

pub loop-place-preserved : goal.loop-place-preserved
loop-place-preserved c =
    let size = copied-count c.args.store.now c.loop-place.store c.args.nodes.now c.loop-place.place (let h = c.loop-place-test.true in omega arith) c.loop-place.invariant.store in
    record {
      grows = grows-trans c.args.store.now c.loop-place.store c.copy_node.new.store c.loop-place.invariant.grows c.copy_node.ensures.grows;
      copies = c.in_ok-copy_node.ensures.copies ∙ ap (λ ns. ns ++ length c.loop-place.store.nodes ∷ []) c.loop-place.invariant.copies
          ∙ sym (range-more (length c.args.store.now.nodes) c.loop-place.place (length c.loop-place.store.nodes) (sym size));
      store = c.in_ok-copy_node.ensures.ok
          ∙ copied-step c.args.store.now c.loop-place.store c.args.nodes.now c.loop-place.place (let l = c.len-place-end.ensures.len in let t = c.loop-place-test.true in omega arith) (c.requires.older c.loop-place.place) c.loop-place.invariant.store
          c.loop-place.copies.items c.loop-place.invariant.copies;
    }
