use Rattle.std.proofs.Common.{◌<◌, ◌+◌, ℕ, List, drop, length, set, length-set, arith, ap, sym, ◌∙◌}
use Rattle.std.proofs.lemmas.List.{drop_more, drop_all}
use Rattle.std.proofs.lemmas.List.Elements.{All-get_or}
use Rattle.mars_refine.specs.Writes.{put_all}
use Rattle.mars_refine.proofs.writes.write_all.Goals as goal

pub set-requires-clause-place_in : goal.set-requires-clause-place_in
set-requires-clause-place_in c =
    omega (arith, All-get_or (λ p. p < length c.args.values.now.items) c.args.places.now c.loop-index.index 0 (omega (arith, c.loop-index-test.true, c.len-index-end.ensures)) c.requires.places_in, c.get.ensures, c.loop-index.invariant.size)

pub set-requires-clause-fits : goal.set-requires-clause-fits
set-requires-clause-fits c = omega (arith, c.requires.fits, c.loop-index.invariant.most)

pub loop-index-preserved : goal.loop-index-preserved
loop-index-preserved c =
    let within : c.loop-index.index < length c.args.places.now = omega (arith, c.loop-index-test.true, c.len-index-end.ensures) in
    let rest : List ℕ = drop (c.loop-index.index + 1) c.args.places.now in
    record {
      items = ap (λ (xs : List ℕ). put_all xs rest c.args.value) (c.set.ensures.items ∙ ap (λ (p : ℕ). set c.loop-index.values.items p c.args.value) c.get.ensures)
          ∙ sym (ap (λ (ps : List ℕ). put_all c.loop-index.values.items ps c.args.value) (drop_more c.args.places.now c.loop-index.index 0 within)) ∙ c.loop-index.invariant.items;
      size = ap length c.set.ensures.items ∙ length-set c.loop-index.values.items c.get.result c.args.value ∙ c.loop-index.invariant.size;
      most = c.set.ensures.most ∙ c.loop-index.invariant.most;
    }

pub returns-clause-items : goal.returns-clause-items
returns-clause-items c =
    sym (ap (λ (ps : List ℕ). put_all c.loop-index.values.items ps c.args.value) (drop_all c.loop-index.index c.args.places.now (omega (arith, c.loop-index-test.false, c.len-index-end.ensures)))) ∙ c.loop-index.invariant.items

pub returns-clause-most : goal.returns-clause-most
returns-clause-most c = c.loop-index.invariant.most
