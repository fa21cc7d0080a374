use Rattle.std.proofs.Common.{◌≡◌, ℕ, suc, ◌+◌, ◌∷◌, drop, get_or, ap, ◌∙◌, arith}
use Rattle.std.proofs.Math.Seq.{drop-cons}
use Rattle.mars_watch.proofs.CallerLemmas.{cut-cut}
use Rattle.mars_frozen.proofs.Filing.{settled-next}
use Rattle.mars_frozen.proofs.waking.look_at_all.Goals as goal

pub loop-number-preserved : goal.loop-number-preserved
loop-number-preserved c =
    let i : ℕ = c.loop-number.number-index in
    let split : drop i c.args.touched.now ≡ get_or c.args.touched.now i 0 ∷ drop (i + 1) c.args.touched.now =
    drop-cons c.args.touched.now i 0 (omega arith) ∙ (let e : suc i ≡ i + 1 = omega arith in ap (λ n. get_or c.args.touched.now i 0 ∷ drop n c.args.touched.now) e) in
    record {
      cut = cut-cut c.args.watchers.now c.loop-number.watchers c.look_at.new.watchers c.loop-number.invariant.cut c.look_at.ensures.cut;
      settled = settled-next c.args.store.now c.args.pairs.now c.args.numbers.now (drop i c.args.touched.now) (drop (i + 1) c.args.touched.now) (get_or c.args.touched.now i 0) c.loop-number.watchers c.look_at.new.watchers
          c.loop-number.found.items c.look_at.new.found.items split c.loop-number.invariant.settled c.in_ok-look_at.ensures.looked;
    }

pub returns-in_err-look_at-clause-cut : goal.returns-in_err-look_at-clause-cut
returns-in_err-look_at-clause-cut c = cut-cut c.args.watchers.now c.loop-number.watchers c.look_at.new.watchers c.loop-number.invariant.cut c.look_at.ensures.cut
