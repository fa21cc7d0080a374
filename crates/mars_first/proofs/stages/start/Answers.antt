use Rattle.std.proofs.Common.{◌≡◌, ◌<◌, ℕ, length, slice_get, subst, ap, ◌∙◌, arith}
use Rattle.mars_reach.proofs.Numbers.{All-slice_get}
use Rattle.mars_first.specs.StagesInside.{AreOwn}
use Rattle.mars_first.proofs.Staging.{started}
use Rattle.mars_first.proofs.stages.start.Goals as goal

pub returns-clause-is : goal.returns-clause-is
returns-clause-is c =
    let s = c.args.places.now in
    let count : c.len-count.result ≡ length s.numbers.items = omega arith in
    let own : AreOwn (length s.numbers.items) c.in_ok-links.links.items = subst (λ (n : ℕ). AreOwn n c.in_ok-links.links.items) count c.in_ok-links.ensures in (
      started s c.args.candidates.now c.in_ok-stages.stages.items c.new-classes.result.items c.in_ok-links.links.items c.in_ok-stages.ensures c.new-classes.ensures.items own
          (λ k x e. All-slice_get (λ (y : ℕ). y < length s.numbers.items) c.args.candidates.now k x c.requires.candidates_in e) c.requires.some,
      c.in_ok-marks.ensures.size ∙ count,
    )

pub returns-clause-root : goal.returns-clause-root
returns-clause-root c = let f = c.in_ok-stages.ensures in (f.stage, ap (λ xs. slice_get xs 0) f.is, f.nodes)
