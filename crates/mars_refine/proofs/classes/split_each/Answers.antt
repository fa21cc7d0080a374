use Rattle.std.proofs.Common.{◌<◌, ℕ, List, length, take, arith, rules, sym, subst}
use Rattle.std.proofs.lemmas.List.{take_more, take_all}
use Rattle.std.proofs.lemmas.List.Elements.{All-get_or}
use Rattle.mars_refine.specs.Classes.{Parted}
use Rattle.mars_refine.specs.ClassesInside.{AreTouched, SplitsOne, SplitsEach, parted_of}
use Rattle.mars_refine.proofs.Touching.{split_next, split_all, still_touched}
use Rattle.mars_refine.proofs.classes.split_each.Goals as goal

pub returns-in_err-split_class-clause-touched : goal.returns-in_err-split_class-clause-touched
returns-in_err-split_class-clause-touched c =
    let t : AreTouched (parted_of c.split_class.new.parts) c.args.touched.now.items =
    subst (λ (p : Parted). AreTouched p c.args.touched.now.items) (sym c.in_err-split_class.ensures.err) (still_touched (take c.loop-index.index c.args.touched.now.items) c.args.touched.now.items (parted_of c.args.parts.now) (parted_of c.loop-index.parts) c.requires.touched c.loop-index.invariant.done) in
    search (rules, t)

pub loop-index-preserved : goal.loop-index-preserved
loop-index-preserved c =
    let within : c.loop-index.index < length c.args.touched.now.items = omega (arith, c.loop-index-test.true, c.len-index-end.ensures.len) in
    record {
      parted = c.in_ok-split_class.ensures.parted;
      done = subst (λ (xs : List ℕ). SplitsEach xs (parted_of c.args.parts.now) (parted_of c.split_class.new.parts)) (sym (take_more c.args.touched.now.items c.loop-index.index 0 within))
          (split_next (take c.loop-index.index c.args.touched.now.items) _ (parted_of c.args.parts.now) (parted_of c.loop-index.parts) (parted_of c.split_class.new.parts)
          (All-get_or (λ d. d < length c.args.parts.now.spans.items) c.args.touched.now.items c.loop-index.index 0 within c.requires.touched.below) c.loop-index.invariant.done (subst (λ (k : ℕ). SplitsOne k (parted_of c.loop-index.parts) (parted_of c.split_class.new.parts)) c.get.ensures c.in_ok-split_class.ensures.ok));
    }

pub returns-clause-ok : goal.returns-clause-ok
returns-clause-ok c =
    split_all c.args.touched.now.items (parted_of c.args.parts.now) (parted_of c.loop-index.parts) c.requires.touched
    (subst (λ (xs : List ℕ). SplitsEach xs (parted_of c.args.parts.now) (parted_of c.loop-index.parts)) (take_all c.loop-index.index c.args.touched.now.items (omega (arith, c.loop-index-test.false, c.len-index-end.ensures.len))) c.loop-index.invariant.done)
