use Rattle.std.proofs.Common.{◌≡◌, List, ℕ, length, get_or, arith, ap, sym, subst, ◌∙◌}
use Rattle.mars_refine.specs.Chains.{Keyed}
use Rattle.mars_refine.specs.Classes.{IsSplitBy}
use Rattle.mars_refine.specs.Marks.{AreNumbers}
use Rattle.mars_refine.proofs.Splitting.{by_numbers_more, by_numbers_done}
use Rattle.mars_refine.proofs.marks.classes_by_label.Goals as goal

pub loop-number-preserved : goal.loop-number-preserved
loop-number-preserved c =
    let keys = ap (λ (k : Keyed). k.keys) c.chains.view_is in
    let P : List ℕ → Type 0 = λ ks. IsSplitBy (λ u. get_or ks u 0 ≡ c.loop-number.number) c.loop-number.classes c.split_by_number.new.classes in
    by_numbers_more c.chains.inside.keys.items (length c.args.graph.now) c.loop-number.number c.loop-number.classes c.split_by_number.new.classes c.loop-number.invariant (subst P (sym keys) c.in_ok-split_by_number.ensures)

pub returns-clause-refining : goal.returns-clause-refining
returns-clause-refining c =
    let keys = ap (λ (k : Keyed). k.keys) c.chains.view_is ∙ ap (λ (k : Keyed). k.keys) c.in_ok-chains.ensures in
    let are : AreNumbers c.args.graph.now c.chains.inside.keys.items = subst (AreNumbers c.args.graph.now) (sym keys) c.in_ok-numbers.ensures in
    by_numbers_done c.args.graph.now c.chains.inside.keys.items c.loop-number.number c.loop-number.classes are c.loop-number.invariant (omega (arith, c.loop-number-test.false, c.len-number-end.ensures.len))
