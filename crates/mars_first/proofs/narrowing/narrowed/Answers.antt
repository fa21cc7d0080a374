use Rattle.std.proofs.Common.{◌<◌, length, All, MatchOption, subst, sym}
use Rattle.mars_first.specs.StagesInside.{AreRowsApart, NeverDiffer}
use Rattle.mars_first.proofs.Ending.{rows_below}
use Rattle.mars_first.proofs.narrowing.narrowed.Goals as goal

pub left_of-requires-clause-rows_in : goal.left_of-requires-clause-rows_in
left_of-requires-clause-rows_in c =
    let comp = c.args.component.now in
    let apart : AreRowsApart comp.places c.args.candidates.now c.in-Some.rows.items = subst (λ o. MatchOption o (NeverDiffer comp.places c.args.candidates.now) (λ rows. AreRowsApart comp.places c.args.candidates.now rows.items)) c.in-Some.is c.in_ok-found.ensures in
    subst (All (λ r. r < length comp.rows.keys)) (sym c.deref.ensures.value) (rows_below comp c.args.candidates.now c.in-Some.rows.items c.requires.places c.requires.rows_in c.requires.candidates_in apart)
