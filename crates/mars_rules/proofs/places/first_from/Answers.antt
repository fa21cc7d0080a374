use Rattle.std.proofs.Common.{inl, inr, ◌∙◌, ap, sym, Ok, Err}
use Rattle.mars_rules.proofs.Filing.{found-from}
use Rattle.mars_rules.proofs.places.first_from.Goals.{in-Ok, in-Err}
use Rattle.mars_rules.proofs.places.first_from.Goals as goal

pub returns-then-at-places : goal.returns-then-at-places
returns-then-at-places c = λ rise.
    (found-from c.args.places.now c.args.from c.match-binary_search.at c.binary_search.result c.binary_search.ensures.position (elim c.match-binary_search.branch [
      | in-Ok w ↦ inl (w.in-Ok.is ∙ ap Ok (sym w.at-is))
      | in-Err w ↦ inr (w.in-Err.is ∙ ap Err (sym w.at-is))
    ]) rise).0 c.if-at-places.true

pub returns-else-at-places : goal.returns-else-at-places
returns-else-at-places c = λ rise.
    (found-from c.args.places.now c.args.from c.match-binary_search.at c.binary_search.result c.binary_search.ensures.position (elim c.match-binary_search.branch [
      | in-Ok w ↦ inl (w.in-Ok.is ∙ ap Ok (sym w.at-is))
      | in-Err w ↦ inr (w.in-Err.is ∙ ap Err (sym w.at-is))
    ]) rise).1 c.if-at-places.false
