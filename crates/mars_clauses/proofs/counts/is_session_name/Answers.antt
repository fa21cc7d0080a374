use Rattle.std.proofs.Common.{◌∙◌, ap, rules, tests, ◌==◌, is_some}
use Rattle.std.proofs.lemmas.Iterator.{YieldsList-from_slice}
use Rattle.std.proofs.lemmas.Iterator.Search.{position_from_yields_List}
use Rattle.mars_tree.specs.declared.label.NameId.{NameId}
use Rattle.mars_clauses.proofs.counts.is_session_name.Goals as goal

pub returns : goal.returns
returns c =
    let found = position_from_yields_List (λ (other : NameId). other.0 == c.args.name.0) _ _ c.position.result c.position.ensures.ran (YieldsList-from_slice c.args.names.now cc) (λ x b q k. search (rules, tests)) in
    c.is_some.ensures ∙ ap (λ place. is_some place) found
