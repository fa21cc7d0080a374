use Rattle.std.proofs.Common.{◌∙◌, ℕ, List, rules, tests, nat_eq, Bor, sym}
use Rattle.std.proofs.lemmas.Iterator.{YieldsList-from_slice}
use Rattle.std.proofs.lemmas.Iterator.Search.{position_from_yields_List}
use Rattle.std.specs.Cmp.Lexicographic.{pointwise}
use Rattle.mars_tree.proofs.NameLemmas.{place_of-map}
use Rattle.mars_tree.proofs.names.place_in.Goals as goal

pub returns : goal.returns
returns c =
    let found = position_from_yields_List (λ (name : Bor (List ℕ)). pointwise nat_eq c.args.text.now name.now) _ _ c.position.result c.position.ensures.ran (YieldsList-from_slice c.args.names.now cc) (λ x b q k. search (rules, tests)) in
    found ∙ sym (place_of-map c.args.text.now (λ (name : Bor (List ℕ)). name.now) c.args.names.now)
