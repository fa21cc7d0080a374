use Rattle.std.proofs.Common.{List, ℕ, ◌≡◌, map, ap, sym, subst, append-nil, ◌∙◌, ◌++◌, ◌<◌, ◌^◌, length, arith}
use Rattle.mars_tree.specs.Names.{AreDistinct, built_in_names}
use Rattle.mars_tree.proofs.NameLemmas.{built_in_distinct}
use Rattle.mars_tree.proofs.names.Names.new.Goals as goal

none_added : (c : goal.After-new) → built_in_names ++ map (λ text. text.items) c.new.result.keys ≡ built_in_names
none_added c = ap (λ keys. built_in_names ++ map (λ text. text.items) keys) c.new.ensures.empty ∙ append-nil built_in_names

pub invariant_of-result : goal.invariant_of-result
unfolding built_in_names
invariant_of-result c = record {
  distinct = subst (λ (names : List (List ℕ)). AreDistinct names) (sym (none_added c)) built_in_distinct;
  bound = subst (λ (names : List (List ℕ)). length names < 2 ^ 32) (sym (none_added c)) (omega arith);
}
