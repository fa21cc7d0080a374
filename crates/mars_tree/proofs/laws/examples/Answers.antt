use Rattle.std.proofs.Common.{◌≡◌, ◌<◌, ℕ, List, [], ◌∷◌, Some, slice_get, Contains, refl, sym, ap, ◌∙◌, arith}
use Rattle.std.proofs.lemmas.Option.{same_Some}
use Rattle.mars_base.proofs.ListFacts.{get-Contains}
use Rattle.mars_tree.specs.Canonical.{FirstInOrder}
use Rattle.mars_tree.specs.Examples.{unreached}
use Rattle.mars_tree.proofs.laws.examples.Goals as goal

-- node 1 isn't mentioned before its own kids
refused : FirstInOrder unreached (0 ∷ []) → ⊥
refused is =
    let root : List ℕ = 0 ∷ [] in
    let two : 1 < 2 = omega arith in
    let mentioned : Contains root 1 = is.early 1 two in
    let t : (k : ℕ) × (k < 1) × (slice_get root k ≡ Some 1) = get-Contains root 1 mentioned in
    let first : t.0 ≡ 0 = omega (arith, t.1) in
    let here : slice_get root 0 ≡ Some 1 = ap (slice_get root) (sym first) ∙ t.2 in
    let one : ◌≡◌ {A = ℕ} 0 1 = same_Some 0 1 here in
    absurd (omega (arith, one))

pub returns : goal.returns
returns c = record {
  around = refl;
  beside = refl;
  free = refl;
  below = refl;
  loop_in_order = refl;
  tree_in_order = refl;
  skipped = refl;
  unreached_in_order = refl;
  unreached_labels = λ e. cc;
  unreached_refused = refused;
}
