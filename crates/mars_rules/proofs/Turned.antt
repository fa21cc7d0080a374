-- Terms that were laid out from the last one on.
use Rattle.std.proofs.Common.{◌≡◌, ℕ, ◌-◌, ◌<◌, List, length, get_or, slice_get, Some, sym, ap, ◌∙◌, subst, arith, All, reverse}
use Rattle.std.proofs.lemmas.List.{get_or-reverse, length-reverse}
use Rattle.std.proofs.lemmas.List.Elements.{All-get_or, All-from_get_or}
use Rattle.std.proofs.lemmas.Option.{slice_get-get_or, slice_get_within, get_or_from_slice_get}
use Rattle.mars_tree.specs.Graph.{Node}
use Rattle.mars_term.specs.declared.term.Term.{Term}
use Rattle.mars_rules.specs.FlatRules.{IsOwnPlace}
use Rattle.mars_rules.specs.LayingInside.{AreLaidTerms}

-- an entry of a list, read from the other end
pub get-reverse : {X : Type 0} (xs : List X) (k : ℕ) (x : X) → k < length xs → x ≡ get_or xs (length xs - 1 - k) x → slice_get (reverse xs) k ≡ Some x
get-reverse xs k x h e =
    slice_get-get_or (reverse xs) k x (omega (arith, length-reverse xs)) ∙ ap (λ y. Some y) (get_or-reverse xs k x h ∙ sym e)

All-reverse : {X : Type 0} (P : X → Type 0) (xs : List X) (d : X) → All P xs → All P (reverse xs)
All-reverse P xs d all =
    All-from_get_or P (reverse xs) d (λ i h.
    let size = length-reverse xs in
    subst P (sym (get_or-reverse xs i d (omega arith))) (All-get_or P xs (length xs - 1 - i) d (omega arith) all))

pub laid-turned : (vars : ℕ) (start now : List Node) (terms : List Term) (places turned : List ℕ) → AreLaidTerms vars start now (reverse terms) (length terms) places → turned ≡ reverse places
    → AreLaidTerms vars start now terms (length terms) turned
laid-turned vars start now terms places turned f same = rw same (record {
  adds = f.adds;
  size = length-reverse places ∙ f.size;
  flat = λ k p t h w.
      let size = f.size in
      let l : k < length places = let short = slice_get_within (reverse places) k p h in omega (arith, length-reverse places) in
      let j : ℕ = length places - 1 - k in
      let there : get_or places j 0 ≡ p = sym (get_or-reverse places k 0 l) ∙ get_or_from_slice_get (reverse places) k p 0 h in
      let back : length terms - 1 - j ≡ k = omega arith in
      let term : t ≡ get_or terms (length terms - 1 - j) t = sym (ap (λ i. get_or terms i t) back ∙ get_or_from_slice_get terms k t t w) in
      f.flat j p t (slice_get-get_or places j 0 (omega arith) ∙ ap (λ q. Some q) there) (get-reverse terms j t (omega arith) term);
  inside = All-reverse (λ place. place < length now) places 0 f.inside;
  own = All-reverse (IsOwnPlace vars (length start)) places 0 f.own;
})
