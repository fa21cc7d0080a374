-- The canonical graph of a tree: its root, and that each of its nodes is reached.
use Rattle.std.proofs.Common.{◌≡◌, ℕ, zero, suc, ◌<◌, List, [], ◌∷◌, ◌++◌, length, take, Some, None, slice_get, ap, ◌∙◌, arith, inl, inr, Contains, refl}
use Rattle.std.specs.List.{flat_map}
use Rattle.std.proofs.lemmas.Option.{slice_get-get_or}
use Rattle.std.proofs.lemmas.List.Elements.{All-contains, Contains-append_cases}
use Rattle.mars_tree.specs.Graph.{Node, kids_of, end_of}
use Rattle.mars_tree.specs.Canonical.{IsCanonical}
use Rattle.mars_tree.proofs.CallerLemmas.{walk-push, roots_in}
use Rattle.mars_rows.specs.TreeGraph.{IsTreeGraph}

contains_get : (xs : List ℕ) (x : ℕ) → Contains xs x → (k : ℕ) × (slice_get xs k ≡ Some x)
contains_get xs x (k, lt, e) = (k, slice_get-get_or xs k x lt ∙ ap (λ y. Some y) e)

-- a kid of one of the first nodes
kid_of_first : (g : List Node) (i x : ℕ) → Contains (flat_map (λ node. node.kids) (take i g)) x → (m : ℕ) × (m < i) × (m < length g) × (k : ℕ) × (slice_get (kids_of g m) k ≡ Some x)
kid_of_first [] zero x c = absurd (let k = contains_get [] x c in let e : None ≡ Some x = k.1 in cc)
kid_of_first [] (suc i) x c = absurd (let k = contains_get [] x c in let e : None ≡ Some x = k.1 in cc)
kid_of_first (node ∷ g) zero x c = absurd (let k = contains_get [] x c in let e : None ≡ Some x = k.1 in cc)
kid_of_first (node ∷ g) (suc i) x c = elim (Contains-append_cases node.kids (flat_map (λ node. node.kids) (take i g)) x c) [
  | inl here ↦ let k = contains_get node.kids x here in (0, omega arith, omega arith, k.0, k.1)
  | inr there ↦ let r = kid_of_first g i x there in (suc r.0, omega (arith, r.1), omega (arith, r.2), r.3, r.4)
]

-- each node of the canonical graph of a tree is at the end of a path from the root
pub reached_below : (g : List Node) → IsCanonical g (0 ∷ []) → (bound i : ℕ) → i < bound → i < length g → (path : List ℕ) × (end_of g 0 path ≡ Some i)
reached_below g is zero i lt i_in = absurd (omega arith)
reached_below g is (suc bound) i lt i_in = elim (Contains-append_cases (0 ∷ []) (flat_map (λ node. node.kids) (take i g)) i (is.numbered.early i i_in)) [
  | inl root ↦ first (contains_get (0 ∷ []) i root)
  | inr kid ↦
      let m = kid_of_first g i i kid in
      let r = reached_below g is bound m.0 (omega (arith, m.1)) m.2 in
      (r.0 ++ m.3 ∷ [], walk-push (kids_of g) 0 m.0 i m.3 r.0 r.1 m.4)
]
  where
    first : (k : ℕ) × (slice_get (0 ∷ []) k ≡ Some i) → (path : List ℕ) × (end_of g 0 path ≡ Some i)
    first (zero, e) = ([], e)
    first (suc k, e) = absurd (let e' : None ≡ Some i = e in cc)

-- a tree has a root
pub tree_some : (g : List Node) → IsTreeGraph g → 0 < length g
tree_some g is = All-contains (λ r. r < length g) (0 ∷ []) 0 (roots_in g (0 ∷ []) is.canonical) (0, omega arith, refl)
