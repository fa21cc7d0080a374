-- First nodes: they are the same tree where components share one.
use Rattle.std.proofs.Common.{◌≡◌, ◌↔◌, ◌⊎◌, ℕ, zero, suc, ◌<◌, Bool, true, false, cond, List, [], ◌∷◌, length, map, Option, Some, None, option_and_then, slice_get, slice_index_or, refl, sym, ap, ◌∙◌, subst, arith, inl, inr, Contains, eq-eqb}
use Rattle.std.specs.List.{AllZip, filter}
use Rattle.std.specs.Option.{option_map}
use Rattle.std.proofs.lemmas.Option.{same_Some, slice_get-map}
use Rattle.std.proofs.lemmas.Bool.{cases_lt, cases_eq, false≢true}
use Rattle.mars_tree.specs.Graph.{Node, label_of, kids_of, shown_at, Same}
use Rattle.mars_tree.specs.Walk.{walk}
use Rattle.mars_tree.proofs.Paths.{kids_from_label, kid_in, end_in, stands_from_label, label_in}
use Rattle.mars_tree.proofs.Walks.{same_from_bisimulation}
use Rattle.mars_reach.specs.Order.{AreDistinct}
use Rattle.mars_reach.proofs.Numbers.{at_contains, contains_at}
use Rattle.mars_comp.specs.Components.{component_of, IsKid}
use Rattle.mars_comp.specs.Key.{inner, inner_kids, same_part, item_of, entry}
use Rattle.mars_comp.specs.KeyLaws.{IsParted, IsOuterKid, NumbersTell}
use Rattle.mars_comp.specs.Least.{IsAtMost, IsMember}
use Rattle.mars_comp.specs.LeastLaws.{ShareTree}
use Rattle.mars_first.specs.First.{row_along, IsLess, IsBefore, Selects, Differ, IsNarrowed, Narrows, done, step}
use Rattle.mars_first.specs.FirstLaws.{FirstKeysTell}
use Rattle.mars_comp.specs.declared.items.Item.{Item}
use Rattle.mars_comp.specs.declared.items.Item.TheVariants as item
use Rattle.mars_comp.proofs.Following.{IsTwin, same_turned, same_on, same_end, same_label, same_kid, twin_part, twin_parts, twin_kids}
use Rattle.mars_comp.proofs.Inner.{inner_are}
use Rattle.mars_comp.proofs.KeyTrees.{map_same, member_kid, key_trees, twin_zip}
use Rattle.mars_comp.proofs.LeastTrees.{tell_from, tell_turned, share_turned, zip_weaker}
use Rattle.mars_comp.proofs.Ordered.{at_most_both}
use Rattle.mars_comp.proofs.Zips.{zip_get, zip_length, zip_filter}

-- of two paths the one is before the other, or they are one
data Compared (p q : List ℕ) : Type 0 where
  before : IsBefore p q → Compared p q
  level : p ≡ q → Compared p q
  after : IsBefore q p → Compared p q

level_paths : (p q : List ℕ) → length p ≡ length q → IsLess p q ⊎ ((p ≡ q) ⊎ IsLess q p)
level_paths [] [] e = inr (inl refl)
level_paths [] (k ∷ q) e = absurd (omega arith)
level_paths (j ∷ p) [] e = absurd (omega arith)
level_paths (j ∷ p) (k ∷ q) e = elim (cases_eq j k) [
  | inl same ↦ elim (level_paths p q (omega arith)) [
    | inl less ↦ inl (inr (same, less))
    | inr rest ↦ elim rest [
      | inl tail ↦ inr (inl (ap (λ x. x ∷ p) same ∙ ap (λ xs. k ∷ xs) tail))
      | inr more ↦ inr (inr (inr (sym same, more)))
    ]
  ]
  | inr other ↦ elim (cases_lt j k) [
    | inl lt ↦ inl (inl lt)
    | inr le ↦ inr (inr (inl (omega (arith, other, le))))
  ]
]

compared : (p q : List ℕ) → Compared p q
compared p q = elim (cases_lt (length p) (length q)) [
  | inl lt ↦ before (inl lt)
  | inr le ↦ elim (cases_lt (length q) (length p)) [
    | inl lt ↦ after (inl lt)
    | inr more ↦
        let size : length p ≡ length q = omega (arith, le, more) in
        elim (level_paths p q size) [
          | inl less ↦ before (inr (size, less))
          | inr rest ↦ elim rest [
            | inl same ↦ level same
            | inr less ↦ after (inr (sym size, less))
          ]
        ]
  ]
]

-- at each place both lists end, or both have an element, and the two are related
data Both (R : ℕ → ℕ → Type 0) (xs ys : List ℕ) (k : ℕ) : Type 0 where
  ended : slice_get xs k ≡ None → slice_get ys k ≡ None → Both R xs ys k
  shared : (x y : ℕ) → slice_get xs k ≡ Some x → slice_get ys k ≡ Some y → R x y → Both R xs ys k

zip_both : (R : ℕ → ℕ → Type 0) (xs ys : List ℕ) (k : ℕ) → AllZip R xs ys → Both R xs ys k
zip_both R [] [] k z = ended refl refl
zip_both R [] (y ∷ ys) k z = absurd z
zip_both R (x ∷ xs) [] k z = absurd z
zip_both R (x ∷ xs) (y ∷ ys) zero z = shared x y refl refl z.0
zip_both R (x ∷ xs) (y ∷ ys) (suc k) z = either (zip_both R xs ys k z.1)
  where
    either : Both R xs ys k → Both R (x ∷ xs) (y ∷ ys) (suc k)
    either (ended e f) = ended e f
    either (shared a b e f r) = shared a b e f r

-- nodes of two components that are the same tree
record Pair (g h : List Node) (parts others : List ℕ) (n m a b : ℕ) : Type 0 where
  pub left : IsMember g parts n a
  pub right : IsMember h others m b
  pub same : Same g a h b

twin_of : (g h : List Node) (parts others : List ℕ) (n m a b : ℕ) → Pair g h parts others n m a b → IsTwin g h a b
twin_of g h parts others n m a b p = record { left = p.left.within; right = p.right.within; same = p.same }

pair_turned : (g h : List Node) (parts others : List ℕ) (n m a b : ℕ) → Pair g h parts others n m a b → Pair h g others parts m n b a
pair_turned g h parts others n m a b p = record { left = p.right; right = p.left; same = same_turned g h a b p.same }

-- each candidate of one component has its twin among those of the other
abbrev Covers : (g h : List Node) (parts others : List ℕ) (n m : ℕ) (nodes beside : List ℕ) → Type 0
Covers g h parts others n m nodes beside = (a : ℕ) → Contains nodes a → (b : ℕ) × Contains beside b × Pair g h parts others n m a b

-- a kid outside the component
outer_of : (g : List Node) (parts : List ℕ) (n i kid : ℕ) → IsMember g parts n i → IsKid g i kid → same_part parts i kid ≡ false → IsOuterKid g parts n kid
outer_of g parts n i kid member k other = record {
  node = i;
  within = member.within;
  beside = member.beside;
  is_kid = k;
  outer = λ same. false≢true (sym other ∙ eq-eqb (component_of parts i) (component_of parts kid) (member.beside ∙ sym same));
}

-- what passes on both sides of equal items is at one place
filter_both : (p q : ℕ → Bool) (f e : ℕ → ℕ) (xs ys : List ℕ) (k x y : ℕ) → map (λ z. cond (p z) (item.Inner 0) (item.Outer (f z))) xs ≡ map (λ z. cond (q z) (item.Inner 0) (item.Outer (e z))) ys →
    slice_get xs k ≡ Some x → slice_get ys k ≡ Some y → p x ≡ true → (j : ℕ) × (slice_get (filter p xs) j ≡ Some x) × (slice_get (filter q ys) j ≡ Some y)
filter_both p q f e [] ys k x y same i j pass = absurd cc
filter_both p q f e (a ∷ xs) [] k x y same i j pass = absurd cc
filter_both p q f e (a ∷ xs) (b ∷ ys) zero x y same i j pass =
    let passed : p a ≡ true = ap p (same_Some a x i) ∙ pass in
    let heads : cond (p a) (item.Inner 0) (item.Outer (f a)) ≡ cond (q b) (item.Inner 0) (item.Outer (e b)) = cc in
    either (p a) passed (q b) heads
  where
    either : (s : Bool) → s ≡ true → (t : Bool) → cond s (item.Inner 0) (item.Outer (f a)) ≡ cond t (item.Inner 0) (item.Outer (e b)) →
        (j : ℕ) × (slice_get (cond s (a ∷ filter p xs) (filter p xs)) j ≡ Some x) × (slice_get (cond t (b ∷ filter q ys) (filter q ys)) j ≡ Some y)
    either true passed true one = (0, i, j)
    either true passed false one = absurd cc
    either false passed t one = absurd cc
filter_both p q f e (a ∷ xs) (b ∷ ys) (suc k) x y same i j pass =
    let heads : cond (p a) (item.Inner 0) (item.Outer (f a)) ≡ cond (q b) (item.Inner 0) (item.Outer (e b)) = cc in
    let tails : map (λ z. cond (p z) (item.Inner 0) (item.Outer (f z))) xs ≡ map (λ z. cond (q z) (item.Inner 0) (item.Outer (e z))) ys = cc in
    either (p a) (q b) heads (filter_both p q f e xs ys k x y tails i j pass)
  where
    either : (s t : Bool) → cond s (item.Inner 0) (item.Outer (f a)) ≡ cond t (item.Inner 0) (item.Outer (e b)) →
        (j : ℕ) × (slice_get (filter p xs) j ≡ Some x) × (slice_get (filter q ys) j ≡ Some y) →
        (j : ℕ) × (slice_get (cond s (a ∷ filter p xs) (filter p xs)) j ≡ Some x) × (slice_get (cond t (b ∷ filter q ys) (filter q ys)) j ≡ Some y)
    either true true one (l, c, d) = (suc l, c, d)
    either false false one (l, c, d) = (l, c, d)
    either true false one r = absurd cc
    either false true one r = absurd cc

module _ (g h : List Node) (parts others outside numbers : List ℕ) (n m : ℕ) (left : IsParted g parts) (right : IsParted h others) (tell : NumbersTell g parts outside n h others numbers m) where
  -- the same row
  pair_item : (x y k a b : ℕ) → Pair g h parts others n m x y → slice_get (kids_of g x) k ≡ Some a → slice_get (kids_of h y) k ≡ Some b → item_of parts outside [] x a ≡ item_of others numbers [] y b
  pair_item x y k a b p i j = either (same_part parts x a) refl (same_part others y b) refl (twin_parts g h parts others left right x y a b (twin_of g h parts others n m x y p) beside)
    where
      beside : IsTwin g h a b
      beside = record {
        left = kid_in g x k a left.graph p.left.within i;
        right = kid_in h y k b right.graph p.right.within j;
        same = same_kid g h x y k a b p.same i j;
      }

      either : (s : Bool) → same_part parts x a ≡ s → (r : Bool) → same_part others y b ≡ r → s ≡ r →
          cond s (item.Inner 0) (item.Outer (slice_index_or outside a 0)) ≡ cond r (item.Inner 0) (item.Outer (slice_index_or numbers b 0))
      either true inside true within one = refl
      either false inside false within one =
          ap (λ q. item.Outer q) ((tell a b (outer_of g parts n x a p.left (k, i) inside) (outer_of h others m y b p.right (k, j) within)).1 beside.same)
      either true inside false within one = absurd cc
      either false inside true within one = absurd cc

  pair_row : (x y : ℕ) → Pair g h parts others n m x y → entry g parts outside [] x ≡ entry h others numbers [] y
  pair_row x y p =
      let kids : map (item_of parts outside [] x) (kids_of g x) ≡ map (item_of others numbers [] y) (kids_of h y) =
      map_same (item_of parts outside [] x) (item_of others numbers [] y) (kids_of g x) (kids_of h y)
      (kids_from_label g h x y left.graph right.graph p.left.within p.right.within (same_label g h x y p.same)) (λ k a b i j. pair_item x y k a b p i j) in
      ap (λ l. item.Node l ∷ map (item_of parts outside [] x) (kids_of g x)) (same_label g h x y p.same) ∙ ap (λ items. item.Node (label_of h y) ∷ items) kids

  -- kids within the component
  pair_kids : (x y : ℕ) → Pair g h parts others n m x y → AllZip (IsTwin g h) (kids_of (inner g parts) x) (kids_of (inner h others) y)
  pair_kids x y p =
      let t = twin_of g h parts others n m x y p in
      let z : AllZip (IsTwin g h) (inner_kids g parts x) (inner_kids h others y) =
      zip_filter (IsTwin g h) (same_part parts x) (same_part others y) (λ a b s. twin_parts g h parts others left right x y a b t s) (kids_of g x) (kids_of h y) (twin_kids g h left.graph right.graph x y t) in
      subst (λ (xs : List ℕ). AllZip (IsTwin g h) xs (kids_of (inner h others) y)) (sym (inner_are g parts x left.components.size))
      (subst (AllZip (IsTwin g h) (inner_kids g parts x)) (sym (inner_are h others y right.components.size)) z)

  -- and so the same rows along each path
  pair_rows : (path : List ℕ) (x y : ℕ) → Pair g h parts others n m x y → row_along g parts outside x path ≡ row_along h others numbers y path
  pair_rows [] x y p = ap (λ r. Some r) (pair_row x y p)
  pair_rows (k ∷ path) x y p = either (pair_rows path) (zip_both (IsTwin g h) (kids_of (inner g parts) x) (kids_of (inner h others) y) k (pair_kids x y p))
    where
      f : ℕ → Option ℕ
      f z = walk (kids_of (inner g parts)) z path

      e : ℕ → Option ℕ
      e z = walk (kids_of (inner h others)) z path

      either : ((a b : ℕ) → Pair g h parts others n m a b → row_along g parts outside a path ≡ row_along h others numbers b path) → Both (IsTwin g h) (kids_of (inner g parts) x) (kids_of (inner h others) y) k →
          row_along g parts outside x (k ∷ path) ≡ row_along h others numbers y (k ∷ path)
      either rows (ended e1 e2) =
          ap (λ (o : Option ℕ). option_map (entry g parts outside []) (option_and_then f o)) e1 ∙ sym (ap (λ (o : Option ℕ). option_map (entry h others numbers []) (option_and_then e o)) e2)
      either rows (shared a b at to t) =
          ap (λ (o : Option ℕ). option_map (entry g parts outside []) (option_and_then f o)) at
          ∙ rows a b (record {
            left = member_kid g parts n x a left.graph left.components.size p.left (k, at);
            right = member_kid h others m y b right.graph right.components.size p.right (k, to);
            same = t.same;
          })
          ∙ sym (ap (λ (o : Option ℕ). option_map (entry h others numbers []) (option_and_then e o)) to)

  -- where the candidates of the one component differ, so do those of the other
  differ_beside : (nodes beside path : List ℕ) → Covers g h parts others n m nodes beside → Differ g parts outside nodes path → ((a b : ℕ) → Contains beside a → Contains beside b → row_along h others numbers a path ≡ row_along h others numbers b path) → ⊥
  differ_beside nodes beside path covers d alike =
      let a = covers d.one d.one_in in
      let b = covers d.other d.other_in in
      d.apart (pair_rows path d.one a.0 a.2 ∙ alike a.0 b.0 a.1 b.1 ∙ sym (pair_rows path d.other b.0 b.2))

  -- the twins of those candidates that have a row
  abbrev Beside : List ℕ → ℕ → ℕ → Type 0
  Beside nodes a b = Pair g h parts others n m a b × Contains nodes a

  twins_there : (nodes xs : List ℕ) → ((k b : ℕ) → slice_get xs k ≡ Some b → (a : ℕ) × Contains nodes a × Pair h g others parts m n b a) → (es : List ℕ) × AllZip (Beside nodes) es xs
  twins_there nodes [] f = ([], tt)
  twins_there nodes (b ∷ xs) f =
      let a = f 0 b refl in
      let rest = twins_there nodes xs (λ k. f (suc k)) in
      (a.0 ∷ rest.0, ((pair_turned h g others parts m n b a.0 a.2, a.1), rest.1))

  record Mirrored (nodes path : List ℕ) (row : List Item) (size : ℕ) : Type 0 where
    pub list : List ℕ
    pub selects : Selects g parts outside nodes path row list
    pub count : length list ≡ size

  mirrored : (nodes beside path : List ℕ) (row : List Item) (some : List ℕ) → Covers g h parts others n m nodes beside → Covers h g others parts m n beside nodes → Selects h others numbers beside path row some →
      Mirrored nodes path row (length some)
  mirrored nodes beside path row some covers back s = record {
    list = es;
    selects = record { once = once; are = λ a. (has a, complete a) };
    count = zip_length (Beside nodes) es some z;
  }
    where
      made : (es : List ℕ) × AllZip (Beside nodes) es some
      made = twins_there nodes some (λ k b e. back b ((s.are b).0 (contains_at some k b e)).0)

      es : List ℕ
      es = made.0

      z : AllZip (Beside nodes) es some
      z = made.1

      once : AreDistinct es
      once i j a e f =
          let b = zip_get (Beside nodes) es some i a z e in
          let c = zip_get (Beside nodes) es some j a z f in
          let same : c.0 ≡ b.0 = right.apart c.0 b.0 c.2.0.right.within b.2.0.right.within (same_on h g h c.0 a b.0 (same_turned g h a c.0 c.2.0.same) b.2.0.same) in
          s.once i j b.0 b.1 (c.1 ∙ ap (λ (x : ℕ). Some x) same)

      has : (a : ℕ) → Contains es a → Contains nodes a × (row_along g parts outside a path ≡ Some row)
      has a there =
          let at = at_contains es a there in
          let b = zip_get (Beside nodes) es some at.0 a z at.1 in
          (b.2.1, pair_rows path a b.0 b.2.0 ∙ ((s.are b.0).0 (contains_at some at.0 b.0 b.1)).1)

      complete : (a : ℕ) → Contains nodes a × (row_along g parts outside a path ≡ Some row) → Contains es a
      complete a (in_nodes, is) =
          let b = covers a in_nodes in
          let at = at_contains some b.0 ((s.are b.0).1 (b.1, sym (pair_rows path a b.0 b.2) ∙ is)) in
          either b.0 b.2 at.0 at.1 (zip_both (Beside nodes) es some at.0 z)
        where
          either : (b : ℕ) → Pair g h parts others n m a b → (k : ℕ) → slice_get some k ≡ Some b → Both (Beside nodes) es some k → Contains es a
          either b p k at (ended e1 e2) = absurd cc
          either b p k at (shared x y e f r) =
              let one : y ≡ b = same_Some y b (sym f ∙ at) in
              let same : Same g x h b = subst (λ (w : ℕ). Same g x h w) one r.0.same in
              let is : x ≡ a = left.apart x a r.0.left.within p.left.within (same_on g h g x b a same (same_turned g h a b p.same)) in
              subst (Contains es) is (contains_at es k x e)

  -- what is left of the one is covered by what is left of the other
  left_covers : (nodes beside : List ℕ) (path : List ℕ) (row : List Item) (some most : List ℕ) → Covers g h parts others n m nodes beside → Selects g parts outside nodes path row some → Selects h others numbers beside path row most →
      Covers g h parts others n m some most
  left_covers nodes beside path row some most covers s t a there =
      let is = (s.are a).0 there in
      let b = covers a is.0 in
      (b.0, (t.are b.0).1 (b.1, sym (pair_rows path a b.0 b.2) ∙ is.1), b.2)

  -- rows that are alike along every path tell that trees are the same
  data Level (i j : ℕ) : Type 0 where
    rows : IsMember g parts n i → IsMember h others m j → ((q : List ℕ) → row_along g parts outside i q ≡ row_along h others numbers j q) → Level i j
    twins : IsTwin g h i j → Level i j

  row_label : (i j : ℕ) → row_along g parts outside i [] ≡ row_along h others numbers j [] → label_of g i ≡ label_of h j
  row_label i j e =
      let one : entry g parts outside [] i ≡ entry h others numbers [] j = same_Some (entry g parts outside [] i) (entry h others numbers [] j) e in
      let node : item.Node (label_of g i) ≡ item.Node (label_of h j) = cc in
      cc

  level_shown : (i j : ℕ) → Level i j → shown_at g i ≡ shown_at h j
  level_shown i j (rows a b e) = stands_from_label (label_of g i) (label_of h j) i j (row_label i j (e [])) (label_in g i left.ground a.within)
  level_shown i j (twins t) = same_Some (shown_at g i) (shown_at h j) (t.same [])

  level_count : (i j : ℕ) → Level i j → length (kids_of g i) ≡ length (kids_of h j)
  level_count i j (rows a b e) = kids_from_label g h i j left.graph right.graph a.within b.within (row_label i j (e []))
  level_count i j (twins t) = kids_from_label g h i j left.graph right.graph t.left t.right (same_label g h i j t.same)

  level_follows : (i j k x y : ℕ) → Level i j → slice_get (kids_of g i) k ≡ Some x → slice_get (kids_of h j) k ≡ Some y → Level x y
  level_follows i j k x y (twins t) a b = twins (record {
    left = kid_in g i k x left.graph t.left a;
    right = kid_in h j k y right.graph t.right b;
    same = same_kid g h i j k x y t.same a b;
  })
  level_follows i j k x y (rows i_in j_in e) a b = either (same_part parts i x) refl (same_part others j y) refl item_same
    where
      f1 : ℕ → Item
      f1 = item_of parts outside [] i

      f2 : ℕ → Item
      f2 = item_of others numbers [] j

      items : map f1 (kids_of g i) ≡ map f2 (kids_of h j)
      items =
          let one : entry g parts outside [] i ≡ entry h others numbers [] j = same_Some (entry g parts outside [] i) (entry h others numbers [] j) (e []) in
          cc

      item_same : f1 x ≡ f2 y
      item_same =
          let first : slice_get (map f1 (kids_of g i)) k ≡ Some (f1 x) = slice_get-map f1 (kids_of g i) k ∙ ap (option_map f1) a in
          let second : slice_get (map f2 (kids_of h j)) k ≡ Some (f2 y) = slice_get-map f2 (kids_of h j) k ∙ ap (option_map f2) b in
          same_Some (f1 x) (f2 y) (sym first ∙ ap (λ xs. slice_get xs k) items ∙ second)

      inside : same_part parts i x ≡ true → Level x y
      inside pass =
          let at = filter_both (same_part parts i) (same_part others j) (λ z. slice_index_or outside z 0) (λ z. slice_index_or numbers z 0) (kids_of g i) (kids_of h j) k x y items a b pass in
          let here : slice_get (kids_of (inner g parts) i) at.0 ≡ Some x = ap (λ xs. slice_get xs at.0) (inner_are g parts i left.components.size) ∙ at.1 in
          let there : slice_get (kids_of (inner h others) j) at.0 ≡ Some y = ap (λ xs. slice_get xs at.0) (inner_are h others j right.components.size) ∙ at.2 in
          rows (member_kid g parts n i x left.graph left.components.size i_in (at.0, here)) (member_kid h others m j y right.graph right.components.size j_in (at.0, there))
          (λ q. sym (ap (λ (o : Option ℕ). option_map (entry g parts outside []) (option_and_then (λ (z : ℕ). walk (kids_of (inner g parts)) z q) o)) here)
          ∙ e (at.0 ∷ q)
          ∙ ap (λ (o : Option ℕ). option_map (entry h others numbers []) (option_and_then (λ (z : ℕ). walk (kids_of (inner h others)) z q) o)) there)

      either : (s : Bool) → same_part parts i x ≡ s → (t : Bool) → same_part others j y ≡ t →
          cond s (item.Inner 0) (item.Outer (slice_index_or outside x 0)) ≡ cond t (item.Inner 0) (item.Outer (slice_index_or numbers y 0)) → Level x y
      either true pass t within one = inside pass
      either false out true within one = absurd cc
      either false out false within one =
          let number : slice_index_or outside x 0 ≡ slice_index_or numbers y 0 = cc in
          twins (record {
            left = kid_in g i k x left.graph i_in.within a;
            right = kid_in h j k y right.graph j_in.within b;
            same = (tell x y (outer_of g parts n i x i_in (k, a) out) (outer_of h others m j y j_in (k, b) within)).0 number;
          })

  alike_same : (x y : ℕ) → IsMember g parts n x → IsMember h others m y → ((q : List ℕ) → row_along g parts outside x q ≡ row_along h others numbers y q) → Same g x h y
  alike_same x y x_in y_in e =
      same_from_bisimulation (kids_of g) (shown_at g) (kids_of h) (shown_at h) Level (record { shown = level_shown; count = level_count; follows = level_follows }) x y (rows x_in y_in e)

-- the row that is left has no more candidates than the twins' row has
module _ (g h : List Node) (parts others outside numbers : List ℕ) (n m : ℕ) (left : IsParted g parts) (right : IsParted h others) (tell : NumbersTell g parts outside n h others numbers m)
    (nodes beside : List ℕ) (covers : Covers g h parts others n m nodes beside) (back : Covers h g others parts m n beside nodes) where
  one_path : (some most : List ℕ) (s : IsNarrowed g parts outside nodes some) (t : IsNarrowed h others numbers beside most) → s.path ≡ t.path
  one_path some most s t = either (compared s.path t.path)
    where
      either : Compared s.path t.path → s.path ≡ t.path
      either (level e) = e
      either (before lt) = absurd (differ_beside g h parts others outside numbers n m left right tell nodes beside s.path covers s.differ (t.alike s.path lt))
      either (after lt) = absurd (differ_beside h g others parts numbers outside m n right left (tell_turned g h parts others outside numbers n m tell) beside nodes t.path back t.differ (s.alike t.path lt))

  rarer : (some most : List ℕ) (s : IsNarrowed g parts outside nodes some) (t : IsNarrowed h others numbers beside most) → s.path ≡ t.path →
      (length some < length most) ⊎ ((length some ≡ length most) × IsAtMost s.row t.row)
  rarer some most s t e =
      let twins = mirrored g h parts others outside numbers n m left right tell nodes beside t.path t.row most covers back t.selects in
      let count = twins.count in
      let full = t.some in
      let r = s.rarest t.row twins.list (subst (λ (q : List ℕ). Selects g parts outside nodes q t.row twins.list) (sym e) twins.selects) (omega arith) in
      subst (λ (k : ℕ). (length some < k) ⊎ ((length some ≡ k) × IsAtMost s.row t.row)) count r

one_row : (r q : List Item) (x y : ℕ) → (x < y) ⊎ ((x ≡ y) × IsAtMost r q) → (y < x) ⊎ ((y ≡ x) × IsAtMost q r) → r ≡ q
one_row r q x y (inl lt) (inl more) = absurd (omega (arith, lt, more))
one_row r q x y (inl lt) (inr (e, f)) = absurd (omega (arith, lt, e))
one_row r q x y (inr (e, f)) (inl lt) = absurd (omega (arith, lt, e))
one_row r q x y (inr (e, f)) (inr (d, k)) = at_most_both r q f k

start_in : (g : List Node) (parts outside : List ℕ) (start : ℕ) (nodes : List ℕ) → Narrows g parts outside start nodes → Contains nodes start
start_in g parts outside start nodes (done all alike there) = there
start_in g parts outside start nodes (step all left is rest) = ((is.selects.are start).0 (start_in g parts outside start left rest)).0

-- narrowed in step, the two come to one tree
module _ (g h : List Node) (parts others outside numbers : List ℕ) (n m : ℕ) (left : IsParted g parts) (right : IsParted h others) (tell : NumbersTell g parts outside n h others numbers m) (x y : ℕ) where
  in_step : (nodes beside : List ℕ) → Covers g h parts others n m nodes beside → Covers h g others parts m n beside nodes → Narrows g parts outside x nodes → Narrows h others numbers y beside → Same g x h y
  in_step nodes beside covers back (done all alike x_in) (done each even y_in) =
      let b = covers x x_in in
      let a = back y y_in in
      alike_same g h parts others outside numbers n m left right tell x y b.2.left a.2.left
      (λ q. pair_rows g h parts others outside numbers n m left right tell q x b.0 b.2 ∙ even q b.0 y b.1 y_in)
  in_step nodes beside covers back (done all alike x_in) (step each most t rest) =
      absurd (differ_beside h g others parts numbers outside m n right left (tell_turned g h parts others outside numbers n m tell) beside nodes t.path back t.differ (alike t.path))
  in_step nodes beside covers back (step all some s rest) (done each even y_in) =
      absurd (differ_beside g h parts others outside numbers n m left right tell nodes beside s.path covers s.differ (even s.path))
  in_step nodes beside covers back (step all some s more) (step each most t rest) =
      let turned_tell = tell_turned g h parts others outside numbers n m tell in
      let path = one_path g h parts others outside numbers n m left right tell nodes beside covers back some most s t in
      let row : s.row ≡ t.row = one_row s.row t.row (length some) (length most)
      (rarer g h parts others outside numbers n m left right tell nodes beside covers back some most s t path)
      (rarer h g others parts numbers outside m n right left turned_tell beside nodes back covers most some t s (sym path)) in
      let here : Selects g parts outside nodes t.path t.row some =
      subst (λ (q : List ℕ). Selects g parts outside nodes q t.row some) path (subst (λ (r : List Item). Selects g parts outside nodes s.path r some) row s.selects) in
      in_step some most
      (left_covers g h parts others outside numbers n m left right tell nodes beside t.path t.row some most covers here t.selects)
      (left_covers h g others parts numbers outside m n right left turned_tell beside nodes t.path t.row most some back t.selects here) more rest

-- where a tree is shared, each node has its twin
all_shared : (g h : List Node) (parts others : List ℕ) (n m : ℕ) (nodes beside : List ℕ) → IsParted g parts → IsParted h others → ShareTree g parts n h others m → ((a : ℕ) → Contains nodes a ↔ IsMember g parts n a) → ((b : ℕ) → Contains beside b ↔ IsMember h others m b) →
    Covers g h parts others n m nodes beside
all_shared g h parts others n m nodes beside left right s members also a there =
    let member = (members a).0 there in
    let to_a : component_of parts s.left ≡ component_of parts a = s.left_in.beside ∙ sym member.beside in
    let reach = ((left.components.one s.left a s.left_in.within member.within).0 to_a).0 in
    let end = same_end g h s.left s.right reach.0 a s.same reach.1 in
    let b = end.node in
    let b_in = end_in h s.right reach.0 b right.graph s.right_in.within end.ends in
    let here : IsTwin g h s.left s.right = record { left = s.left_in.within; right = s.right_in.within; same = s.same } in
    let twin : IsTwin g h a b = record { left = member.within; right = b_in; same = end.same } in
    let part : component_of others s.right ≡ component_of others b = twin_part g h parts others left right s.left s.right a b here twin to_a in
    let beside_member : IsMember h others m b = record { within = b_in; beside = sym part ∙ s.right_in.beside } in
    (b, (also b).1 beside_member, record { left = member; right = beside_member; same = end.same })

pub first_tell : FirstKeysTell
first_tell g h parts others outside numbers n m nodes beside key other left right n_in m_in tell first second =
    let a = first.start in
    let b = second.start in
    let a_in : IsMember g parts n a = (first.members a).0 (start_in g parts outside a first.all first.narrows) in
    let b_in : IsMember h others m b = (second.members b).0 (start_in h others numbers b second.all second.narrows) in
    let from = tell_from g h parts others outside numbers n m a b tell a_in b_in in
    let trees = key_trees g h parts others outside numbers a b key other left right a_in.within b_in.within from (nodes, first.is) (beside, second.is) in (
      (
        λ e. record { left = a; right = b; left_in = a_in; right_in = b_in; same = trees.0 e },
        λ s. trees.1 (in_step g h parts others outside numbers n m left right tell a b first.all second.all
            (all_shared g h parts others n m first.all second.all left right s first.members second.members)
            (all_shared h g others parts m n second.all first.all right left (share_turned g h parts others n m s) second.members first.members)
            first.narrows second.narrows),
      ),
      λ e. zip_weaker (IsTwin g h) (λ x y. Same g x h y) (λ x y t. t.same) nodes beside
          (twin_zip g h parts others outside numbers a b nodes beside left right a_in.within b_in.within from first.is.order second.is.order (trees.0 e)),
    )
