-- Which nodes of a graph are the same tree, and the least node of each tree.
use Rattle.std.proofs.Common.{◌≡◌, ℕ, zero, suc, ◌+◌, ◌*◌, ◌<◌, ◌≤◌, ◌&&◌, Bool, true, false, cond, nat_eq, List, [], ◌∷◌, length, map, Option, Some, option_and_then, slice_get, refl, sym, ap, ◌∙◌, arith, inl, inr}
use Rattle.std.specs.Bool.{Decides}
use Rattle.std.specs.Cmp.{unsigned_Decides}
use Rattle.std.specs.Option.{option_map}
use Rattle.std.specs.Cmp.Lexicographic.{pointwise}
use Rattle.std.proofs.lemmas.Bool.{cases_lt}
use Rattle.std.proofs.lemmas.Option.{same_Some}
use Rattle.mars_base.proofs.Deciding.{both, joined}
use Rattle.mars_tree.specs.Equality.{same_label}
use Rattle.mars_tree.specs.EqualityLaws.{label_decides}
use Rattle.mars_tree.specs.Graph.{Node, Shown, IsGraph, label_of, kids_of, shown_at, end_of, at, Same}
use Rattle.mars_tree.specs.Graph as graph
use Rattle.mars_tree.proofs.Paths.{label_from_stands, kids_from_label, kid_in}
use Rattle.mars_tree.proofs.ShortPaths.{short_paths_decide}

abbrev shown_eq : Shown → Shown → Bool
shown_eq (graph.label a) (graph.label b) = same_label a b
shown_eq (graph.label a) (graph.free m) = false
shown_eq (graph.free n) (graph.label b) = false
shown_eq (graph.free n) (graph.free m) = nat_eq n m

shown_decides : (x y : Shown) → Decides (shown_eq x y) (x ≡ y)
shown_decides (graph.label a) (graph.label b) = (λ e. ap graph.label ((label_decides a b).0 e), λ e. let one : a ≡ b = cc in (label_decides a b).1 one)
shown_decides (graph.label a) (graph.free m) = (λ e. cc, λ e. cc)
shown_decides (graph.free n) (graph.label b) = (λ e. cc, λ e. cc)
shown_decides (graph.free n) (graph.free m) = (λ e. ap graph.free ((unsigned_Decides n m).0 e), λ e. let one : n ≡ m = cc in (unsigned_Decides n m).1 one)

-- tests that are true alike are one
one_test : (a b : Bool) → (a ≡ true → b ≡ true) → (b ≡ true → a ≡ true) → a ≡ b
one_test true b f g = sym (f refl)
one_test false true f g = g refl
one_test false false f g = refl

-- the first number from one on, of so many, of which a test is true, and else the one after them
abbrev seek : (ℕ → Bool) → ℕ → ℕ → ℕ
seek test from zero = from
seek test from (suc more) = cond (test from) from (seek test (suc from) more)

sought : (test : ℕ → Bool) (more from n : ℕ) → from ≤ n → n < from + more → test n ≡ true → (test (seek test from more) ≡ true) × (seek test from more ≤ n)
sought test zero from n a b e = absurd (omega (arith, a, b))
sought test (suc more) from n a b e = by (λ lt. sought test more (suc from) n (omega (arith, lt)) (omega (arith, b)) e) (test from) refl
  where
    later : test from ≡ false → (from < n)
    later f = elim (cases_lt from n) [
      | inl lt ↦ lt
      | inr le ↦ let here : n ≡ from = omega (arith, a, le) in let yes : test from ≡ true = sym (ap test here) ∙ e in cc
    ]

    by : (from < n → (test (seek test (suc from) more) ≡ true) × (seek test (suc from) more ≤ n)) → (t : Bool) → test from ≡ t
        → (test (cond t from (seek test (suc from) more)) ≡ true) × (cond t from (seek test (suc from) more) ≤ n)
    by rest true t = (t, a)
    by rest false t = rest (later t)

seek-same : (test other : ℕ → Bool) (more from : ℕ) → ((v : ℕ) → from ≤ v → v < from + more → test v ≡ other v) → seek test from more ≡ seek other from more
seek-same test other zero from f = refl
seek-same test other (suc more) from f =
    let here : test from ≡ other from = f from (omega arith) (omega arith) in
    let later : seek test (suc from) more ≡ seek other (suc from) more = seek-same test other more (suc from) (λ v a b. f v (omega (arith, a)) (omega (arith, b))) in
    λ i. cond (here i) from (later i)

module _ (g : List Node) (sound : IsGraph g) where
  -- whether two nodes show the same along the paths of fewer than so many kids
  abbrev agree : ℕ → ℕ → ℕ → Bool
  agree zero n m = true
  agree (suc depth) n m = shown_eq (shown_at g n) (shown_at g m) && pointwise (agree depth) (kids_of g n) (kids_of g m)

  kids_path : (d : ℕ) → ((x y : ℕ) → agree d x y ≡ true → (path : List ℕ) → length path < d → at g x path ≡ at g y path)
      → (xs ys : List ℕ) (k : ℕ) → pointwise (agree d) xs ys ≡ true → (path : List ℕ) → length path < d
      → option_map (shown_at g) (option_and_then (λ kid. end_of g kid path) (slice_get xs k)) ≡ option_map (shown_at g) (option_and_then (λ kid. end_of g kid path) (slice_get ys k))
  kids_path d below [] [] k e path h = refl
  kids_path d below [] (y ∷ ys) k e path h = cc
  kids_path d below (x ∷ xs) [] k e path h = cc
  kids_path d below (x ∷ xs) (y ∷ ys) zero e path h = below x y (both (agree d x y) (pointwise (agree d) xs ys) e).0 path h
  kids_path d below (x ∷ xs) (y ∷ ys) (suc k) e path h = kids_path d below xs ys k (both (agree d x y) (pointwise (agree d) xs ys) e).1 path h

  agree_paths : (d n m : ℕ) → agree d n m ≡ true → (path : List ℕ) → length path < d → at g n path ≡ at g m path
  agree_paths zero n m e path h = absurd (omega (arith, h))
  agree_paths (suc d) n m e [] h =
      ap (λ s. Some s) ((shown_decides (shown_at g n) (shown_at g m)).0 (both (shown_eq (shown_at g n) (shown_at g m)) (pointwise (agree d) (kids_of g n) (kids_of g m)) e).0)
  agree_paths (suc d) n m e (k ∷ path) h =
      kids_path d (agree_paths d) (kids_of g n) (kids_of g m) k (both (shown_eq (shown_at g n) (shown_at g m)) (pointwise (agree d) (kids_of g n) (kids_of g m)) e).1 path (omega (arith, h))

  pairs_agree : (d : ℕ) (xs ys : List ℕ) → length xs ≡ length ys → ((k x y : ℕ) → slice_get xs k ≡ Some x → slice_get ys k ≡ Some y → agree d x y ≡ true)
      → pointwise (agree d) xs ys ≡ true
  pairs_agree d [] [] e f = refl
  pairs_agree d [] (y ∷ ys) e f = absurd (omega (arith, e))
  pairs_agree d (x ∷ xs) [] e f = absurd (omega (arith, e))
  pairs_agree d (x ∷ xs) (y ∷ ys) e f = joined (agree d x y) (pointwise (agree d) xs ys) (f 0 x y refl refl) (pairs_agree d xs ys (omega (arith, e)) (λ k. f (suc k)))

  same_kids : (n m k x y : ℕ) → Same g n g m → slice_get (kids_of g n) k ≡ Some x → slice_get (kids_of g m) k ≡ Some y → Same g x g y
  same_kids n m k x y same a b path =
      sym (ap (λ (o : Option ℕ). option_map (shown_at g) (option_and_then (λ kid. end_of g kid path) o)) a)
      ∙ same (k ∷ path) ∙ ap (λ (o : Option ℕ). option_map (shown_at g) (option_and_then (λ kid. end_of g kid path) o)) b

  top_shown : (n m : ℕ) → Same g n g m → shown_at g n ≡ shown_at g m
  top_shown n m same = same_Some (shown_at g n) (shown_at g m) (same [])

  pub top_label : (n m : ℕ) → Same g n g m → label_of g n ≡ label_of g m
  top_label n m same = label_from_stands (label_of g n) (label_of g m) n m (top_shown n m same)

  pub kid_count_same : (n m : ℕ) → n < length g → m < length g → Same g n g m → length (kids_of g n) ≡ length (kids_of g m)
  kid_count_same n m n_in m_in same = kids_from_label g g n m sound sound n_in m_in (top_label n m same)

  agree_same : (d n m : ℕ) → n < length g → m < length g → Same g n g m → agree d n m ≡ true
  agree_same zero n m n_in m_in same = refl
  agree_same (suc d) n m n_in m_in same =
      joined (shown_eq (shown_at g n) (shown_at g m)) (pointwise (agree d) (kids_of g n) (kids_of g m))
      ((shown_decides (shown_at g n) (shown_at g m)).1 (top_shown n m same))
      (pairs_agree d (kids_of g n) (kids_of g m) (kid_count_same n m n_in m_in same)
      (λ k x y a b. agree_same d x y (kid_in g n k x sound n_in a) (kid_in g m k y sound m_in b) (same_kids n m k x y same a b)))

  abbrev depth : ℕ
  depth = length g * length g

  same_agree : (n m : ℕ) → n < length g → m < length g → agree depth n m ≡ true → Same g n g m
  same_agree n m n_in m_in e = short_paths_decide g g n m sound sound n_in m_in (agree_paths depth n m e)

  -- the least node that is the same tree
  pub least : ℕ → ℕ
  least n = seek (λ v. agree depth v n) 0 (length g)

  found : (n : ℕ) → n < length g → (agree depth (least n) n ≡ true) × (least n ≤ n)
  unfolding least
  found n n_in = sought (λ v. agree depth v n) (length g) 0 n (omega arith) (omega (arith, n_in)) (agree_same depth n n n_in n_in (λ path. refl))

  pub least-in : (n : ℕ) → n < length g → least n < length g
  least-in n n_in = let f = (found n n_in).1 in omega (arith, f, n_in)

  pub least-same : (n : ℕ) → n < length g → Same g (least n) g n
  least-same n n_in = same_agree (least n) n (least-in n n_in) n_in (found n n_in).0

  pub least-one : (n m : ℕ) → n < length g → m < length g → Same g n g m → least n ≡ least m
  unfolding least
  least-one n m n_in m_in same =
      seek-same (λ v. agree depth v n) (λ v. agree depth v m) (length g) 0 (λ v a b.
      let v_in : v < length g = omega (arith, b) in
      one_test (agree depth v n) (agree depth v m)
      (λ e. agree_same depth v m v_in m_in (λ path. same_agree v n v_in n_in e path ∙ same path))
      (λ e. agree_same depth v n v_in n_in (λ path. same_agree v m v_in m_in e path ∙ sym (same path))))

  pub least-least : (n : ℕ) → n < length g → least (least n) ≡ least n
  least-least n n_in = least-one (least n) n (least-in n n_in) n_in (least-same n n_in)

  -- kids at one place of nodes that are the same tree have one least node
  pub least-kids : (n m : ℕ) → n < length g → m < length g → Same g n g m → map least (kids_of g n) ≡ map least (kids_of g m)
  least-kids n m n_in m_in same =
      lists (kids_of g n) (kids_of g m) (kid_count_same n m n_in m_in same)
      (λ k x y a b. least-one x y (kid_in g n k x sound n_in a) (kid_in g m k y sound m_in b) (same_kids n m k x y same a b))
    where
      lists : (xs ys : List ℕ) → length xs ≡ length ys → ((k x y : ℕ) → slice_get xs k ≡ Some x → slice_get ys k ≡ Some y → least x ≡ least y) → map least xs ≡ map least ys
      lists [] [] e f = refl
      lists [] (y ∷ ys) e f = absurd (omega (arith, e))
      lists (x ∷ xs) [] e f = absurd (omega (arith, e))
      lists (x ∷ xs) (y ∷ ys) e f = let one = f 0 x y refl refl in let rest = lists xs ys (omega (arith, e)) (λ k. f (suc k)) in λ i. one i ∷ rest i
