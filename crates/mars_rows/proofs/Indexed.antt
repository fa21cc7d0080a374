-- What an index of rows tells.
use Rattle.std.proofs.Common.{◌≡◌, ◌⊎◌, ℕ, zero, suc, ◌<◌, Bool, true, false, cond, List, [], ◌∷◌, ◌++◌, length, map, Option, Some, None, slice_get, refl, sym, subst, ap, ◌∙◌, arith, inl, inr, Contains}
use Rattle.std.specs.Bool.{Decides}
use Rattle.std.specs.List.{AllZip}
use Rattle.std.specs.Global.{Vec}
use Rattle.std.specs.Map.{lookup}
use Rattle.std.specs.Cmp.Lexicographic.{pointwise_decides}
use Rattle.std.proofs.lemmas.Bool.{false≢true}
use Rattle.std.proofs.lemmas.Option.{same_Some, slice_get_within}
use Rattle.mars_base.proofs.ListFacts.{get-Contains, Contains-get}
use Rattle.mars_tree.specs.Graph.{Node, Same}
use Rattle.mars_tree.proofs.CallerLemmas.{kid_in}
use Rattle.mars_comp.specs.Components.{component_of}
use Rattle.mars_comp.specs.KeyLaws.{IsParted, IsOuterKid, NumbersTell}
use Rattle.mars_comp.specs.Least.{IsMember}
use Rattle.mars_comp.specs.declared.items.Item.{Item}
use Rattle.mars_comp.specs.declared.items.Key.{Key}
use Rattle.mars_comp.proofs.Ordered.{item_decides}
use Rattle.mars_rows.specs.Rows.{Row, HasRow, tree_of, SameRow}
use Rattle.mars_rows.specs.Sound.{IsApart}
use Rattle.mars_rows.specs.IndexInside.{same_key, Pair, rows_under, number_for, IsNumber, IsChosen, IsEntry, IsRowIndexOf, IsRowIndex, KidsGuessed, IsMade, AreMade, HasPart, put}
use Rattle.mars_rows.proofs.Chosen.{chosen_tell, chosen_member, chosen_all}

-- keys are equal where their items are
pub key_decides : (a b : Key) → Decides (same_key a b) (a.items.items ≡ b.items.items)
key_decides a b = pointwise_decides item_decides a.items.items b.items.items

lookup_same : (p q : Key → Bool) → ((k : Key) → p k ≡ q k) → (es : List Pair) → lookup p es ≡ lookup q es
lookup_same p q same [] = refl
lookup_same p q same (e ∷ es) = ap (λ b. cond b (Some e.1) (lookup p es)) (same e.0) ∙ ap (λ o. cond (q e.0) (Some e.1) o) (lookup_same p q same es)

pub same_decided : (a b : Bool) (P : Type 0) → Decides a P → Decides b P → a ≡ b
same_decided true true P d e = refl
same_decided false false P d e = refl
same_decided true false P d e = absurd (false≢true (e.1 (d.0 refl)))
same_decided false true P d e = absurd (false≢true (d.1 (e.0 refl)))

-- equal keys lead to one entry
pub rows_under-same : (es : List Pair) (a b : Key) → a.items.items ≡ b.items.items → rows_under es a ≡ rows_under es b
rows_under-same es a b e = lookup_same (same_key a) (same_key b) (λ k.
    same_decided (same_key a k) (same_key b k) (a.items.items ≡ k.items.items) (key_decides a k)
    (λ t. e ∙ (key_decides b k).0 t, λ s. (key_decides b k).1 (sym e ∙ s))) es

pub zip_at : (R : ℕ → ℕ → Type 0) (xs hs : List ℕ) (k x : ℕ) → AllZip R xs hs → slice_get xs k ≡ Some x → (h : ℕ) × (slice_get hs k ≡ Some h) × R x h
zip_at R [] [] k x z e = cc
zip_at R [] (h ∷ hs) k x z e = absurd z
zip_at R (y ∷ xs) [] k x z e = absurd z
zip_at R (y ∷ xs) (h ∷ hs) zero x z e = (h, refl, subst (λ w. R w h) (same_Some y x e) z.0)
zip_at R (y ∷ xs) (h ∷ hs) (suc k) x z e = zip_at R xs hs k x z.1 e

pub zip_back : (R : ℕ → ℕ → Type 0) (xs hs : List ℕ) (k h : ℕ) → AllZip R xs hs → slice_get hs k ≡ Some h → (x : ℕ) × (slice_get xs k ≡ Some x) × R x h
zip_back R [] [] k h z e = cc
zip_back R [] (y ∷ hs) k h z e = absurd z
zip_back R (x ∷ xs) [] k h z e = absurd z
zip_back R (x ∷ xs) (y ∷ hs) zero h z e = (x, refl, subst (R x) (same_Some y h e) z.0)
zip_back R (x ∷ xs) (y ∷ hs) (suc k) h z e = zip_back R xs hs k h z.1 e

zip_map : (R : ℕ → ℕ → Type 0) (f : ℕ → ℕ) (xs : List ℕ) → ((k x : ℕ) → slice_get xs k ≡ Some x → R x (f x)) → AllZip R xs (map f xs)
zip_map R f [] each = tt
zip_map R f (x ∷ xs) each = (each 0 x refl, zip_map R f xs (λ k. each (suc k)))

module _ (rows : List Row) (apart : IsApart rows) where
  one_number : (g h : List Node) (n m a b : ℕ) → IsNumber rows g n a → IsNumber rows h m b → Same g n h m → a ≡ b
  one_number g h n m a b x y same = apart a b x.0 y.0 (λ path. x.1 path ∙ same path ∙ sym (y.1 path))

  same_tree : (g h : List Node) (n m a b : ℕ) → IsNumber rows g n a → IsNumber rows h m b → a ≡ b → Same g n h m
  same_tree g h n m a b x y e path = sym (x.1 path) ∙ ap (λ k. tree_of rows k path) e ∙ y.1 path

  number_on : (g h : List Node) (n m a : ℕ) → IsNumber rows h m a → Same g n h m → IsNumber rows g n a
  number_on g h n m a y same = (y.0, λ path. y.1 path ∙ sym (same path))

  -- rows' numbers tell trees
  tells : (g h : List Node) (parts others outside numbers : List ℕ) (n m : ℕ) → KidsGuessed rows g parts n outside → ((x : ℕ) → IsOuterKid h others m x → IsNumber rows h x (number_for numbers x)) →
      NumbersTell g parts outside n h others numbers m
  tells g h parts others outside numbers n m left right x y i j = elim (left x i) [
    | inl row ↦ (λ e. same_tree g h x y (number_for outside x) (number_for numbers y) row (right y j) e, λ same. one_number g h x y (number_for outside x) (number_for numbers y) row (right y j) same)
    | inr none ↦ (
      λ e. absurd (none.1 (subst (HasRow rows) (sym e) (right y j).0)),
      λ same. absurd (none.0 (number_for numbers y) (number_on g h x y (number_for numbers y) (right y j) same)),
    )
  ]

  zip_on : (g h : List Node) (xs ys hs : List ℕ) → AllZip (λ x y. Same g x h y) xs ys → AllZip (λ y k. IsNumber rows h y k) ys hs → AllZip (λ x k. IsNumber rows g x k) xs hs
  zip_on g h [] [] [] z w = tt
  zip_on g h [] [] (k ∷ hs) z w = absurd w
  zip_on g h [] (y ∷ ys) hs z w = absurd z
  zip_on g h (x ∷ xs) [] hs z w = absurd z
  zip_on g h (x ∷ xs) (y ∷ ys) [] z w = absurd w
  zip_on g h (x ∷ xs) (y ∷ ys) (k ∷ hs) z w = (number_on g h x y k w.0 z.0, zip_on g h xs ys hs z.1 w.1)

  zip_one : (g : List Node) (xs hs ks : List ℕ) → AllZip (λ x h. IsNumber rows g x h) xs hs → AllZip (λ x k. IsNumber rows g x k) xs ks → hs ≡ ks
  zip_one g [] [] [] z w = refl
  zip_one g [] [] (k ∷ ks) z w = absurd w
  zip_one g [] (h ∷ hs) ks z w = absurd z
  zip_one g (x ∷ xs) [] ks z w = absurd z
  zip_one g (x ∷ xs) (h ∷ hs) [] z w = absurd w
  zip_one g (x ∷ xs) (h ∷ hs) (k ∷ ks) z w =
      let here : h ≡ k = one_number g g x x h k z.0 w.0 (λ path. refl) in
      let rest : hs ≡ ks = zip_one g xs hs ks z.1 w.1 in
      ap (λ y. y ∷ hs) here ∙ ap (λ ys. k ∷ ys) rest

  module _ (g : List Node) (parts outside : List ℕ) (n : ℕ) (nodes : List ℕ) (key : List Item) (parted : IsParted g parts) (n_in : n < length g) (kids : KidsGuessed rows g parts n outside) (chosen : IsChosen g parts outside n nodes key) where
    -- an entry under the key has the rows of the nodes, place by place
    pub hit : (numbers : List ℕ) → IsEntry rows key numbers → AllZip (λ x h. IsNumber rows g x h) nodes numbers
    hit numbers entry =
        zip_on g entry.graph nodes entry.nodes numbers
        ((chosen_tell g entry.graph parts entry.parts outside entry.outside n entry.node nodes entry.nodes key key parted entry.parted n_in entry.within
        (tells g entry.graph parts entry.parts outside entry.outside n entry.node kids entry.kids_are) chosen entry.chosen).1 refl) entry.rows_are

    -- an entry that has the row of a node of the component is under the key
    pub hit_back : (other : List Item) (numbers : List ℕ) (m h : ℕ) → IsEntry rows other numbers → Contains numbers h → IsMember g parts n m → IsNumber rows g m h → key ≡ other
    hit_back other numbers m h entry there member number =
        let at = get-Contains numbers h there in
        let y = zip_back (λ x k. IsNumber rows entry.graph x k) entry.nodes numbers at.0 h entry.rows_are at.2 in
        ((chosen_tell g entry.graph parts entry.parts outside entry.outside n entry.node nodes entry.nodes key other parted entry.parted n_in entry.within
        (tells g entry.graph parts entry.parts outside entry.outside n entry.node kids entry.kids_are) chosen entry.chosen).0).1
        (record { left = m; right = y.0; left_in = member; right_in = chosen_member entry.graph entry.parts entry.outside entry.node entry.nodes other entry.parted entry.chosen at.0 y.0 y.1; same = same_tree g entry.graph m y.0 h h number y.2 refl })

  -- two entries under one key have the same rows
  pub one_entry : (key : List Item) (numbers others : List ℕ) → IsEntry rows key numbers → IsEntry rows key others → numbers ≡ others
  one_entry key numbers others a b =
      zip_one a.graph a.nodes numbers others a.rows_are
      (hit a.graph a.parts a.outside a.node a.nodes key a.parted a.within (λ x o. inl (a.kids_are x o)) a.chosen others b)

  -- a key that no entry has is that of nodes that no row is
  pub miss : (entries : List Pair) (index : IsRowIndex rows entries) (g : List Node) (parts outside : List ℕ) (n : ℕ) (nodes : List ℕ) (key : Key) → IsParted g parts → n < length g → KidsGuessed rows g parts n outside →
      IsChosen g parts outside n nodes key.items.items → rows_under entries key ≡ None → (m h : ℕ) → IsMember g parts n m → IsNumber rows g m h → ⊥
  miss entries index g parts outside n nodes key parted n_in kids chosen none m h member number =
      let a = index.all h number.0 in
      let same : key.items.items ≡ a.0.items.items =
      hit_back g parts outside n nodes key.items.items parted n_in kids chosen a.0.items.items a.1.items m h (index.each a.0 a.1 a.2) a.3 member number in
      let no : None ≡ Some a.1 = sym none ∙ rows_under-same entries key a.0 same ∙ a.2 in
      cc

  -- what is made of a graph whose nodes are rows
  module _ (g : List Node) (parts names : List ℕ) (parted : IsParted g parts) (named : (n : ℕ) → n < length g → IsNumber rows g n (number_for names n)) where
    pub made_entry : (head : ℕ) (key : List Item) (numbers : List ℕ) → head < length g → IsMade g parts names head key numbers → IsEntry rows key numbers
    made_entry head key numbers head_in made = record {
      graph = g;
      parts = parts;
      outside = names;
      node = head;
      nodes = made.nodes;
      parted = parted;
      within = head_in;
      chosen = made.chosen;
      rows_are = subst (AllZip (λ n h. IsNumber rows g n h) made.nodes) (sym made.are) (zip_map (λ n h. IsNumber rows g n h) (number_for names) made.nodes
          (λ k x e. named x (chosen_member g parts names head made.nodes key parted made.chosen k x e).within));
      kids_are = λ x o. let k = o.is_kid in named x (kid_in g o.node k.0 x parted.graph o.within k.1);
    }

-- what entries that were put lead to
pub put_from : (es : List Pair) (old : Key → Option (Vec ℕ)) (key : Key) (v : Vec ℕ) → put es old key ≡ Some v → ((i : ℕ) × (e : Pair) × (slice_get es i ≡ Some e) × (same_key e.0 key ≡ true) × (e.1 ≡ v)) ⊎ (old key ≡ Some v)
put_from [] old key v is = inr is
put_from (e ∷ es) old key v is = either (same_key e.0 key) refl is (put_from es old key v)
  where
    either : (b : Bool) → same_key e.0 key ≡ b → cond b (Some e.1) (put es old key) ≡ Some v →
        (put es old key ≡ Some v → ((i : ℕ) × (x : Pair) × (slice_get es i ≡ Some x) × (same_key x.0 key ≡ true) × (x.1 ≡ v)) ⊎ (old key ≡ Some v)) →
        ((i : ℕ) × (x : Pair) × (slice_get (e ∷ es) i ≡ Some x) × (same_key x.0 key ≡ true) × (x.1 ≡ v)) ⊎ (old key ≡ Some v)
    either true t f rest = inl (0, e, refl, t, same_Some e.1 v f)
    either false t f rest = elim (rest f) [
      | inl there ↦ inl (suc there.0, there.1, there.2, there.3, there.4)
      | inr before ↦ inr before
    ]

pub put_some : (es : List Pair) (old : Key → Option (Vec ℕ)) (key : Key) (v : Vec ℕ) → old key ≡ Some v → (w : Vec ℕ) × (put es old key ≡ Some w)
put_some [] old key v is = (v, is)
put_some (e ∷ es) old key v is = either (same_key e.0 key) (put_some es old key v is)
  where
    either : (b : Bool) → (w : Vec ℕ) × (put es old key ≡ Some w) → (w : Vec ℕ) × (cond b (Some e.1) (put es old key) ≡ Some w)
    either true rest = (e.1, refl)
    either false rest = rest

pub put_there : (es : List Pair) (old : Key → Option (Vec ℕ)) (i : ℕ) (x : Pair) → slice_get es i ≡ Some x → (w : Vec ℕ) × (put es old x.0 ≡ Some w)
put_there [] old i x at = cc
put_there (e ∷ es) old zero x at =
    let same : same_key e.0 x.0 ≡ true = ap (λ (y : Pair). same_key e.0 y.0) (sym (same_Some e x at)) ∙ (key_decides e.0 e.0).1 refl in
    (e.1, ap (λ b. cond b (Some e.1) (put es old x.0)) same)
put_there (e ∷ es) old (suc i) x at = either (same_key e.0 x.0) (put_there es old i x at)
  where
    either : (b : Bool) → (w : Vec ℕ) × (put es old x.0 ≡ Some w) → (w : Vec ℕ) × (cond b (Some e.1) (put es old x.0) ≡ Some w)
    either true rest = (e.1, refl)
    either false rest = rest

-- what is put first and last
pub put_last : (es : List Pair) (e : Pair) (old : Key → Option (Vec ℕ)) (key : Key) → put (es ++ e ∷ []) old key ≡ put es (λ k. cond (same_key e.0 k) (Some e.1) (old k)) key
put_last [] e old key = refl
put_last (x ∷ es) e old key = ap (λ o. cond (same_key x.0 key) (Some x.1) o) (put_last es e old key)

get_there : (xs : List Pair) (k : ℕ) → k < length xs → (x : Pair) × (slice_get xs k ≡ Some x)
get_there [] k lt = absurd (omega (arith, lt))
get_there (x ∷ xs) zero lt = (x, refl)
get_there (x ∷ xs) (suc k) lt = get_there xs k (omega (arith, lt))

pub map_has : (f : ℕ → ℕ) (xs : List ℕ) (x k : ℕ) → slice_get xs k ≡ Some x → slice_get (map f xs) k ≡ Some (f x)
map_has f [] x k e = cc
map_has f (y ∷ xs) x zero e = ap (λ n. Some (f n)) (same_Some y x e)
map_has f (y ∷ xs) x (suc k) e = map_has f xs x k e

-- a number is that of a node whose component has a key
abbrev pub IsNamed : List Node → List ℕ → List ℕ → List ℕ → ℕ → Type 0
IsNamed g parts names heads h = (n : ℕ) × (n < length g) × HasPart parts heads n × (number_for names n ≡ h)

-- the index with the entries of a graph whose nodes are rows
module _ (rows : List Row) (apart : IsApart rows) (In : ℕ → Type 0) (old : List Pair) (before : IsRowIndexOf rows In old) (g : List Node) (parts names heads : List ℕ) (entries : List Pair) (parted : IsParted g parts)
    (named : (n : ℕ) → n < length g → IsNumber rows g n (number_for names n)) (heads_in : (k n : ℕ) → slice_get heads k ≡ Some n → n < length g) (made : AreMade g parts names heads entries)
    (index : List Pair) (is : (key : Key) → rows_under index key ≡ put entries (rows_under old) key) where
  entry_made : (i : ℕ) (e : Pair) → slice_get entries i ≡ Some e → IsEntry rows e.0.items.items e.1.items
  entry_made i e at =
      let m = made.each i e at in
      made_entry rows apart g parts names parted named m.0 e.0.items.items e.1.items (heads_in i m.0 m.1) m.2

  put_each : (key : Key) (numbers : Vec ℕ) → rows_under index key ≡ Some numbers → IsEntry rows key.items.items numbers.items
  put_each key numbers e = elim (put_from entries (rows_under old) key numbers (sym (is key) ∙ e)) [
    | inl new ↦
        let entry = entry_made new.0 new.1 new.2 in
        let same : new.1.0.items.items ≡ key.items.items = (key_decides new.1.0 key).0 new.3 in
        subst (λ (ks : List Item). IsEntry rows ks numbers.items) same (subst (λ (v : Vec ℕ). IsEntry rows new.1.0.items.items v.items) new.4 entry)
    | inr kept ↦ before.each key numbers kept
  ]

  -- what an entry of the key has is in the index
  keeps : (key : Key) (numbers w : Vec ℕ) (h : ℕ) → IsEntry rows key.items.items numbers.items → Contains numbers.items h → put entries (rows_under old) key ≡ Some w →
      (k : Key) × (v : Vec ℕ) × (rows_under index k ≡ Some v) × Contains v.items h
  keeps key numbers w h entry there e =
      let at : rows_under index key ≡ Some w = is key ∙ e in
      (key, w, at, subst (λ (xs : List ℕ). Contains xs h) (one_entry rows apart key.items.items numbers.items w.items entry (put_each key w at)) there)

  put_all : (h : ℕ) → In h ⊎ IsNamed g parts names heads h → (k : Key) × (v : Vec ℕ) × (rows_under index k ≡ Some v) × Contains v.items h
  put_all h (inl kept) =
      let a = before.all h kept in
      let w = put_some entries (rows_under old) a.0 a.1 a.2 in
      keeps a.0 a.1 w.0 h (before.each a.0 a.1 a.2) a.3 w.1
  put_all h (inr new) =
      let head = new.2 in
      let x = get_there entries head.0 (omega (arith, made.count, slice_get_within heads head.0 head.1 head.2)) in
      let m = made.each head.0 x.0 x.1 in
      let made_is = m.2 in
      let same : m.0 ≡ head.1 = same_Some m.0 head.1 (sym m.1 ∙ head.2) in
      let member : IsMember g parts m.0 new.0 = record { within = new.1; beside = sym (ap (component_of parts) same ∙ head.3) } in
      let at = get-Contains made_is.nodes new.0 (chosen_all g parts names m.0 made_is.nodes x.0.0.items.items parted made_is.chosen new.0 member) in
      let number : slice_get x.0.1.items at.0 ≡ Some h = ap (λ xs. slice_get xs at.0) made_is.are ∙ map_has (number_for names) made_is.nodes new.0 at.0 at.2 ∙ ap (λ n. Some n) new.3 in
      let w = put_there entries (rows_under old) head.0 x.0 x.1 in
      keeps x.0.0 x.0.1 w.0 h (entry_made head.0 x.0 x.1) (Contains-get x.0.1.items at.0 h number) w.1

pub put_index : (rows : List Row) → IsApart rows → (In : ℕ → Type 0) (old : List Pair) → IsRowIndexOf rows In old → (g : List Node) (parts names heads : List ℕ) (entries : List Pair) → IsParted g parts →
    ((n : ℕ) → n < length g → IsNumber rows g n (number_for names n)) → ((k n : ℕ) → slice_get heads k ≡ Some n → n < length g) → AreMade g parts names heads entries →
    (index : List Pair) → ((key : Key) → rows_under index key ≡ put entries (rows_under old) key) → IsRowIndexOf rows (λ h. In h ⊎ IsNamed g parts names heads h) index
put_index rows apart In old before g parts names heads entries parted named heads_in made index is = record {
  each = put_each rows apart In old before g parts names heads entries parted named heads_in made index is;
  all = put_all rows apart In old before g parts names heads entries parted named heads_in made index is;
}

-- entries stay where rows keep their trees
pub entry_stays : (rows more : List Row) → ((h : ℕ) → HasRow rows h → HasRow more h × SameRow more h rows h) → (key : List Item) (numbers : List ℕ) → IsEntry rows key numbers → IsEntry more key numbers
entry_stays rows more kept key numbers entry = record {
  graph = entry.graph;
  parts = entry.parts;
  outside = entry.outside;
  node = entry.node;
  nodes = entry.nodes;
  parted = entry.parted;
  within = entry.within;
  chosen = entry.chosen;
  rows_are = stays entry.nodes numbers entry.rows_are;
  kids_are = λ x o. moved x (number_for entry.outside x) (entry.kids_are x o);
}
  where
    moved : (n h : ℕ) → IsNumber rows entry.graph n h → IsNumber more entry.graph n h
    moved n h is = let k = kept h is.0 in (k.0, λ path. k.1 path ∙ is.1 path)

    stays : (xs hs : List ℕ) → AllZip (λ n h. IsNumber rows entry.graph n h) xs hs → AllZip (λ n h. IsNumber more entry.graph n h) xs hs
    stays [] [] z = tt
    stays [] (h ∷ hs) z = absurd z
    stays (x ∷ xs) [] z = absurd z
    stays (x ∷ xs) (h ∷ hs) z = (moved x h z.0, stays xs hs z.1)

pub index_stays : (rows more : List Row) → ((h : ℕ) → HasRow rows h → HasRow more h × SameRow more h rows h) → (entries : List Pair) → IsRowIndex rows entries → IsRowIndexOf more (HasRow rows) entries
index_stays rows more kept entries is = record {
  each = λ key numbers e. entry_stays rows more kept key.items.items numbers.items (is.each key numbers e);
  all = is.all;
}

-- what is put over alike keys leads alike
pub put_same : (es : List Pair) (old other : Key → Option (Vec ℕ)) → ((k : Key) → old k ≡ other k) → (key : Key) → put es old key ≡ put es other key
put_same [] old other same key = same key
put_same (e ∷ es) old other same key = ap (λ o. cond (same_key e.0 key) (Some e.1) o) (put_same es old other same key)
