-- Candidates narrowed by places are candidates narrowed by nodes.
use Rattle.std.proofs.Common.{◌≡◌, ◌⊎◌, ℕ, ◌<◌, Bool, true, false, cond, List, [], ◌∷◌, length, map, Option, Some, None, option_and_then, slice_get, slice_index_or, unwrap_or, refl, sym, ap, ◌∙◌, subst, arith, inl, inr, Contains, All}
use Rattle.std.specs.List.{filter}
use Rattle.std.specs.Option.{option_map}
use Rattle.std.proofs.lemmas.List.{length-map}
use Rattle.std.proofs.lemmas.List.Elements.{All-contains}
use Rattle.std.proofs.lemmas.Option.{same_Some, slice_get_within, slice_get-map, get_or_from_slice_get, slice_get-get_or}
use Rattle.mars_tree.specs.Graph.{Node, IsGraph, kids_of}
use Rattle.mars_tree.specs.Walk.{walk}
use Rattle.mars_reach.specs.Order.{AreDistinct, IsReach, place_in}
use Rattle.mars_reach.specs.Part.{IsClosed}
use Rattle.mars_reach.proofs.Numbers.{at_contains, contains_at, All-slice_get, All-from_gets}
use Rattle.mars_reach.proofs.Queues.{place_get}
use Rattle.mars_comp.specs.Components.{AreComponents}
use Rattle.mars_comp.specs.Key.{inner, inner_kids, same_part, item_of, entry, IsKey}
use Rattle.mars_comp.specs.Least.{IsAtMost, IsMember}
use Rattle.mars_comp.specs.declared.items.Item.{Item}
use Rattle.mars_comp.specs.declared.items.Item.TheVariants as item
use Rattle.mars_comp.specs.declared.items.Key.{Key}
use Rattle.mars_comp.proofs.Inner.{inner_are}
use Rattle.mars_comp.proofs.KeyTrees.{members, first_node}
use Rattle.mars_comp.proofs.LeastTrees.{round_all}
use Rattle.mars_first.specs.First.{row_along, IsLevel, Selects, IsNarrowed, Narrows, IsFirst, done, step}
use Rattle.mars_first.specs.PlacesInside.{kids_of_place, number_at, number_along, ArePlaces}
use Rattle.mars_first.specs.ComponentInside.{IsComponentOf, row_items, count_of, IsRarer, chosen, IsNarrowedTo, NarrowsTo, alike, further, IsFirstPlace, AreRowNumbers}
use Rattle.mars_first.specs.declared.component.Component.{Component}
use Rattle.mars_first.proofs.Staging.{element}
use Rattle.mars_first.proofs.Choosing.{chosen_at, chosen_has, chosen_count, chosen_distinct, fewer}

-- nodes with equal rows have equally many kids in their component
inner_count : (p q : ℕ → Bool) (f e : ℕ → ℕ) (xs ys : List ℕ) → map (λ z. cond (p z) (item.Inner 0) (item.Outer (f z))) xs ≡ map (λ z. cond (q z) (item.Inner 0) (item.Outer (e z))) ys → length (filter p xs) ≡ length (filter q ys)
inner_count p q f e [] [] same = refl
inner_count p q f e [] (b ∷ ys) same = absurd cc
inner_count p q f e (a ∷ xs) [] same = absurd cc
inner_count p q f e (a ∷ xs) (b ∷ ys) same =
    let heads : cond (p a) (item.Inner 0) (item.Outer (f a)) ≡ cond (q b) (item.Inner 0) (item.Outer (e b)) = cc in
    let tails : map (λ z. cond (p z) (item.Inner 0) (item.Outer (f z))) xs ≡ map (λ z. cond (q z) (item.Inner 0) (item.Outer (e z))) ys = cc in
    either (p a) (q b) heads (inner_count p q f e xs ys tails)
  where
    either : (s t : Bool) → cond s (item.Inner 0) (item.Outer (f a)) ≡ cond t (item.Inner 0) (item.Outer (e b)) → length (filter p xs) ≡ length (filter q ys) →
        length (cond s (a ∷ filter p xs) (filter p xs)) ≡ length (cond t (b ∷ filter q ys) (filter q ys))
    either true true one n = omega (arith, n)
    either false false one n = n
    either true false one n = absurd cc
    either false true one n = absurd cc

module _ (g : List Node) (parts outside starts : List ℕ) (c : Component) (size : length parts ≡ length g) (is : IsComponentOf g parts outside starts c) (count : length c.places.numbers.items ≡ length starts)
    (once : AreDistinct starts) (closed : IsClosed (inner g parts) starts) where
  abbrev at : ℕ → ℕ
  at p = slice_index_or starts p 0

  at_get : (p : ℕ) → p < length starts → slice_get starts p ≡ Some (at p)
  at_get p lt = slice_get-get_or starts p 0 lt

  get_at : (p n : ℕ) → slice_get starts p ≡ Some n → at p ≡ n
  get_at p n e = get_or_from_slice_get starts p n 0 e

  -- the kids of a place are places of the kids
  kid_at : (p : ℕ) → p < length starts → kids_of_place c.places p ≡ map (place_in starts) (kids_of (inner g parts) (at p))
  kid_at p lt = is.kids p (at p) (omega arith) (at_get p lt) ∙ ap (map (place_in starts)) (sym (inner_are g parts (at p) size))

  kid_met : (p k n : ℕ) → p < length starts → slice_get (kids_of (inner g parts) (at p)) k ≡ Some n → slice_get starts (place_in starts n) ≡ Some n
  kid_met p k n lt e = place_get starts n (All-slice_get (Contains starts) (kids_of (inner g parts) (at p)) k n (All-contains (λ m. All (Contains starts) (kids_of (inner g parts) m)) starts (at p) closed (contains_at starts p (at p) (at_get p lt))) e)

  pub are_places : ArePlaces c.places
  are_places = record { size = is.size; kids_in = λ p lt. All-from_gets (λ x. x < length c.places.numbers.items) (kids_of_place c.places p) (kids_in p (omega arith)); alike = kids_alike }
    where
      kids_in : (p : ℕ) → p < length starts → (k x : ℕ) → slice_get (kids_of_place c.places p) k ≡ Some x → x < length c.places.numbers.items
      kids_in p lt k x e =
          let e2 : slice_get (map (place_in starts) (kids_of (inner g parts) (at p))) k ≡ Some x = ap (λ xs. slice_get xs k) (sym (kid_at p lt)) ∙ e in
          let within = slice_get_within (map (place_in starts) (kids_of (inner g parts) (at p))) k x e2 in
          let n = element (kids_of (inner g parts) (at p)) k (let s = length-map (kids_of (inner g parts) (at p)) (place_in starts) in omega arith) in
          let same : place_in starts n.0 ≡ x = same_Some (place_in starts n.0) x (ap (option_map (place_in starts)) (sym n.1) ∙ sym (slice_get-map (place_in starts) (kids_of (inner g parts) (at p)) k) ∙ e2) in
          let h = slice_get_within starts (place_in starts n.0) n.0 (kid_met p k n.0 lt n.1) in
          omega (arith, same, h)

      kids_alike : (x y : ℕ) → x < length c.places.numbers.items → y < length c.places.numbers.items → number_at c.places x ≡ number_at c.places y → length (kids_of_place c.places x) ≡ length (kids_of_place c.places y)
      kids_alike x y lt more same =
          let a = is.row x (at x) lt (at_get x (omega arith)) in
          let b = is.row y (at y) more (at_get y (omega arith)) in
          let key : a.key ≡ b.key = same_Some a.key b.key (sym a.there ∙ ap (slice_get c.rows.keys) same ∙ b.there) in
          let rows : entry g parts outside [] (at x) ≡ entry g parts outside [] (at y) = sym a.is ∙ ap (λ (k : Key). k.items.items) key ∙ b.is in
          let kids : map (item_of parts outside [] (at x)) (kids_of g (at x)) ≡ map (item_of parts outside [] (at y)) (kids_of g (at y)) = cc in
          let few = inner_count (same_part parts (at x)) (same_part parts (at y)) (λ z. slice_index_or outside z 0) (λ z. slice_index_or outside z 0) (kids_of g (at x)) (kids_of g (at y)) kids in
          let i : length (kids_of_place c.places x) ≡ length (inner_kids g parts (at x)) = ap length (is.kids x (at x) lt (at_get x (omega arith))) ∙ length-map (inner_kids g parts (at x)) (place_in starts) in
          let j : length (kids_of_place c.places y) ≡ length (inner_kids g parts (at y)) = ap length (is.kids y (at y) more (at_get y (omega arith))) ∙ length-map (inner_kids g parts (at y)) (place_in starts) in
          i ∙ few ∙ sym j

  -- rows by their numbers
  abbrev items : ℕ → List Item
  items r = row_items c.rows.keys r

  row_is : (p : ℕ) → p < length starts → entry g parts outside [] (at p) ≡ items (number_at c.places p)
  row_is p lt = let a = is.row p (at p) (omega arith) (at_get p lt) in sym a.is ∙ sym (ap (λ (o : Option Key). unwrap_or (option_map (λ key. key.items.items) o) []) a.there)

  along : (path : List ℕ) (p : ℕ) → p < length starts → row_along g parts outside (at p) path ≡ option_map items (number_along c.places p path)
  along [] p lt = ap (λ r. Some r) (row_is p lt)
  along (k ∷ path) p lt = either (slice_get (kids_of (inner g parts) (at p)) k) refl (along path)
    where
      kid_there : (o : Option ℕ) → slice_get (kids_of (inner g parts) (at p)) k ≡ o → slice_get (kids_of_place c.places p) k ≡ option_map (place_in starts) o
      kid_there o at_k = ap (λ xs. slice_get xs k) (kid_at p lt) ∙ slice_get-map (place_in starts) (kids_of (inner g parts) (at p)) k ∙ ap (option_map (place_in starts)) at_k

      either : (o : Option ℕ) → slice_get (kids_of (inner g parts) (at p)) k ≡ o → ((q : ℕ) → q < length starts → row_along g parts outside (at q) path ≡ option_map items (number_along c.places q path)) → row_along g parts outside (at p) (k ∷ path) ≡ option_map items (number_along c.places p (k ∷ path))
      either None at_k rest =
          ap (λ (o : Option ℕ). option_map (entry g parts outside []) (option_and_then (λ (z : ℕ). walk (kids_of (inner g parts)) z path) o)) at_k
          ∙ sym (ap (λ (o : Option ℕ). option_map items (option_map (number_at c.places) (option_and_then (λ (z : ℕ). walk (kids_of_place c.places) z path) o))) (kid_there None at_k))
      either (Some n) at_k rest =
          let met = kid_met p k n lt at_k in
          ap (λ (o : Option ℕ). option_map (entry g parts outside []) (option_and_then (λ (z : ℕ). walk (kids_of (inner g parts)) z path) o)) at_k
          ∙ ap (λ (z : ℕ). row_along g parts outside z path) (sym (get_at (place_in starts n) n met))
          ∙ rest (place_in starts n) (slice_get_within starts (place_in starts n) n met)
          ∙ sym (ap (λ (o : Option ℕ). option_map items (option_map (number_at c.places) (option_and_then (λ (z : ℕ). walk (kids_of_place c.places) z path) o))) (kid_there (Some n) at_k))

  -- the nodes of places
  abbrev nodes : List ℕ → List ℕ
  nodes ps = map at ps

  has_node : (ps : List ℕ) (k p : ℕ) → slice_get ps k ≡ Some p → Contains (nodes ps) (at p)
  has_node ps k p e = contains_at (map at ps) k (at p) (slice_get-map at ps k ∙ ap (option_map at) e)

  -- the place of a node
  record HasPlace (ps : List ℕ) (k n : ℕ) : Type 0 where
    pub place : ℕ
    pub there : slice_get ps k ≡ Some place
    pub is_at : at place ≡ n

  place_at : (ps : List ℕ) (k n : ℕ) → slice_get (nodes ps) k ≡ Some n → HasPlace ps k n
  place_at ps k n e =
      let within = slice_get_within (map at ps) k n e in
      let p = element ps k (let s = length-map ps at in omega arith) in
      record { place = p.0; there = p.1; is_at = same_Some (at p.0) n (ap (option_map at) (sym p.1) ∙ sym (slice_get-map at ps k) ∙ e) }

  nodes_count : (ps : List ℕ) → length (nodes ps) ≡ length ps
  nodes_count ps = length-map ps at

  at_once : (p q : ℕ) → p < length starts → q < length starts → at p ≡ at q → p ≡ q
  at_once p q lt more e = once p q (at p) (at_get p lt) (at_get q more ∙ ap (λ (z : ℕ). Some z) (sym e))

  nodes_distinct : (ps : List ℕ) → AreDistinct ps → ((k p : ℕ) → slice_get ps k ≡ Some p → p < length starts) → AreDistinct (nodes ps)
  nodes_distinct ps distinct within i j n e f =
      let a = place_at ps i n e in
      let b = place_at ps j n f in
      let same = at_once b.place a.place (within j b.place b.there) (within i a.place a.there) (b.is_at ∙ sym a.is_at) in
      distinct i j a.place a.there (b.there ∙ ap (λ (z : ℕ). Some z) same)

  -- a number that is along a path has a row
  walk_in : (path : List ℕ) (p z : ℕ) → p < length c.places.numbers.items → walk (kids_of_place c.places) p path ≡ Some z → z < length c.places.numbers.items
  walk_in [] p z lt e = let same = same_Some p z e in omega (arith, same, lt)
  walk_in (k ∷ path) p z lt e = either (slice_get (kids_of_place c.places p) k) refl (λ x. walk_in path x z)
    where
      either : (o : Option ℕ) → slice_get (kids_of_place c.places p) k ≡ o → ((x : ℕ) → x < length c.places.numbers.items → walk (kids_of_place c.places) x path ≡ Some z → z < length c.places.numbers.items) → z < length c.places.numbers.items
      either None is_none rest = absurd (none_some (sym (ap (option_and_then (λ (x : ℕ). walk (kids_of_place c.places) x path)) is_none) ∙ e))
        where
          none_some : None ≡ Some z → ⊥
          none_some f = absurd cc
      either (Some x) is_some rest =
          rest x (All-slice_get (λ (y : ℕ). y < length c.places.numbers.items) (kids_of_place c.places p) k x (are_places.kids_in p lt) is_some) (sym (ap (option_and_then (λ (x : ℕ). walk (kids_of_place c.places) x path)) is_some) ∙ e)

  known : (path : List ℕ) (p r : ℕ) → p < length starts → number_along c.places p path ≡ Some r → (key : Key) × (slice_get c.rows.keys r ≡ Some key)
  known path p r lt e = either (walk (kids_of_place c.places) p path) refl
    where
      either : (o : Option ℕ) → walk (kids_of_place c.places) p path ≡ o → (key : Key) × (slice_get c.rows.keys r ≡ Some key)
      either None is_none = absurd (none_some (sym (ap (option_map (number_at c.places)) is_none) ∙ e))
        where
          none_some : None ≡ Some r → ⊥
          none_some f = absurd cc
      either (Some z) is_some =
          let z_in = walk_in path p z (omega arith) is_some in
          let number : number_at c.places z ≡ r = same_Some (number_at c.places z) r (sym (ap (option_map (number_at c.places)) is_some) ∙ e) in
          let a = is.row z (at z) z_in (at_get z (omega arith)) in
          (a.key, ap (slice_get c.rows.keys) (sym number) ∙ a.there)

  items_once : (r q : ℕ) → (key : Key) × (slice_get c.rows.keys r ≡ Some key) → (key : Key) × (slice_get c.rows.keys q ≡ Some key) → items r ≡ items q → r ≡ q
  items_once r q a b e =
      is.distinct r q a.0 b.0 a.1 b.1
      (sym (ap (λ (o : Option Key). unwrap_or (option_map (λ key. key.items.items) o) []) a.1) ∙ e ∙ ap (λ (o : Option Key). unwrap_or (option_map (λ key. key.items.items) o) []) b.1)

  level_nodes : (candidates path : List ℕ) → ((k p : ℕ) → slice_get candidates k ≡ Some p → p < length starts) → ((a b : ℕ) → Contains candidates a → Contains candidates b → number_along c.places a path ≡ number_along c.places b path) → IsLevel g parts outside (nodes candidates) path
  level_nodes candidates path within level a b left right =
      let i = at_contains (nodes candidates) a left in
      let j = at_contains (nodes candidates) b right in
      let p = place_at candidates i.0 a i.1 in
      let q = place_at candidates j.0 b j.1 in
      ap (λ (z : ℕ). row_along g parts outside z path) (sym p.is_at)
      ∙ along path p.place (within i.0 p.place p.there)
      ∙ ap (option_map items) (level p.place q.place (contains_at candidates i.0 p.place p.there) (contains_at candidates j.0 q.place q.there))
      ∙ sym (along path q.place (within j.0 q.place q.there))
      ∙ ap (λ (z : ℕ). row_along g parts outside z path) q.is_at

  module _ (candidates left : List ℕ) (distinct : AreDistinct candidates) (within : (k p : ℕ) → slice_get candidates k ≡ Some p → p < length starts) (n : IsNarrowedTo c candidates left) where
    abbrev path : List ℕ
    path = n.apart.path

    number_here : (j p r : ℕ) → slice_get candidates j ≡ Some p → slice_get n.rows j ≡ Some r → number_along c.places p path ≡ Some r
    number_here j p r e f = n.apart.at_path j p e ∙ f

    row_here : (j p r : ℕ) → slice_get candidates j ≡ Some p → slice_get n.rows j ≡ Some r → row_along g parts outside (at p) path ≡ Some (items r)
    row_here j p r e f = along path p (within j p e) ∙ ap (option_map items) (number_here j p r e f)

    candidate : (j r : ℕ) → slice_get n.rows j ≡ Some r → (p : ℕ) × (slice_get candidates j ≡ Some p)
    candidate j r e = let size = n.apart.count in let lt = slice_get_within n.rows j r e in element candidates j (omega arith)

    row_known : (j r : ℕ) → slice_get n.rows j ≡ Some r → (key : Key) × (slice_get c.rows.keys r ≡ Some key)
    row_known j r e = let p = candidate j r e in known path p.0 r (within j p.0 p.1) (number_here j p.0 r p.1 e)

    selects : (k r : ℕ) → slice_get n.rows k ≡ Some r → Selects g parts outside (nodes candidates) path (items r) (nodes (chosen candidates n.rows r))
    selects k r r_there = record { once = nodes_distinct (chosen candidates n.rows r) (chosen_distinct candidates n.rows r distinct) chosen_in; are = λ m. (has m, complete m) }
      where
        chosen_in : (i p : ℕ) → slice_get (chosen candidates n.rows r) i ≡ Some p → p < length starts
        chosen_in i p e = let w = chosen_at candidates n.rows r i p e in within w.place p w.there

        has : (m : ℕ) → Contains (nodes (chosen candidates n.rows r)) m → Contains (nodes candidates) m × (row_along g parts outside m path ≡ Some (items r))
        has m among =
            let i = at_contains (nodes (chosen candidates n.rows r)) m among in
            let p = place_at (chosen candidates n.rows r) i.0 m i.1 in
            let w = chosen_at candidates n.rows r i.0 p.place p.there in
            (subst (Contains (nodes candidates)) p.is_at (has_node candidates w.place p.place w.there), ap (λ (z : ℕ). row_along g parts outside z path) (sym p.is_at) ∙ row_here w.place p.place r w.there w.row_there)

        complete : (m : ℕ) → Contains (nodes candidates) m × (row_along g parts outside m path ≡ Some (items r)) → Contains (nodes (chosen candidates n.rows r)) m
        complete m (among, row) =
            let i = at_contains (nodes candidates) m among in
            let p = place_at candidates i.0 m i.1 in
            let size = n.apart.count in
            let lt = slice_get_within candidates i.0 p.place p.there in
            let q = element n.rows i.0 (omega arith) in
            let one : items q.0 ≡ items r = same_Some (items q.0) (items r) (sym (row_here i.0 p.place q.0 p.there q.1) ∙ ap (λ (z : ℕ). row_along g parts outside z path) p.is_at ∙ row) in
            let same : q.0 ≡ r = items_once q.0 r (row_known i.0 q.0 q.1) (row_known k r r_there) one in
            let w = chosen_has candidates n.rows r i.0 p.place p.there (q.1 ∙ ap (λ (z : ℕ). Some z) same) in
            subst (Contains (nodes (chosen candidates n.rows r))) p.is_at (has_node (chosen candidates n.rows r) w.0 p.place w.1)

    one_size : (row : List Item) (some others : List ℕ) → Selects g parts outside (nodes candidates) path row some → Selects g parts outside (nodes candidates) path row others → length some ≡ length others
    one_size row some others s t =
        let a = fewer some others s.once (λ m among. (t.are m).1 ((s.are m).0 among)) in
        let b = fewer others some t.once (λ m among. (s.are m).1 ((t.are m).0 among)) in
        omega arith

    rare : (other : List Item) (others : List ℕ) → Selects g parts outside (nodes candidates) path other others → 0 < length others →
        (count_of n.row n.rows < length others) ⊎ ((count_of n.row n.rows ≡ length others) × IsAtMost (items n.row) other)
    rare other others s full =
        let m = element others 0 full in
        let h = (s.are m.0).0 (contains_at others 0 m.0 m.1) in
        let i = at_contains (nodes candidates) m.0 h.0 in
        let p = place_at candidates i.0 m.0 i.1 in
        let size = n.apart.count in
        let lt = slice_get_within candidates i.0 p.place p.there in
        let q = element n.rows i.0 (omega arith) in
        let row : items q.0 ≡ other = same_Some (items q.0) other (sym (row_here i.0 p.place q.0 p.there q.1) ∙ ap (λ (z : ℕ). row_along g parts outside z path) p.is_at ∙ h.1) in
        let counted : length others ≡ count_of q.0 n.rows =
        one_size (items q.0) others (nodes (chosen candidates n.rows q.0)) (subst (λ (r : List Item). Selects g parts outside (nodes candidates) path r others) (sym row) s) (selects i.0 q.0 q.1)
        ∙ nodes_count (chosen candidates n.rows q.0) ∙ chosen_count candidates n.rows q.0 n.apart.count in
        either q.0 row counted (All-slice_get (λ (r : ℕ). IsRarer c.rows.keys n.rows n.row r) n.rows i.0 q.0 n.rarest q.1)
      where
        either : (q : ℕ) → items q ≡ other → length others ≡ count_of q n.rows → IsRarer c.rows.keys n.rows n.row q → (count_of n.row n.rows < length others) ⊎ ((count_of n.row n.rows ≡ length others) × IsAtMost (items n.row) other)
        either q row counted (inl lt) = inl (omega (arith, lt, counted))
        either q row counted (inr (e, le)) = inr (e ∙ sym counted, subst (IsAtMost (row_items c.rows.keys n.row)) row le)

    pub narrowed_nodes : IsNarrowed g parts outside (nodes candidates) (nodes left)
    narrowed_nodes =
        let k = at_contains n.rows n.row n.row_in in
        let d = n.apart.differ in
        let a = candidate d.0 d.2 d.4 in
        let b = candidate d.1 d.3 d.5 in
        let size : length (nodes left) ≡ count_of n.row n.rows = nodes_count left ∙ ap length n.left_is ∙ chosen_count candidates n.rows n.row n.apart.count in
        record {
          path = path;
          row = items n.row;
          differ = record {
            one = at a.0;
            other = at b.0;
            one_in = has_node candidates d.0 a.0 a.1;
            other_in = has_node candidates d.1 b.0 b.1;
            apart = λ e. d.6 (items_once d.2 d.3 (row_known d.0 d.2 d.4) (row_known d.1 d.3 d.5)
                (same_Some (items d.2) (items d.3) (sym (row_here d.0 a.0 d.2 a.1 d.4) ∙ e ∙ row_here d.1 b.0 d.3 b.1 d.5)));
          };
          alike = λ q before. level_nodes candidates q within (n.apart.alike q before);
          selects = subst (λ (ps : List ℕ). Selects g parts outside (nodes candidates) path (items n.row) (nodes ps)) (sym n.left_is) (selects k.0 n.row k.1);
          some =
              let p = candidate k.0 n.row k.1 in
              let w = chosen_has candidates n.rows n.row k.0 p.0 p.1 k.1 in
              let lt = slice_get_within (chosen candidates n.rows n.row) w.0 p.0 w.1 in
              let same : length left ≡ length (chosen candidates n.rows n.row) = ap length n.left_is in
              let count = nodes_count left in
              omega (arith, lt, same, count);
          rarest = λ other others s full. sized other others size (rare other others s full);
        }
      where
        sized : (other : List Item) (others : List ℕ) → length (nodes left) ≡ count_of n.row n.rows → (count_of n.row n.rows < length others) ⊎ ((count_of n.row n.rows ≡ length others) × IsAtMost (items n.row) other) →
            (length (nodes left) < length others) ⊎ ((length (nodes left) ≡ length others) × IsAtMost (items n.row) other)
        sized other others size (inl lt) = inl (omega (arith, size, lt))
        sized other others size (inr (e, le)) = inr (size ∙ e, le)

  pub narrows_nodes : (start : ℕ) (candidates : List ℕ) → AreDistinct candidates → ((k p : ℕ) → slice_get candidates k ≡ Some p → p < length starts) → NarrowsTo c start candidates → Narrows g parts outside (at start) (nodes candidates)
  narrows_nodes start candidates distinct within (alike ps same there) =
      let k = at_contains ps start there in
      done (nodes ps) (λ q. level_nodes ps q within (same q)) (has_node ps k.0 start k.1)
  narrows_nodes start candidates distinct within (further ps left n rest) =
      step (nodes ps) (nodes left) (narrowed_nodes ps left distinct within n)
      (narrows_nodes start left (subst AreDistinct (sym n.left_is) (chosen_distinct ps n.rows n.row distinct))
      (λ k p e. let w = chosen_at ps n.rows n.row k p (ap (λ xs. slice_get xs k) (sym n.left_is) ∙ e) in within w.place p w.there) rest)

-- the key from the node at the first place
pub first_is : (g : List Node) (parts outside : List ℕ) (n : ℕ) (starts : List ℕ) (c : Component) (start place : ℕ) (order : List ℕ) (key : List Item) → IsGraph g → AreComponents g parts → n < length g → IsReach (inner g parts) (n ∷ []) starts → IsClosed (inner g parts) starts →
    IsComponentOf g parts outside starts c → length c.places.numbers.items ≡ length starts → IsFirstPlace c place → slice_get starts place ≡ Some start → IsKey g parts outside start order key → IsFirst g parts outside n order key
first_is g parts outside n starts c start place order key graph are lt reach closed is count first there is_key = record {
  start = start;
  all = (nodes g parts outside starts c are.size is count reach.distinct closed first.all);
  members = λ m. (member m, complete m);
  narrows = subst (λ (z : ℕ). Narrows g parts outside z (nodes g parts outside starts c are.size is count reach.distinct closed first.all)) (get_at g parts outside starts c are.size is count reach.distinct closed place start there)
      (narrows_nodes g parts outside starts c are.size is count reach.distinct closed place first.all distinct within first.narrows);
  is = is_key;
}
  where
    distinct : AreDistinct first.all
    distinct i j x e f = sym (first.own.own i x e) ∙ first.own.own j x f

    within : (k p : ℕ) → slice_get first.all k ≡ Some p → p < length starts
    within k p e = let a = first.own.own k p e in let b = slice_get_within first.all k p e in let s = first.own.size in omega arith

    member : (m : ℕ) → Contains (nodes g parts outside starts c are.size is count reach.distinct closed first.all) m → IsMember g parts n m
    member m among =
        let k = at_contains (nodes g parts outside starts c are.size is count reach.distinct closed first.all) m among in
        let p = place_at g parts outside starts c are.size is count reach.distinct closed first.all k.0 m k.1 in
        members g parts n starts graph are.size lt reach p.place m
        (at_get g parts outside starts c are.size is count reach.distinct closed p.place (within k.0 p.place p.there) ∙ ap (λ (z : ℕ). Some z) p.is_at)

    complete : (m : ℕ) → IsMember g parts n m → Contains (nodes g parts outside starts c are.size is count reach.distinct closed first.all) m
    complete m is_member =
        let k = at_contains starts m (round_all g parts graph are n m starts lt reach is_member) in
        let k_in = slice_get_within starts k.0 m k.1 in
        let size = first.own.size in
        let p = element first.all k.0 (omega arith) in
        let own = first.own.own k.0 p.0 p.1 in
        subst (Contains (nodes g parts outside starts c are.size is count reach.distinct closed first.all)) (ap (at g parts outside starts c are.size is count reach.distinct closed) own ∙ get_at g parts outside starts c are.size is count reach.distinct closed k.0 m k.1)
        (has_node g parts outside starts c are.size is count reach.distinct closed first.all k.0 p.0 p.1)

pub are_numbered : (g : List Node) (parts outside starts : List ℕ) (c : Component) → IsComponentOf g parts outside starts c → length c.places.numbers.items ≡ length starts → AreRowNumbers c
are_numbered g parts outside starts c is count p lt =
    let n = element starts p (omega arith) in
    let h = is.row p n.0 lt n.1 in
    slice_get_within c.rows.keys (number_at c.places p) h.key h.there

pub starts_some : (g : List Node) (parts : List ℕ) (n : ℕ) (starts : List ℕ) (c : Component) → IsReach (inner g parts) (n ∷ []) starts → length c.places.numbers.items ≡ length starts → 0 < length c.places.numbers.items
starts_some g parts n starts c reach count = let lt = slice_get_within starts 0 n (first_node (inner g parts) n starts reach) in omega arith
