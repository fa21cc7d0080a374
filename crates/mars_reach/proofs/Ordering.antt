-- The order of a walk over a queue.
use Rattle.std.proofs.Common.{◌≡◌, ◌⊎◌, ℕ, suc, ◌<◌, ◌≤◌, ◌+◌, Bool, true, false, cond, ◌||◌, drop, slice_get, nat_eq, List, [], ◌∷◌, ◌++◌, length, map, take, Some, option_and_then, refl, sym, subst, ap, ◌∙◌, arith, inl, inr, Contains, append_assoc, append-nil, length-append, eq-eqb, ne_eqb}
use Rattle.std.specs.List.{flat_map, list_any}
use Rattle.std.proofs.lemmas.Bool.{false≢true, cases_lt, cases_eq}
use Rattle.std.proofs.lemmas.Bool.Decides.{nat_tests}
use Rattle.std.proofs.lemmas.Option.{option_and_then_some, same_Some, slice_get_within, get_or_from_slice_get}
use Rattle.std.proofs.lemmas.List.{map-append, take_more, take-append-le, take-map, length-map, take-append-drop}
use Rattle.std.proofs.lemmas.List.Concat.{flat_map-append}
use Rattle.std.proofs.lemmas.List.Elements.{Contains-append_right}
use Rattle.mars_tree.specs.Graph.{Node, kids_of}
use Rattle.mars_tree.specs.Canonical.{mentions, known_with, known_after}
use Rattle.mars_tree.proofs.Numbering.{known_with_cases}
use Rattle.mars_reach.specs.Order.{met_after, place_in, renumbered_node, renumbered, IsQueue, FirstInOrder}

-- what is known is the next number, or one before it
known_below : (known x : ℕ) → x < known → known_with known x ≡ Some known
known_below known x lt = grind (arith, nat_tests)

known_next : (known x : ℕ) → x ≡ known → known_with known x ≡ Some (known + 1)
known_next known x e = grind (arith, nat_tests)

place-below : (xs ys : List ℕ) (x : ℕ) → list_any (nat_eq x) xs ≡ true → place_in (xs ++ ys) x < length xs
place-below [] ys x e = absurd (false≢true e)
place-below (y ∷ xs) ys x e = elim (cases_eq y x) [
  | inl same ↦ let t : nat_eq y x ≡ true = eq-eqb y x same in
      let p : place_in (y ∷ (xs ++ ys)) x ≡ 0 = ap (λ b. cond b 0 (suc (place_in (xs ++ ys) x))) t in omega (arith, p)
  | inr other ↦
      let t : nat_eq y x ≡ false = ne_eqb y x other in
      let u : nat_eq x y ≡ false = ne_eqb x y (λ s. other (sym s)) in
      let p : place_in (y ∷ (xs ++ ys)) x ≡ suc (place_in (xs ++ ys) x) = ap (λ b. cond b 0 (suc (place_in (xs ++ ys) x))) t in
      let rest : list_any (nat_eq x) xs ≡ true = sym (ap (λ b. b || list_any (nat_eq x) xs) u) ∙ e in
      let below : place_in (xs ++ ys) x < length xs = place-below xs ys x rest in
      omega (arith, p, below)
]

place-new : (xs ys : List ℕ) (x : ℕ) → list_any (nat_eq x) xs ≡ false → place_in (xs ++ x ∷ ys) x ≡ length xs
place-new [] ys x e = ap (λ b. cond b 0 (suc (place_in ys x))) (eq-eqb x x refl)
place-new (y ∷ xs) ys x e = elim (cases_eq y x) [
  | inl same ↦ let u : nat_eq x y ≡ true = eq-eqb x y (sym same) in absurd (false≢true (sym e ∙ ap (λ b. b || list_any (nat_eq x) xs) u))
  | inr other ↦
      let t : nat_eq y x ≡ false = ne_eqb y x other in
      let u : nat_eq x y ≡ false = ne_eqb x y (λ s. other (sym s)) in
      let rest : list_any (nat_eq x) xs ≡ false = sym (ap (λ b. b || list_any (nat_eq x) xs) u) ∙ e in
      ap (λ b. cond b 0 (suc (place_in (xs ++ x ∷ ys) x))) t ∙ ap suc (place-new xs ys x rest)
]

bool_cases : (b : Bool) → (b ≡ true) ⊎ (b ≡ false)
bool_cases true = inl refl
bool_cases false = inr refl

-- what was met stays first
pub met_after-front : (met xs : List ℕ) → (more : List ℕ) × (met_after met xs ≡ met ++ more)
met_after-front met [] = ([], sym (append-nil met))
met_after-front met (x ∷ xs) = elim (bool_cases (list_any (nat_eq x) met)) [
  | inl t ↦ let r = met_after-front met xs in (r.0, ap (λ b. met_after (cond b met (met ++ x ∷ [])) xs) t ∙ r.1)
  | inr t ↦ let r = met_after-front (met ++ x ∷ []) xs in (x ∷ r.0, ap (λ b. met_after (cond b met (met ++ x ∷ [])) xs) t ∙ r.1 ∙ append_assoc met (x ∷ []) r.0)
]

-- meeting two lists, one after the other
pub met_after-append : (met xs ys : List ℕ) → met_after met (xs ++ ys) ≡ met_after (met_after met xs) ys
met_after-append met [] ys = refl
met_after-append met (x ∷ xs) ys = met_after-append (cond (list_any (nat_eq x) met) met (met ++ x ∷ [])) xs ys

-- the places of the nodes that are met first appear in order
known-places : (all met xs rest : List ℕ) → all ≡ met_after met xs ++ rest → known_after (length met) (map (place_in all) xs) ≡ Some (length (met_after met xs))
known-places all met [] rest e = refl
known-places all met (x ∷ xs) rest e = elim (bool_cases (list_any (nat_eq x) met)) [
  | inl t ↦
      let next : met_after met (x ∷ xs) ≡ met_after met xs = ap (λ b. met_after (cond b met (met ++ x ∷ [])) xs) t in
      let front = met_after-front met xs in
      let whole : all ≡ met ++ (front.0 ++ rest) = e ∙ ap (λ ys. ys ++ rest) (next ∙ front.1) ∙ append_assoc met front.0 rest in
      let below : place_in all x < length met = subst (λ (ys : List ℕ). place_in ys x < length met) (sym whole) (place-below met (front.0 ++ rest) x t) in
      ap (option_and_then (λ more. known_after more (map (place_in all) xs))) (known_below (length met) (place_in all x) below)
      ∙ known-places all met xs rest (e ∙ ap (λ ys. ys ++ rest) next) ∙ ap (λ ys. Some (length ys)) (sym next)
  | inr t ↦
      let next : met_after met (x ∷ xs) ≡ met_after (met ++ x ∷ []) xs = ap (λ b. met_after (cond b met (met ++ x ∷ [])) xs) t in
      let front = met_after-front (met ++ x ∷ []) xs in
      let whole : all ≡ met ++ x ∷ (front.0 ++ rest) = e ∙ ap (λ ys. ys ++ rest) (next ∙ front.1) ∙ append_assoc (met ++ x ∷ []) front.0 rest ∙ append_assoc met (x ∷ []) (front.0 ++ rest) in
      let here : place_in all x ≡ length met = ap (λ ys. place_in ys x) whole ∙ place-new met (front.0 ++ rest) x t in
      let count : length (met ++ x ∷ []) ≡ length met + 1 = length-append met (x ∷ []) in
      ap (option_and_then (λ more. known_after more (map (place_in all) xs))) (known_next (length met) (place_in all x) here ∙ ap (λ n. Some n) (sym count))
      ∙ known-places all (met ++ x ∷ []) xs rest (e ∙ ap (λ ys. ys ++ rest) next) ∙ ap (λ ys. Some (length ys)) (sym next)
]

-- each number that is known in the end and wasn't before has appeared
appeared : (known end : ℕ) (xs : List ℕ) (i : ℕ) → known_after known xs ≡ Some end → known ≤ i → i < end → Contains xs i
appeared known end [] i e le lt = let same : known ≡ end = same_Some known end e in absurd (omega (arith, same))
appeared known end (x ∷ xs) i e le lt =
    option_and_then_some (λ more. known_after more xs) (known_with known x) end e (λ more first rest. elim (known_with_cases known x more first) [
      | inl w ↦ Contains-append_right (x ∷ []) xs i (appeared more end xs i rest (omega (arith, w.1)) lt)
      | inr w ↦ elim (cases_eq x i) [
        | inl same ↦ (0, omega arith, same)
        | inr other ↦ Contains-append_right (x ∷ []) xs i (appeared more end xs i rest (omega (arith, w.0, w.1, other)) lt)
      ]
    ])

-- the mentions of the new graph are the places of those of the old
flat_map-renumbered : (g : List Node) (order ns : List ℕ) →
    flat_map (λ (node : Node). node.kids) (renumbered g (place_in order) ns) ≡ map (place_in order) (flat_map (kids_of g) ns)
flat_map-renumbered g order [] = refl
flat_map-renumbered g order (n ∷ ns) =
    ap (λ ys. map (place_in order) (kids_of g n) ++ ys) (flat_map-renumbered g order ns) ∙ sym (map-append (place_in order) (kids_of g n) (flat_map (kids_of g) ns))

mentions-renumbered : (g : List Node) (roots order ns : List ℕ) →
    mentions (map (place_in order) roots) (renumbered g (place_in order) ns) ≡ map (place_in order) (roots ++ flat_map (kids_of g) ns)
mentions-renumbered g roots order ns =
    ap (λ ys. map (place_in order) roots ++ ys) (flat_map-renumbered g order ns) ∙ sym (map-append (place_in order) roots (flat_map (kids_of g) ns))

pub order_is_canonical : (g : List Node) (roots order : List ℕ) → IsQueue g roots order → FirstInOrder (renumbered g (place_in order) order) (map (place_in order) roots)
order_is_canonical g roots order queue =
    let node : ℕ → Node = renumbered_node g (place_in order) in
    let xs : List ℕ = roots ++ flat_map (kids_of g) order in
    record {
      in_order =
          ap (known_after 0) (mentions-renumbered g roots order order)
          ∙ known-places order [] xs [] (sym queue.whole ∙ sym (append-nil (met_after [] xs)))
          ∙ ap (λ ys. Some (length ys)) queue.whole ∙ ap (λ n. Some n) (sym (length-map order node));
      early = λ i h.
          let i_in : i < length order = subst (λ (n : ℕ). i < n) (length-map order node) h in
          let front : List ℕ = roots ++ flat_map (kids_of g) (take i order) in
          let parts : xs ≡ front ++ flat_map (kids_of g) (drop i order) =
          ap (λ ns. roots ++ flat_map (kids_of g) ns) (sym (take-append-drop i order)) ∙ ap (λ ys. roots ++ ys) (flat_map-append (kids_of g) (take i order) (drop i order))
          ∙ sym (append_assoc roots (flat_map (kids_of g) (take i order)) (flat_map (kids_of g) (drop i order))) in
          let more = met_after-front (met_after [] front) (flat_map (kids_of g) (drop i order)) in
          let whole : order ≡ met_after [] front ++ more.0 = sym queue.whole ∙ ap (met_after []) parts ∙ met_after-append [] front (flat_map (kids_of g) (drop i order)) ∙ more.1 in
          let known : known_after 0 (map (place_in order) front) ≡ Some (length (met_after [] front)) = known-places order [] front more.0 whole in
          let there : Contains (map (place_in order) front) i = appeared 0 (length (met_after [] front)) (map (place_in order) front) i known (omega arith) (queue.early i i_in) in
          let same : mentions (map (place_in order) roots) (take i (map node order)) ≡ map (place_in order) front =
          ap (mentions (map (place_in order) roots)) (take-map node i order) ∙ mentions-renumbered g roots order (take i order) in
          subst (λ (ys : List ℕ). Contains ys i) (sym same) there;
    }

-- one more of a list is met
pub met_more : (start met new xs : List ℕ) (k x : ℕ) → slice_get xs k ≡ Some x → met ≡ met_after start (take k xs) → new ≡ met_after met (x ∷ []) → new ≡ met_after start (take (k + 1) xs)
met_more start met new xs k x get before after =
    let parts : take (k + 1) xs ≡ take k xs ++ x ∷ [] = take_more xs k 0 (slice_get_within xs k x get) ∙ ap (λ y. take k xs ++ y ∷ []) (get_or_from_slice_get xs k x 0 get) in
    after ∙ ap (λ ys. met_after ys (x ∷ [])) before ∙ sym (met_after-append start (take k xs) (x ∷ [])) ∙ ap (met_after start) (sym parts)

-- one more of the queue is taken
pub record IsStep (kids : ℕ → List ℕ) (roots new : List ℕ) (next : ℕ) : Type 0 where
  pub within : next + 1 ≤ length new
  pub met : met_after [] (roots ++ flat_map kids (take (next + 1) new)) ≡ new
  pub early : (i : ℕ) → i < next + 1 → i < length (met_after [] (roots ++ flat_map kids (take i new)))

pub queue_more : (kids : ℕ → List ℕ) (roots met new : List ℕ) (next node : ℕ) → slice_get met next ≡ Some node →
    met_after [] (roots ++ flat_map kids (take next met)) ≡ met → ((i : ℕ) → i < next → i < length (met_after [] (roots ++ flat_map kids (take i met)))) →
    new ≡ met_after met (kids node) → IsStep kids roots new next
queue_more kids roots met new next node get before early after =
    let within : next < length met = slice_get_within met next node get in
    let front = met_after-front met (kids node) in
    let grown : new ≡ met ++ front.0 = after ∙ front.1 in
    let same = λ (i : ℕ) (h : i ≤ length met). let e : take i new ≡ take i met = ap (take i) grown ∙ take-append-le i met front.0 h in e in
    let parts : take (next + 1) met ≡ take next met ++ node ∷ [] = take_more met next 0 within ∙ ap (λ y. take next met ++ y ∷ []) (get_or_from_slice_get met next node 0 get) in
    let list : roots ++ flat_map kids (take (next + 1) new) ≡ (roots ++ flat_map kids (take next met)) ++ kids node =
    ap (λ ns. roots ++ flat_map kids ns) (same (next + 1) (omega arith) ∙ parts)
    ∙ ap (λ ys. roots ++ ys) (flat_map-append kids (take next met) (node ∷ []) ∙ ap (λ ys. flat_map kids (take next met) ++ ys) (append-nil (kids node)))
    ∙ sym (append_assoc roots (flat_map kids (take next met)) (kids node)) in
    record {
      within = omega (arith, ap length grown, length-append met front.0, within);
      met = ap (met_after []) list ∙ met_after-append [] (roots ++ flat_map kids (take next met)) (kids node) ∙ ap (λ ys. met_after ys (kids node)) before ∙ sym after;
      early = λ i h.
          let e = same i (omega (arith, h, within)) in
          subst (λ (ns : List ℕ). i < length (met_after [] (roots ++ flat_map kids ns))) (sym e) (elim (cases_lt i next) [
            | inl lt ↦ early i lt
            | inr le ↦
                let at_next : i ≡ next = omega (arith, h, le) in
                subst (λ (j : ℕ). j < length (met_after [] (roots ++ flat_map kids (take j met)))) (sym at_next) (subst (λ (ys : List ℕ). next < length ys) (sym before) within)
          ]);
    }
