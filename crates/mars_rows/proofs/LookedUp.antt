-- The components of a tree are looked up, children first.
use Rattle.std.proofs.Common.{◌≡◌, ◌≢◌, ◌⊎◌, cond, length-append, ℕ, ◌<◌, ◌≤◌, ◌+◌, Bool, true, false, List, [], ◌∷◌, ◌++◌, length, Option, Some, None, unwrap_or, slice_get, refl, sym, subst, ap, ◌∙◌, arith, inl, inr, All}
use Rattle.std.specs.List.{range_with_len}
use Rattle.std.proofs.lemmas.Bool.{cases_eq, cases_lt, false≢true}
use Rattle.std.proofs.lemmas.Option.{same_Some, slice_get_within, get_or_from_slice_get}
use Rattle.std.proofs.lemmas.List.FromFn.{length-range_with_len, get_or-range_with_len}
use Rattle.std.proofs.lemmas.List.Elements.{length_all_zip}
use Rattle.mars_base.proofs.ListFacts.{All-from_gets, get-Contains, get-append_before, get-append_after}
use Rattle.mars_tree.specs.Graph.{Node}
use Rattle.mars_tree.proofs.CallerLemmas.{kid_in}
use Rattle.mars_comp.specs.Components.{AreComponents, component_of}
use Rattle.mars_comp.specs.KeyLaws.{IsParted}
use Rattle.mars_comp.specs.declared.items.Item.{Item}
use Rattle.mars_comp.specs.declared.items.Key.{Key}
use Rattle.mars_rows.specs.Finding.{find_row}
use Rattle.mars_rows.specs.IndexInside.{Pair, rows_under, number_for, IsNumber, IsChosen, IsEntry, IsRowIndex, IsGuess, KidsGuessed, AreHeads, guess, IsPast, IsAhead, HasPart, PutsNumbers, IsLookedUp, IsLooked}
use Rattle.mars_rows.specs.Rows.{Row, HasRow}
use Rattle.mars_rows.specs.Sound.{AreClosed, IsApart}
use Rattle.mars_rows.specs.TreeGraph.{IsTreeGraph}
use Rattle.mars_rows.proofs.Chosen.{chosen_member, chosen_all}
use Rattle.mars_rows.proofs.Found.{find_means}
use Rattle.mars_rows.proofs.Indexed.{zip_at, hit, miss}

pub none_or_some : (o : Option ℕ) → (o ≡ None) ⊎ ((x : ℕ) × (o ≡ Some x))
none_or_some None = inl refl
none_or_some (Some x) = inr (x, refl)

pub tree_parted : (g : List Node) (parts : List ℕ) → IsTreeGraph g → AreComponents g parts → IsParted g parts
tree_parted g parts is are = record { graph = is.graph; ground = is.labels; apart = is.canonical.distinct; components = are }

module _ (rows : List Row) (closed : AreClosed rows) (apart : IsApart rows) (g : List Node) (is_tree : IsTreeGraph g) (parts : List ℕ) (are : AreComponents g parts) where
  means : (n h : ℕ) → n < length g → (find_row rows g n ≡ Some h → IsNumber rows g n h) × (IsNumber rows g n h → find_row rows g n ≡ Some h)
  means n h n_in = let m = find_means rows g n h closed apart is_tree.graph is_tree.labels n_in in (m.0, m.1)

  pub part_nodes : (head : ℕ) (nodes old : List ℕ) (key : List Item) → IsChosen g parts old head nodes key → All (λ n. n < length g) nodes
  part_nodes head nodes old key chosen = All-from_gets (λ n. n < length g) nodes (λ k n e. (chosen_member g parts old head nodes key (tree_parted g parts is_tree are) chosen k n e).within)

  pub part_count : (head : ℕ) (nodes numbers old : List ℕ) (key : List Item) → head < length g → KidsGuessed rows g parts head old → IsChosen g parts old head nodes key → IsEntry rows key numbers → length nodes ≡ length numbers
  part_count head nodes numbers old key head_in kids chosen entry =
      length_all_zip (λ x h. IsNumber rows g x h) nodes numbers (hit rows apart g parts old head nodes key (tree_parted g parts is_tree are) head_in kids chosen numbers entry)

  -- a key that an entry has: its nodes are the entry's rows
  pub found_part : (head : ℕ) (nodes numbers old new : List ℕ) (key : List Item) → head < length g → KidsGuessed rows g parts head old → IsChosen g parts old head nodes key → IsEntry rows key numbers →
      PutsNumbers nodes numbers (length nodes) old new → IsLooked rows g parts head true old new
  found_part head nodes numbers old new key head_in kids chosen entry put = record {
    size = put.size;
    here = λ n member.
        let at = get-Contains nodes n (chosen_all g parts old head nodes key (tree_parted g parts is_tree are) chosen n member) in
        let r = put.there at.0 n at.1 at.2 in
        let z = zip_at (λ x h. IsNumber rows g x h) nodes numbers r.0 n (hit rows apart g parts old head nodes key (tree_parted g parts is_tree are) head_in kids chosen numbers entry) r.2 in
        let same : number_for new n ≡ z.0 = r.3 ∙ get_or_from_slice_get numbers r.0 z.0 0 z.1 in
        (means n z.0 member.within).1 z.2 ∙ ap (λ k. Some k) (sym same);
    missed = λ n other. absurd (other refl);
    others = λ n apart_from. put.others n (λ k lt e. apart_from (chosen_member g parts old head nodes key (tree_parted g parts is_tree are) chosen k n e).beside);
  }

  -- a key that no entry has: its nodes have no rows
  pub missed_part : (entries : List Pair) → IsRowIndex rows entries → (head : ℕ) (nodes old : List ℕ) (key : Key) → head < length g → KidsGuessed rows g parts head old → IsChosen g parts old head nodes key.items.items →
      rows_under entries key ≡ None → IsLooked rows g parts head false old old
  missed_part entries index head nodes old key head_in kids chosen none = record {
    size = refl;
    here = λ n member. elim (none_or_some (find_row rows g n)) [
      | inl gone ↦ gone
      | inr some ↦ absurd (miss rows apart entries index g parts old head nodes key (tree_parted g parts is_tree are) head_in kids chosen none n some.0 member ((means n some.0 member.within).0 some.1))
    ];
    missed = λ n other. refl;
    others = λ n other. refl;
  }

  module _ (next : ℕ) (below : (h : ℕ) → HasRow rows h → h < next) (heads : List ℕ) (are_heads : AreHeads parts heads) where
    guess_some : (n h : ℕ) → find_row rows g n ≡ Some h → guess rows next g n ≡ h
    guess_some n h e = ap (λ o. unwrap_or o (next + n)) e

    guess_none : (n : ℕ) → find_row rows g n ≡ None → guess rows next g n ≡ next + n
    guess_none n e = ap (λ o. unwrap_or o (next + n)) e

    guess_is : (x h : ℕ) → x < length g → h ≡ guess rows next g x → IsGuess rows g x h
    guess_is x h x_in e = elim (none_or_some (find_row rows g x)) [
      | inl none ↦ inr (
        λ k number. let no : None ≡ Some k = sym none ∙ (means x k x_in).1 number in cc,
        λ has. let lt = below h has in absurd (omega (arith, lt, e, guess_none x none)),
      )
      | inr some ↦ inl (subst (IsNumber rows g x) (sym (e ∙ guess_some x some.0 some.1)) ((means x some.0 x_in).0 some.1))
    ]

    -- the kids outside were looked up before
    pub kids_guessed : (k head : ℕ) (numbers missed : List ℕ) → IsLookedUp rows next g parts heads k numbers missed → slice_get heads k ≡ Some head → KidsGuessed rows g parts head numbers
    kids_guessed k head numbers missed looked at x o =
        let kid = o.is_kid in
        let x_in : x < length g = kid_in g o.node kid.0 x is_tree.graph o.within kid.1 in
        let le : component_of parts x ≤ component_of parts o.node = are.below o.node x o.within kid in
        let beside = o.beside in
        let place = are_heads.all x (omega (arith, x_in, are.size)) in
        let ne : component_of parts x ≢ component_of parts head = o.outer in
        let lt : component_of parts x < component_of parts head = omega (arith, le, beside, ne) in
        let past : place.0 < k = elim (cases_lt place.0 k) [
          | inl before ↦ before
          | inr after ↦ elim (cases_eq k place.0) [
            | inl here ↦
                let same : place.1 ≡ head = same_Some place.1 head (sym place.2 ∙ ap (slice_get heads) (sym here) ∙ at) in
                absurd (omega (arith, lt, ap (component_of parts) same, place.3))
            | inr there ↦
                let rise = are_heads.rise k place.0 head place.1 (omega (arith, after, there)) at place.2 in
                absurd (omega (arith, lt, rise, place.3))
          ]
        ] in
        guess_is x (number_for numbers x) x_in (looked.past x x_in (place.0, place.1, past, place.2, place.3))

    pub looked_none : (numbers : List ℕ) → numbers ≡ range_with_len next (length g) → IsLookedUp rows next g parts heads 0 numbers []
    looked_none numbers e = record {
      size = ap length e ∙ length-range_with_len next (length g);
      past = λ n n_in p. absurd (omega (arith, p.2));
      ahead = λ n n_in p. ap (λ xs. number_for xs n) e ∙ get_or-range_with_len next (length g) n 0 n_in;
      missing = λ n n_in p none. absurd (omega (arith, p.2));
      missed_in = λ j n e. cc;
    }

    -- one component more
    module _ (k head : ℕ) (numbers missed new : List ℕ) (found : Bool) (looked : IsLookedUp rows next g parts heads k numbers missed) (at : slice_get heads k ≡ Some head)
        (is : IsLooked rows g parts head found numbers new) where
      head_in : head < length g
      head_in = omega (arith, are_heads.within k head at, are.size)

      rises : (j hd : ℕ) → j < k → slice_get heads j ≡ Some hd → component_of parts hd < component_of parts head
      rises j hd lt e = are_heads.rise j k hd head lt e at

      -- of the component itself, or of one before
      either : (n : ℕ) → IsPast parts heads (k + 1) n → (component_of parts n ≡ component_of parts head) ⊎ (IsPast parts heads k n × (component_of parts n ≢ component_of parts head))
      either n (j, hd, lt, e, same) = elim (cases_eq j k) [
        | inl here ↦
            let one : hd ≡ head = same_Some hd head (sym e ∙ ap (slice_get heads) here ∙ at) in
            inl (sym same ∙ ap (component_of parts) one)
        | inr ne ↦
            let before : j < k = omega (arith, lt, ne) in
            let rise = rises j hd before e in
            inr ((j, hd, before, e, same), λ eq. absurd (omega (arith, rise, same, eq)))
      ]

      old_number : (n : ℕ) → n < length g → component_of parts n ≡ component_of parts head → number_for numbers n ≡ next + n
      old_number n n_in same = looked.ahead n n_in (k, head, omega arith, at, sym same)

      past_more : (n : ℕ) → n < length g → IsPast parts heads (k + 1) n → number_for new n ≡ guess rows next g n
      past_more n n_in p = elim (either n p) [
        | inl here ↦ by_found found refl (is.here n (record { within = n_in; beside = here })) here
        | inr before ↦ is.others n before.1 ∙ looked.past n n_in before.0
      ]
        where
          by_found : (b : Bool) → found ≡ b → find_row rows g n ≡ cond found (Some (number_for new n)) None → component_of parts n ≡ component_of parts head → number_for new n ≡ guess rows next g n
          by_found true f e here = sym (guess_some n (number_for new n) (e ∙ ap (λ b. cond b (Some (number_for new n)) None) f))
          by_found false f e here =
              is.missed n (λ t. false≢true (sym f ∙ t)) ∙ old_number n n_in here ∙ sym (guess_none n (e ∙ ap (λ b. cond b (Some (number_for new n)) None) f))

      ahead_more : (n : ℕ) → n < length g → IsAhead parts heads (k + 1) n → number_for new n ≡ next + n
      ahead_more n n_in (j, hd, le, e, same) =
          let rise = are_heads.rise k j head hd (omega (arith, le)) at e in
          is.others n (λ eq. absurd (omega (arith, rise, same, eq))) ∙ looked.ahead n n_in (j, hd, omega (arith, le), e, same)

      missing_found : found ≡ true → (n : ℕ) → n < length g → IsPast parts heads (k + 1) n → find_row rows g n ≡ None → HasPart parts missed n
      missing_found is_found n n_in p none = elim (either n p) [
        | inl here ↦
            let some : find_row rows g n ≡ Some (number_for new n) = is.here n (record { within = n_in; beside = here }) ∙ ap (λ b. cond b (Some (number_for new n)) None) is_found in
            let no : None ≡ Some (number_for new n) = sym none ∙ some in
            cc
        | inr before ↦ looked.missing n n_in before.0 none
      ]

      missing_missed : (n : ℕ) → n < length g → IsPast parts heads (k + 1) n → find_row rows g n ≡ None → HasPart parts (missed ++ head ∷ []) n
      missing_missed n n_in p none = elim (either n p) [
        | inl here ↦ (length missed, head, ap (slice_get (missed ++ head ∷ [])) (omega arith) ∙ get-append_after missed (head ∷ []) 0, sym here)
        | inr before ↦
            let old = looked.missing n n_in before.0 none in
            (old.0, old.1, get-append_before missed (head ∷ []) old.0 (slice_get_within missed old.0 old.1 old.2) ∙ old.2, old.3)
      ]

      pub looked_found : found ≡ true → IsLookedUp rows next g parts heads (k + 1) new missed
      looked_found is_found = record {
        size = is.size ∙ looked.size;
        past = past_more;
        ahead = ahead_more;
        missing = missing_found is_found;
        missed_in = looked.missed_in;
      }

      pub looked_missed : IsLookedUp rows next g parts heads (k + 1) new (missed ++ head ∷ [])
      looked_missed = record {
        size = is.size ∙ looked.size;
        past = past_more;
        ahead = ahead_more;
        missing = missing_missed;
        missed_in = λ j n e. elim (cases_lt j (length missed)) [
          | inl old ↦ looked.missed_in j n (sym (get-append_before missed (head ∷ []) j old) ∙ e)
          | inr new_one ↦
              let lt = slice_get_within (missed ++ head ∷ []) j n e in
              let here : j ≡ length missed + 0 = omega (arith, lt, new_one, length-append missed (head ∷ [])) in
              let same : n ≡ head = sym (same_Some head n (sym (get-append_after missed (head ∷ []) 0) ∙ ap (slice_get (missed ++ head ∷ [])) (sym here) ∙ e)) in
              subst (λ m. m < length g) (sym same) head_in
        ];
      }

    all_past : (n : ℕ) → n < length g → IsPast parts heads (length heads) n
    all_past n n_in =
        let place = are_heads.all n (omega (arith, n_in, are.size)) in
        (place.0, place.1, slice_get_within heads place.0 place.1 place.2, place.2, place.3)

    -- all components
    pub looked_all : (numbers missed : List ℕ) → IsLookedUp rows next g parts heads (length heads) numbers missed → (n : ℕ) → n < length g → number_for numbers n ≡ guess rows next g n
    looked_all numbers missed looked n n_in = looked.past n n_in (all_past n n_in)

    pub missing_all : (numbers missed : List ℕ) → IsLookedUp rows next g parts heads (length heads) numbers missed → (n : ℕ) → n < length g → find_row rows g n ≡ None → HasPart parts missed n
    missing_all numbers missed looked n n_in none = looked.missing n n_in (all_past n n_in) none

-- a number below the next one is that of a row, and another is that of none
module _ (rows : List Row) (closed : AreClosed rows) (apart : IsApart rows) (g : List Node) (is_tree : IsTreeGraph g) (next : ℕ) (below : (h : ℕ) → HasRow rows h → h < next) (n number : ℕ) (n_in : n < length g) (e : number ≡ guess rows next g n) where
  pub below_found : number < next → find_row rows g n ≡ Some number
  below_found lt = elim (none_or_some (find_row rows g n)) [
    | inl none ↦ let past : number ≡ next + n = e ∙ ap (λ o. unwrap_or o (next + n)) none in absurd (omega (arith, lt, past))
    | inr some ↦ some.1 ∙ ap (λ k. Some k) (sym (e ∙ ap (λ o. unwrap_or o (next + n)) some.1))
  ]

  pub past_missed : next ≤ number → find_row rows g n ≡ None
  past_missed le = elim (none_or_some (find_row rows g n)) [
    | inl none ↦ none
    | inr some ↦
        let same : number ≡ some.0 = e ∙ ap (λ o. unwrap_or o (next + n)) some.1 in
        let lt = below some.0 ((find_means rows g n some.0 closed apart is_tree.graph is_tree.labels n_in).0 some.1).0 in
        absurd (omega (arith, le, same, lt))
  ]
