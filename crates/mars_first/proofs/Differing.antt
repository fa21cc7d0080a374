-- What a search tells: candidates are alike before the first stage that isn't level, and there their rows are those that traces lead to.
use Rattle.std.proofs.Common.{◌≡◌, ◌≢◌, ◌⊎◌, ℕ, zero, suc, ◌<◌, ◌≤◌, ◌+◌, List, [], ◌∷◌, ◌++◌, length, Some, slice_get, slice_index_or, map, refl, sym, ap, ◌∙◌, subst, arith, inl, inr, Contains, All}
use Rattle.std.specs.Option.{option_map}
use Rattle.std.proofs.lemmas.List.{length-map}
use Rattle.std.proofs.lemmas.Bool.{cases_eq, cases_lt}
use Rattle.std.proofs.lemmas.Option.{same_Some, slice_get_within, slice_get-map, slice_get-get_or}
use Rattle.mars_reach.proofs.Numbers.{at_contains, contains_at, All-from_gets}
use Rattle.mars_first.specs.First.{IsBefore}
use Rattle.mars_first.specs.LinksInside.{AreSeveral, AreOne}
use Rattle.mars_first.specs.PlacesInside.{kids_of_place, number_at, number_along}
use Rattle.mars_first.specs.StagesInside.{KidsAt, Chain, itself, linked, InStage, AreJoined, IsDone, IsPathSearch, AreUneven, Trace, ends, back, HasTrace, AreTraced, AreRowsApart, NeverDiffer}
use Rattle.mars_first.specs.declared.places.Places.{Places}
use Rattle.mars_first.specs.declared.links.Classes.{Classes}
use Rattle.mars_first.specs.declared.stages.Stage.{Stage}
use Rattle.mars_first.proofs.UpTo.{before_trans, IsUpTo, AreDone, Shows, shows_root, shows_kid, shows_end, roots_alike}
use Rattle.mars_first.proofs.Staging.{element, chain_on, chain_turned, chain_map, before_itself}

module _ (s : Places) (stages : List Stage) (classes : List Classes) (links : List ℕ) (is : IsPathSearch s stages classes links) where
  abbrev In : List ℕ → ℕ → Type 0
  In = InStage is.paths stages

  abbrev Link : List ℕ → ℕ → ℕ → Type 0
  Link = AreJoined is.paths classes

  -- a path is that of one stage
  one_place : (i j : ℕ) (p : List ℕ) → slice_get is.paths i ≡ Some p → slice_get is.paths j ≡ Some p → i ≡ j
  one_place i j p e f = elim (cases_lt i j) [
    | inl lt ↦ absurd (before_itself p (is.rise i j p p lt e f))
    | inr le ↦ elim (cases_lt j i) [
      | inl lt ↦ absurd (before_itself p (is.rise j i p p lt f e))
      | inr more ↦ omega arith
    ]
  ]

  module _ (until : List ℕ) (front : (i : ℕ) (p : List ℕ) → slice_get is.paths i ≡ Some p → IsBefore p until → i < length classes) where
    done_at : (q : List ℕ) (x y : ℕ) → IsBefore q until → (left : In q x) → (right : In q y) → (c : Classes) × IsDone s is.paths stages classes left.stage c q × (slice_get classes left.place ≡ Some c) × Contains left.stage.nodes.items y
    done_at q x y before left right =
        let lt = front left.place q left.path_here before in
        let c = element classes left.place lt in
        let one = one_place right.place left.place q right.path_here left.path_here in
        let same : right.stage ≡ left.stage = same_Some right.stage left.stage (sym right.here ∙ ap (slice_get stages) one ∙ left.here) in
        (c.0, is.done left.place c.0 left.stage q c.1 left.here left.path_here, c.1, subst (λ (t : Stage). Contains t.nodes.items y) same right.among)

    level : (q : List ℕ) (x y : ℕ) → IsBefore q until → In q x → In q y → number_at s x ≡ number_at s y
    level q x y before left right = let d = done_at q x y before left right in d.1.level x y left.among d.3

    to_head : (q : List ℕ) (st : Stage) (c : Classes) (x : ℕ) → IsDone s is.paths stages classes st c q → Contains st.nodes.items x → (head : ℕ) × Contains c.heads.items head × Chain Link (λ p. IsUpTo p q) x head
    to_head q st c x d among =
        let at = at_contains st.nodes.items x among in
        let o = d.class at.0 x at.1 in
        (o.head, contains_at c.heads.items o.slot o.head o.there, chain_map Link Link (λ p. IsBefore p q) (λ p. IsUpTo p q) (λ p a b j. j) (λ p a b j lt. inl lt) x o.head o.chain)

    joined : (q : List ℕ) (x y : ℕ) → IsBefore q until → In q x → In q y → Chain Link (λ p. IsUpTo p q) x y
    joined q x y before left right =
        let d = done_at q x y before left right in
        let a = to_head q left.stage d.0 x d.1 left.among in
        let b = to_head q left.stage d.0 y d.1 d.3 in
        chain_on Link (λ p. IsUpTo p q) x a.0 y a.2 (chain_on Link (λ p. IsUpTo p q) a.0 b.0 y (heads d.0 a.0 b.0 d.2 a.1 b.1) (chain_turned Link (λ p. IsUpTo p q) y b.0 b.2))
      where
        heads : (c : Classes) (a b : ℕ) → slice_get classes left.place ≡ Some c → Contains c.heads.items a → Contains c.heads.items b → Chain Link (λ p. IsUpTo p q) a b
        heads c a b here a_in b_in = elim (cases_eq a b) [
          | inl e ↦ subst (Chain Link (λ p. IsUpTo p q) a) e (itself a)
          | inr ne ↦ linked a b b q (inr refl) (inl (record { place = left.place; of_stage = c; here = here; path_here = left.path_here; several = several c a b a_in b_in ne; left = a_in; right = b_in })) (itself b)
        ]
          where
            several : (c : Classes) (a b : ℕ) → Contains c.heads.items a → Contains c.heads.items b → a ≢ b → AreSeveral c.heads.items
            several c a b a_in b_in ne =
                let at = at_contains c.heads.items a a_in in
                let lt = slice_get_within c.heads.items at.0 a at.1 in
                let first = element c.heads.items 0 (omega arith) in
                elim (cases_eq first.0 a) [
                  | inl e ↦ record { first = first.0; other = b; first_in = first.1; other_in = b_in; apart = λ f. ne (sym e ∙ f) }
                  | inr other ↦ record { first = first.0; other = a; first_in = first.1; other_in = a_in; apart = other }
                ]

    follows : (q : List ℕ) (a b k : ℕ) → Link q a b → KidsAt (kids_of_place s) (In (q ++ k ∷ [])) a b k
    follows q a b k j =
        let count = is.count in
        let within = slice_get_within classes j.place j.of_stage j.here in
        let st = element stages j.place (omega arith) in
        either (is.done j.place j.of_stage st.0 q j.here st.1 j.path_here).kids
      where
        either : AreOne j.of_stage.heads.items ⊎ ((a b k : ℕ) → Contains j.of_stage.heads.items a → Contains j.of_stage.heads.items b → KidsAt (kids_of_place s) (In (q ++ k ∷ [])) a b k) → KidsAt (kids_of_place s) (In (q ++ k ∷ [])) a b k
        either (inr f) = f a b k j.left j.right
        either (inl one) =
            let at = at_contains j.of_stage.heads.items j.several.other j.several.other_in in
            absurd (j.several.apart (one 0 at.0 j.several.first j.several.other j.several.first_in at.1))

    pub are_done : AreDone (kids_of_place s) (number_at s) In Link until
    are_done = record { level = level; joined = joined; follows = follows }

  root_in : (stage : Stage) (a : ℕ) → slice_get stages 0 ≡ Some stage → Contains stage.nodes.items a → In [] a
  root_in stage a here among = record { place = 0; stage = stage; here = here; path_here = is.root_path; among = among }

  -- with no stage left, candidates are alike
  pub all_alike : (stage : Stage) → slice_get stages 0 ≡ Some stage → length stages ≤ length classes → NeverDiffer s stage.nodes.items
  all_alike stage here over q a b left right =
      let sizes = is.sizes in
      roots_alike (kids_of_place s) (number_at s) In Link (0 ∷ q)
      (are_done (0 ∷ q) (λ i p e before. let lt = slice_get_within is.paths i p e in omega arith))
      q a b (inl (omega arith)) (root_in stage a here left) (root_in stage b here right)

  module _ (stage : Stage) (here : slice_get stages 0 ≡ Some stage) (last : Stage) (last_here : slice_get stages (length classes) ≡ Some last) where
    end_path : (p : List ℕ) × (slice_get is.paths (length classes) ≡ Some p)
    end_path = let sizes = is.sizes in let lt = slice_get_within stages (length classes) last last_here in element is.paths (length classes) (omega arith)

    until : List ℕ
    until = end_path.0

    until_here : slice_get is.paths (length classes) ≡ Some until
    unfolding until
    until_here = end_path.1

    front : (i : ℕ) (p : List ℕ) → slice_get is.paths i ≡ Some p → IsBefore p until → i < length classes
    front i p e before = elim (cases_lt i (length classes)) [
      | inl lt ↦ lt
      | inr le ↦ elim (cases_eq i (length classes)) [
        | inl same ↦ absurd (before_itself until (subst (λ (r : List ℕ). IsBefore r until) (same_Some p until (sym e ∙ ap (slice_get is.paths) same ∙ until_here)) before))
        | inr other ↦ absurd (before_itself until (before_twice (is.rise (length classes) i until p (omega arith) until_here e) before))
      ]
    ]
      where
        before_twice : IsBefore until p → IsBefore p until → IsBefore until until
        before_twice left right = before_trans until p until left right

    done : AreDone (kids_of_place s) (number_at s) In Link until
    done = are_done until front

    abbrev Shown : List ℕ → ℕ → ℕ → Type 0
    Shown = Shows (kids_of_place s) (number_at s) In Link until done

    -- a trace from the node that a candidate led to ends at that candidate's row
    traced : (a i j node : ℕ) → Trace stages classes (length classes) i j node → (st : Stage) (p : List ℕ) (x : ℕ) → slice_get stages i ≡ Some st → slice_get is.paths i ≡ Some p → slice_get st.nodes.items j ≡ Some x → Shown p a x → number_along s a until ≡ Some (number_at s node)
    traced a i j node (ends m k v t at t_here t_node) st p x st_here p_here x_here shown =
        let same : st ≡ t = same_Some st t (sym st_here ∙ ap (slice_get stages) at ∙ t_here) in
        let is_node : x ≡ v = same_Some x v (sym x_here ∙ ap (λ (z : Stage). slice_get z.nodes.items k) same ∙ t_node) in
        let is_path : p ≡ until = same_Some p until (sym p_here ∙ ap (slice_get is.paths) at ∙ until_here) in
        shows_end (kids_of_place s) (number_at s) In Link until done a v (subst (λ (q : List ℕ). Shown q a v) is_path (subst (Shown p a) is_node shown))
    traced a i j node (back from m k slot v t c from_is pos t_here c_here slot_here rest) st p x st_here p_here x_here shown =
        let sizes = is.sizes in
        let lt = slice_get_within stages m t t_here in
        let q = element is.paths m (omega arith) in
        let f = is.from m t q.0 pos t_here q.1 in
        let is_path : f.front ≡ p = same_Some f.front p (sym f.front_here ∙ ap (slice_get is.paths) from_is ∙ p_here) in
        let is_class : f.of_front ≡ c = same_Some f.of_front c (sym f.classes_here ∙ ap (slice_get classes) from_is ∙ c_here) in
        let o = (is.done from c st p c_here st_here p_here).class k x x_here in
        let is_slot : o.slot ≡ slot = same_Some o.slot slot (sym o.at ∙ slot_here) in
        let y = f.kids.each o.slot o.head (ap (λ (d : Classes). slice_get d.heads.items o.slot) is_class ∙ o.there) in
        let long : q.0 ≡ p ++ t.kid ∷ [] = f.is_path ∙ ap (λ (r : List ℕ). r ++ t.kid ∷ []) is_path in
        let more : Shown (p ++ t.kid ∷ []) a y.0 = shows_kid (kids_of_place s) (number_at s) In Link until done p a x o.head t.kid y.0 shown o.chain y.1 in
        traced a m slot v rest t q.0 y.0 t_here q.1 (ap (slice_get t.nodes.items) (sym is_slot) ∙ y.2) (subst (λ (r : List ℕ). Shown r a y.0) (sym long) more)

    candidate_row : (j a node : ℕ) → slice_get stage.nodes.items j ≡ Some a → Trace stages classes (length classes) 0 j node → number_along s a until ≡ Some (number_at s node)
    candidate_row j a node at trace = traced a 0 j node trace stage [] a here is.root_path at (shows_root (kids_of_place s) (number_at s) In Link until done a)

    -- each node of a stage is reached from a candidate
    reached : (fuel i : ℕ) (st : Stage) (k node : ℕ) → i < fuel → slice_get stages i ≡ Some st → k < length st.nodes.items → Trace stages classes (length classes) i k node →
        (j : ℕ) × (j < length stage.nodes.items) × Trace stages classes (length classes) 0 j node
    reached zero i st k node lt st_here within trace = absurd (omega arith)
    reached (suc fuel) i st k node lt st_here within trace = elim (cases_eq i 0) [
      | inl e ↦
          let same : st ≡ stage = same_Some st stage (sym st_here ∙ ap (slice_get stages) e ∙ here) in
          let size : length st.nodes.items ≡ length stage.nodes.items = ap (λ (t : Stage). length t.nodes.items) same in
          (k, omega arith, subst (λ (m : ℕ). Trace stages classes (length classes) m k node) e trace)
      | inr ne ↦
          let sizes = is.sizes in
          let st_in = slice_get_within stages i st st_here in
          let p = element is.paths i (omega arith) in
          let pos : 0 < i = omega arith in
          let f = is.from i st p.0 pos st_here p.1 in
          let count = f.kids.count in
          let h = element f.of_front.heads.items k (omega arith) in
          let before = f.before in
          let parent = element stages st.from (omega arith) in
          let d = is.done st.from f.of_front parent.0 f.front f.classes_here parent.1 f.front_here in
          let j = d.node k h.0 h.1 in
          let slots = d.count in
          let j_in = slice_get_within f.of_front.slots.items j.0 k j.1 in
          reached fuel st.from parent.0 j.0 node (omega arith) parent.1 (omega arith) (back st.from i j.0 k node st f.of_front refl pos st_here f.classes_here j.1 trace)
    ]

    row_of : (rows : List ℕ) → AreTraced s stages classes (length classes) 0 rows → (j a : ℕ) → slice_get stage.nodes.items j ≡ Some a → number_along s a until ≡ slice_get rows j
    row_of rows are j a at =
        let count = are.count stage here in
        let lt = slice_get_within stage.nodes.items j a at in
        let t = are.each j (omega arith) in
        candidate_row j a t.node at t.trace ∙ sym t.row

    pub are_apart : (rows : List ℕ) → AreTraced s stages classes (length classes) 0 rows → AreUneven s last.nodes.items → AreRowsApart s stage.nodes.items rows
    are_apart rows are (j, k, x, y, j_here, k_here, apart) =
        let a = place j x j_here in
        let b = place k y k_here in
        record {
          path = until;
          count = are.count stage here;
          at_path = row_of rows are;
          differ = (a.0, b.0, number_at s x, number_at s y, a.1, b.1, apart);
          alike = λ q before c d left right. roots_alike (kids_of_place s) (number_at s) In Link until done q c d before (root_in stage c here left) (root_in stage d here right);
        }
      where
        place : (k x : ℕ) → slice_get last.nodes.items k ≡ Some x → (j : ℕ) × (slice_get rows j ≡ Some (number_at s x))
        place k x e =
            let r = reached (length classes + 1) (length classes) last k x (omega arith) last_here (slice_get_within last.nodes.items k x e) (ends (length classes) k x last refl last_here e) in
            let a = element stage.nodes.items r.0 r.1 in
            (r.0, sym (row_of rows are r.0 a.0 a.1) ∙ candidate_row r.0 a.0 x a.1 r.2)

-- rows of a stage lead to rows of the one from which it comes
pub traced_last : (s : Places) (stages : List Stage) (classes : List Classes) (last : ℕ) (stage : Stage) (rows : List ℕ) → slice_get stages last ≡ Some stage → length rows ≡ length stage.nodes.items →
    ((j x : ℕ) → slice_get stage.nodes.items j ≡ Some x → slice_get rows j ≡ Some (number_at s x)) → AreTraced s stages classes last last rows
traced_last s stages classes last stage rows here count each = record {
  count = λ st e. count ∙ ap (λ (t : Stage). length t.nodes.items) (same_Some stage st (sym here ∙ e));
  each = λ j lt. let x = element stage.nodes.items j (omega arith) in record { node = x.0; trace = ends last j x.0 stage refl here x.1; row = each j x.0 x.1 };
}

pub slots_in : (s : Places) (stages : List Stage) (classes : List Classes) (links : List ℕ) (is : IsPathSearch s stages classes links) (last i : ℕ) (stage : Stage) (c : Classes) (rows : List ℕ) → 0 < i → slice_get stages i ≡ Some stage → slice_get classes stage.from ≡ Some c →
    AreTraced s stages classes last i rows → (j slot : ℕ) → slice_get c.slots.items j ≡ Some slot → slot < length rows
slots_in s stages classes links is last i stage c rows pos here c_here are j slot e =
    let sizes = is.sizes in
    let lt = slice_get_within stages i stage here in
    let p = element is.paths i (omega arith) in
    let f = is.from i stage p.0 pos here p.1 in
    let same : f.of_front ≡ c = same_Some f.of_front c (sym f.classes_here ∙ c_here) in
    let before = f.before in
    let parent = element stages stage.from (omega arith) in
    let d = is.done stage.from c parent.0 f.front c_here parent.1 f.front_here in
    let count = d.count in
    let j_in = slice_get_within c.slots.items j slot e in
    let x = element parent.0.nodes.items j (omega arith) in
    let o = d.class j x.0 x.1 in
    let is_slot : o.slot ≡ slot = same_Some o.slot slot (sym o.at ∙ e) in
    let head_in = slice_get_within c.heads.items o.slot o.head o.there in
    let size = f.kids.count in
    let heads : length f.of_front.heads.items ≡ length c.heads.items = ap (λ (d : Classes). length d.heads.items) same in
    let rows_count = are.count stage here in
    omega (arith, is_slot, head_in, size, heads, rows_count)

pub traced_back : (s : Places) (stages : List Stage) (classes : List Classes) (links : List ℕ) (is : IsPathSearch s stages classes links) (last i : ℕ) (stage : Stage) (c : Classes) (rows nearer : List ℕ) → 0 < i → slice_get stages i ≡ Some stage → slice_get classes stage.from ≡ Some c →
    AreTraced s stages classes last i rows → length nearer ≡ length c.slots.items → ((j slot : ℕ) → slice_get c.slots.items j ≡ Some slot → slice_get nearer j ≡ slice_get rows slot) → AreTraced s stages classes last stage.from nearer
traced_back s stages classes links is last i stage c rows nearer pos here c_here are size each = record { count = count; each = traced }
  where
    count : (st : Stage) → slice_get stages stage.from ≡ Some st → length nearer ≡ length st.nodes.items
    count st e =
        let sizes = is.sizes in
        let lt = slice_get_within stages i stage here in
        let p = element is.paths i (omega arith) in
        let f = is.from i stage p.0 pos here p.1 in
        let d = is.done stage.from c st f.front c_here e f.front_here in
        size ∙ d.count

    traced : (j : ℕ) → j < length nearer → HasTrace s stages classes last stage.from j nearer
    traced j lt =
        let slot = element c.slots.items j (omega arith) in
        let t = are.each slot.0 (slots_in s stages classes links is last i stage c rows pos here c_here are j slot.0 slot.1) in
        record { node = t.node; trace = back stage.from i j slot.0 t.node stage c refl pos here c_here slot.1 t.trace; row = each j slot.0 slot.1 ∙ t.row }

-- the rows of the last stage
pub rows_traced : (s : Places) (stages : List Stage) (classes : List Classes) (last : ℕ) (stage : Stage) (nodes rows : List ℕ) → slice_get stages last ≡ Some stage → nodes ≡ stage.nodes.items → rows ≡ map (number_at s) nodes → AreTraced s stages classes last last rows
rows_traced s stages classes last stage nodes rows here are is =
    let rows_are : rows ≡ map (number_at s) stage.nodes.items = is ∙ ap (map (number_at s)) are in
    traced_last s stages classes last stage rows here (ap length rows_are ∙ length-map stage.nodes.items (number_at s))
    (λ j x e. ap (λ xs. slice_get xs j) rows_are ∙ slice_get-map (number_at s) stage.nodes.items j ∙ ap (option_map (number_at s)) e)

-- a stage comes from one that is done
pub from_in : (s : Places) (stages : List Stage) (classes : List Classes) (links : List ℕ) → IsPathSearch s stages classes links → (i : ℕ) (stage : Stage) → 0 < i → slice_get stages i ≡ Some stage → (stage.from < length classes) × (stage.from < i)
from_in s stages classes links is i stage pos here =
    let sizes = is.sizes in
    let lt = slice_get_within stages i stage here in
    let p = element is.paths i (omega arith) in
    let f = is.from i stage p.0 pos here p.1 in
    (slice_get_within classes stage.from f.of_front f.classes_here, f.before)

pub all_slots_in : (s : Places) (stages : List Stage) (classes : List Classes) (links : List ℕ) (is : IsPathSearch s stages classes links) (last i : ℕ) (stage : Stage) (c : Classes) (rows slots rows_now : List ℕ) → 0 < i → slice_get stages i ≡ Some stage → slice_get classes stage.from ≡ Some c →
    AreTraced s stages classes last i rows → slots ≡ c.slots.items → rows_now ≡ rows → All (λ slot. slot < length rows_now) slots
all_slots_in s stages classes links is last i stage c rows slots rows_now pos here c_here are slots_are rows_are =
    All-from_gets (λ slot. slot < length rows_now) slots
    (λ j slot e. let h = slots_in s stages classes links is last i stage c rows pos here c_here are j slot (ap (λ xs. slice_get xs j) (sym slots_are) ∙ e) in let same = ap length rows_are in omega arith)

pub rows_nearer : (s : Places) (stages : List Stage) (classes : List Classes) (links : List ℕ) (is : IsPathSearch s stages classes links) (last i : ℕ) (stage : Stage) (c : Classes) (rows slots rows_now nearer : List ℕ) → 0 < i → slice_get stages i ≡ Some stage → slice_get classes stage.from ≡ Some c →
    AreTraced s stages classes last i rows → slots ≡ c.slots.items → rows_now ≡ rows → nearer ≡ map (λ slot. slice_index_or rows_now slot 0) slots → AreTraced s stages classes last stage.from nearer
rows_nearer s stages classes links is last i stage c rows slots rows_now nearer pos here c_here are slots_are rows_are is_map =
    let f : ℕ → ℕ = λ slot. slice_index_or rows slot 0 in
    let near : nearer ≡ map f c.slots.items = is_map ∙ ap (λ xs. map (λ slot. slice_index_or xs slot 0) slots) rows_are ∙ ap (map f) slots_are in
    traced_back s stages classes links is last i stage c rows nearer pos here c_here are (ap length near ∙ length-map c.slots.items f)
    (λ j slot e.
    ap (λ xs. slice_get xs j) near ∙ slice_get-map f c.slots.items j ∙ ap (option_map f) e
    ∙ sym (slice_get-get_or rows slot 0 (slots_in s stages classes links is last i stage c rows pos here c_here are j slot e)))
