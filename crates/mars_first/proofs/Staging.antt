-- A search stays one where a stage is done: its classes go last, and the stages of their kids.
use Rattle.std.proofs.Common.{◌≡◌, ◌⊎◌, ℕ, zero, suc, ◌<◌, ◌≤◌, ◌+◌, ◌*◌, List, [], ◌∷◌, ◌++◌, length, Some, None, slice_get, length-append, refl, sym, ap, ◌∙◌, subst, arith, inl, inr, Contains, append_assoc, append-nil, get_or, All, slice_index_or, unwrap_or}
use Rattle.std.specs.Option.{option_map}
use Rattle.std.proofs.lemmas.Bool.{cases_eq, cases_lt}
use Rattle.std.proofs.lemmas.List.Sums.{get_or-le-sum_by}
use Rattle.std.proofs.Math.Nat.{mul-le-mul_left}
use Rattle.std.proofs.lemmas.Option.{same_Some, slice_get_within, slice_get_read, slice_get-get_or, get_or_from_slice_get}
use Rattle.mars_reach.proofs.Numbers.{at_contains, contains_at, All-slice_get}
use Rattle.mars_comp.proofs.Gets.{get_front, get_one, get_last, get_split, get_behind, IsBehind}
use Rattle.mars_first.specs.First.{IsLess, IsBefore}
use Rattle.mars_first.specs.LinksInside.{link_of, IsFalling, LeadsTo, stay, onward, AreClasses, AreSeveral, AreOne, AreKeptLinks, IsJoining}
use Rattle.mars_first.specs.PlacesInside.{kids_of_place, number_at, ArePlaces}
use Rattle.mars_first.specs.StagesInside.{KidsAt, no_kid, both, Chain, itself, linked, InStage, AreJoined, IsDone, AreKids, IsFrom, IsPathSearch, AreLevel, IsKidStage, AreKidStages, HasKidStages, AreOwn, IsFirstStage, all_kids_at, search_work}
use Rattle.mars_first.specs.declared.places.Places.{Places}
use Rattle.mars_first.specs.declared.links.Classes.{Classes}
use Rattle.mars_first.specs.declared.stages.Stage.{Stage}
use Rattle.mars_first.proofs.Linking.{leads_in}

pub element : {A : Type 0} (xs : List A) (k : ℕ) → k < length xs → (x : A) × (slice_get xs k ≡ Some x)
element [] k lt = absurd (omega arith)
element (x ∷ xs) zero lt = (x, refl)
element (x ∷ xs) (suc k) lt = element xs k (omega arith)

get_none : {A : Type 0} (xs : List A) (k : ℕ) → length xs ≤ k → slice_get xs k ≡ None
get_none [] k le = refl
get_none (x ∷ xs) zero le = absurd (omega arith)
get_none (x ∷ xs) (suc k) le = get_none xs k (omega arith)

-- chains
pub chain_on : (L : List ℕ → ℕ → ℕ → Type 0) (B : List ℕ → Type 0) (x y z : ℕ) → Chain L B x y → Chain L B y z → Chain L B x z
chain_on L B x y z (itself a) rest = rest
chain_on L B x y z (linked a b c p bound link more) rest = linked a b z p bound link (chain_on L B b y z more rest)

pub chain_turned : (L : List ℕ → ℕ → ℕ → Type 0) (B : List ℕ → Type 0) (x y : ℕ) → Chain L B x y → Chain L B y x
chain_turned L B x y (itself a) = itself a
chain_turned L B x y (linked a b c p bound link more) = chain_on L B y b a (chain_turned L B b y more) (linked b a a p bound (turn link) (itself a))
  where
    turn : L p a b ⊎ L p b a → L p b a ⊎ L p a b
    turn (inl l) = inr l
    turn (inr l) = inl l

pub chain_map : (L M : List ℕ → ℕ → ℕ → Type 0) (B C : List ℕ → Type 0) → ((p : List ℕ) (a b : ℕ) → L p a b → M p a b) → ((p : List ℕ) (a b : ℕ) → L p a b → B p → C p) → (x y : ℕ) → Chain L B x y → Chain M C x y
chain_map L M B C f g x y (itself a) = itself a
chain_map L M B C f g x y (linked a b c p bound link more) = linked a b y p (bounded link) (turn link) (chain_map L M B C f g b y more)
  where
    turn : L p a b ⊎ L p b a → M p a b ⊎ M p b a
    turn (inl l) = inl (f p a b l)
    turn (inr l) = inr (f p b a l)

    bounded : L p a b ⊎ L p b a → C p
    bounded (inl l) = g p a b l bound
    bounded (inr l) = g p b a l bound

leads_chain : (L : List ℕ → ℕ → ℕ → Type 0) (B : List ℕ → Type 0) (links : List ℕ) → ((x : ℕ) → x < length links → Chain L B x (link_of links x)) → (x y : ℕ) → LeadsTo links x y → Chain L B x y
leads_chain L B links f x y (stay a) = itself a
leads_chain L B links f x y (onward a b lt rest) = chain_on L B a (link_of links a) y (f a lt) (leads_chain L B links f (link_of links a) y rest)

leads_number : (f : ℕ → ℕ) (links : List ℕ) → ((x : ℕ) → x < length links → f (link_of links x) ≡ f x) → (x y : ℕ) → LeadsTo links x y → f y ≡ f x
leads_number f links kept x y (stay a) = refl
leads_number f links kept x y (onward a b lt rest) = leads_number f links kept (link_of links a) y rest ∙ kept a lt

-- the order of paths
less_itself : (p : List ℕ) → IsLess p p → ⊥
less_itself [] e = e
less_itself (k ∷ p) (inl lt) = absurd (omega arith)
less_itself (k ∷ p) (inr (e, less)) = less_itself p less

pub before_itself : (p : List ℕ) → IsBefore p p → ⊥
before_itself p (inl lt) = absurd (omega arith)
before_itself p (inr (e, less)) = less_itself p less

less_more : (p q : List ℕ) (j k : ℕ) → IsLess p q → IsLess (p ++ j ∷ []) (q ++ k ∷ [])
less_more [] q j k e = absurd e
less_more (i ∷ p) [] j k e = absurd e
less_more (i ∷ p) (l ∷ q) j k e = either e (less_more p q j k)
  where
    either : (i < l) ⊎ ((i ≡ l) × IsLess p q) → (IsLess p q → IsLess (p ++ j ∷ []) (q ++ k ∷ [])) → (i < l) ⊎ ((i ≡ l) × IsLess (p ++ j ∷ []) (q ++ k ∷ []))
    either (inl lt) rest = inl lt
    either (inr (same, less)) rest = inr (same, rest less)

before_more : (p q : List ℕ) (j k : ℕ) → IsBefore p q → IsBefore (p ++ j ∷ []) (q ++ k ∷ [])
before_more p q j k (inl lt) = let a = length-append p (j ∷ []) in let b = length-append q (k ∷ []) in inl (omega (arith, lt, a, b))
before_more p q j k (inr (e, less)) = let a = length-append p (j ∷ []) in let b = length-append q (k ∷ []) in inr (omega (arith, e, a, b), less_more p q j k less)

less_last : (q : List ℕ) (j k : ℕ) → j < k → IsLess (q ++ j ∷ []) (q ++ k ∷ [])
less_last [] j k lt = inl lt
less_last (i ∷ q) j k lt = inr (refl, less_last q j k lt)

before_last : (q : List ℕ) (j k : ℕ) → j < k → IsBefore (q ++ j ∷ []) (q ++ k ∷ [])
before_last q j k lt = let a = length-append q (j ∷ []) in let b = length-append q (k ∷ []) in inr (omega (arith, a, b), less_last q j k lt)

root_before : (q : List ℕ) (k : ℕ) → IsBefore [] (q ++ k ∷ [])
root_before q k = let a = length-append q (k ∷ []) in inl (omega (arith, a))

-- a path with each number after it
kid_paths : List ℕ → ℕ → ℕ → List (List ℕ)
kid_paths path from zero = []
kid_paths path from (suc n) = (path ++ from ∷ []) ∷ kid_paths path (suc from) n

kid_paths_count : (path : List ℕ) (from n : ℕ) → length (kid_paths path from n) ≡ n
unfolding kid_paths
kid_paths_count path from zero = refl
kid_paths_count path from (suc n) = let e = kid_paths_count path (suc from) n in omega (arith, e)

kid_paths_get : (path : List ℕ) (from n k : ℕ) (p : List ℕ) → slice_get (kid_paths path from n) k ≡ Some p → p ≡ path ++ (from + k) ∷ []
unfolding kid_paths
kid_paths_get path from zero k p e = absurd cc
kid_paths_get path from (suc n) zero p e = let f = same_Some (path ++ from ∷ []) p e in let z : from ≡ from + 0 = omega arith in sym f ∙ ap (λ (i : ℕ). path ++ i ∷ []) z
kid_paths_get path from (suc n) (suc k) p e = let z : suc from + k ≡ from + suc k = omega arith in kid_paths_get path (suc from) n k p e ∙ ap (λ (i : ℕ). path ++ i ∷ []) z

kid_paths_at : (path : List ℕ) (from n k : ℕ) → k < n → slice_get (kid_paths path from n) k ≡ Some (path ++ (from + k) ∷ [])
unfolding kid_paths
kid_paths_at path from zero k lt = absurd (omega arith)
kid_paths_at path from (suc n) zero lt = let z : from ≡ from + 0 = omega arith in ap (λ (i : ℕ). Some (path ++ i ∷ [])) z
kid_paths_at path from (suc n) (suc k) lt = let z : suc from + k ≡ from + suc k = omega arith in kid_paths_at path (suc from) n k (omega arith) ∙ ap (λ (i : ℕ). Some (path ++ i ∷ [])) z

module _ (s : Places) (stages : List Stage) (classes : List Classes) (links : List ℕ) (is : IsPathSearch s stages classes links)
    (stage : Stage) (here : slice_get stages (length classes) ≡ Some stage) (level : AreLevel s stage.nodes.items)
    (c : Classes) (are : AreClasses links stage.nodes.items c.heads.items c.slots.items) where
  -- the number of each head is that of the stage's nodes
  pub head_number : (a b : ℕ) → Contains c.heads.items a → Contains c.heads.items b → number_at s a ≡ number_at s b
  head_number a b left right =
      let i = at_contains c.heads.items a left in
      let j = at_contains c.heads.items b right in
      let x = are.node i.0 a i.1 in
      let y = are.node j.0 b j.1 in
      leads_number (number_at s) links is.numbers x.node a x.leads
      ∙ level x.node y.node (contains_at stage.nodes.items x.place x.node x.there) (contains_at stage.nodes.items y.place y.node y.there)
      ∙ sym (leads_number (number_at s) links is.numbers y.node b y.leads)

  pub head_in : (k a : ℕ) → slice_get c.heads.items k ≡ Some a → a < length s.numbers.items
  head_in k a e =
      let x = are.node k a e in
      let size = is.size in
      let x_in = is.nodes_in (length classes) x.place x.node stage here x.there in
      let lt = leads_in links x.node a is.falling (omega (arith, size, x_in)) x.leads in
      omega (arith, size, lt)

-- how the links go on: as they led, or from head to head
pub record AreLinksOn (old heads new : List ℕ) : Type 0 where
  pub size : length new ≡ length old
  pub falling : IsFalling new
  pub leads : (x : ℕ) → x < length old → LeadsTo old x (link_of new x) ⊎ (AreSeveral heads × Contains heads x × Contains heads (link_of new x))

-- the stages of the kids of heads, all of them where the heads are several
abbrev pub AreAllKids : Places → List ℕ → ℕ → Type 0
AreAllKids s heads count = AreOne heads ⊎ (AreSeveral heads × ((head : ℕ) → Contains heads head → length (kids_of_place s head) ≡ count))

module _ (s : Places) (places : ArePlaces s) (stages : List Stage) (classes : List Classes) (links : List ℕ) (is : IsPathSearch s stages classes links)
    (stage : Stage) (here : slice_get stages (length classes) ≡ Some stage) (level : AreLevel s stage.nodes.items)
    (c : Classes) (are : AreClasses links stage.nodes.items c.heads.items c.slots.items)
    (more : List Stage) (kids : AreKidStages s (length classes) c.heads.items more) (all : AreAllKids s c.heads.items (length more))
    (next : List ℕ) (on : AreLinksOn links c.heads.items next) where
  n : ℕ
  n = length classes

  at_path : (p : List ℕ) × (slice_get is.paths (length classes) ≡ Some p)
  at_path = let sizes = is.sizes in let lt = slice_get_within stages (length classes) stage here in element is.paths (length classes) (omega arith)

  path : List ℕ
  path = at_path.0

  path_here : slice_get is.paths (length classes) ≡ Some path
  unfolding path
  path_here = at_path.1

  heads : List ℕ
  heads = c.heads.items

  abbrev paths : List (List ℕ)
  paths = is.paths ++ kid_paths path 0 (length more)

  abbrev Old : List ℕ → ℕ → ℕ → Type 0
  Old = AreJoined is.paths classes

  abbrev New : List ℕ → ℕ → ℕ → Type 0
  New = AreJoined paths (classes ++ c ∷ [])

  keep : (p : List ℕ) (a b : ℕ) → Old p a b → New p a b
  keep p a b j = record {
    place = j.place;
    of_stage = j.of_stage;
    here = get_front classes (c ∷ []) j.place j.of_stage j.here;
    path_here = get_front is.paths (kid_paths path 0 (length more)) j.place p j.path_here;
    several = j.several;
    left = j.left;
    right = j.right;
  }

  before_path : (p : List ℕ) (a b : ℕ) → Old p a b → IsBefore p path
  before_path p a b j = is.rise j.place (length classes) p path (slice_get_within classes j.place j.of_stage j.here) j.path_here path_here

  node_chain : (x y : ℕ) → LeadsTo links x y → Chain New (λ p. IsBefore p path) x y
  node_chain x y leads = chain_map Old New (λ p. Unit {0}) (λ p. IsBefore p path) keep (λ p a b j u. before_path p a b j) x y (leads_chain Old (λ p. Unit {0}) links is.chains x y leads)

  joined_here : (a b : ℕ) → AreSeveral c.heads.items → Contains c.heads.items a → Contains c.heads.items b → New path a b
  joined_here a b several left right = record {
    place = length classes;
    of_stage = c;
    here = get_last classes c;
    path_here = get_front is.paths (kid_paths path 0 (length more)) (length classes) path path_here;
    several = several;
    left = left;
    right = right;
  }

  -- each path so far is before the new ones
  before_new : (i k : ℕ) (p : List ℕ) → slice_get is.paths i ≡ Some p → IsBefore p (path ++ k ∷ [])
  before_new i k p e = elim (cases_eq i 0) [
    | inl zeroth ↦ subst (λ (q : List ℕ). IsBefore q (path ++ k ∷ [])) (same_Some [] p (sym is.root_path ∙ ap (slice_get is.paths) (sym zeroth) ∙ e)) (root_before path k)
    | inr other ↦
        let sizes = is.sizes in
        let lt = slice_get_within is.paths i p e in
        let st = element stages i (omega arith) in
        let f = is.from i st.0 p (omega arith) st.1 e in
        let within = slice_get_within classes st.0.from f.of_front f.classes_here in
        let before : IsBefore f.front path = is.rise st.0.from (length classes) f.front path within f.front_here path_here in
        subst (λ (q : List ℕ). IsBefore q (path ++ k ∷ [])) (sym f.is_path) (before_more f.front path st.0.kid k before)
  ]

  rise : (i j : ℕ) (p q : List ℕ) → i < j → slice_get paths i ≡ Some p → slice_get paths j ≡ Some q → IsBefore p q
  rise i j p q lt e f = elim (get_split is.paths (kid_paths path 0 (length more)) i p e) [
    | inl old ↦ elim (get_split is.paths (kid_paths path 0 (length more)) j q f) [
      | inl also ↦ is.rise i j p q lt old also
      | inr b ↦ subst (IsBefore p) (sym (kid_paths_get path 0 (length more) b.place q b.there)) (before_new i (0 + b.place) p old)
    ]
    | inr a ↦ elim (get_split is.paths (kid_paths path 0 (length more)) j q f) [
      | inl also ↦ let within = slice_get_within is.paths j q also in let from = a.from in absurd (omega arith)
      | inr b ↦
          let from = a.from in
          let behind = b.from in
          subst (λ (r : List ℕ). IsBefore r q) (sym (kid_paths_get path 0 (length more) a.place p a.there))
          (subst (IsBefore (path ++ (0 + a.place) ∷ [])) (sym (kid_paths_get path 0 (length more) b.place q b.there)) (before_last path (0 + a.place) (0 + b.place) (omega arith)))
    ]
  ]

  -- a new stage
  record IsNew (i : ℕ) (st : Stage) : Type 0 where
    pub place : ℕ
    pub from : i ≡ length stages + place
    pub is_kid : IsKidStage s (length classes) place c.heads.items st
    pub there : slice_get more place ≡ Some st

  which : (i : ℕ) (st : Stage) → slice_get (stages ++ more) i ≡ Some st → (slice_get stages i ≡ Some st) ⊎ IsNew i st
  which i st e = elim (get_split stages more i st e) [
    | inl old ↦ inl old
    | inr b ↦ inr (record { place = b.place; from = b.from; is_kid = kids b.place st b.there; there = b.there })
  ]

  nodes_in : (i k x : ℕ) (st : Stage) → slice_get (stages ++ more) i ≡ Some st → slice_get st.nodes.items k ≡ Some x → x < length s.numbers.items
  nodes_in i k x st e f = elim (which i st e) [
    | inl old ↦ is.nodes_in i k x st old f
    | inr w ↦
        let ks = w.is_kid.kids in
        let count = ks.count in
        let lt = slice_get_within st.nodes.items k x f in
        let h = element c.heads.items k (omega arith) in
        let y = ks.each k h.0 h.1 in
        let same : y.0 ≡ x = same_Some y.0 x (sym y.2 ∙ f) in
        let lower = All-slice_get (λ (z : ℕ). z < length s.numbers.items) (kids_of_place s h.0) w.place y.0 (places.kids_in h.0 (head_in s stages classes links is stage here level c are k h.0 h.1)) y.1 in
        omega (arith, same, lower)
  ]

  some : (i : ℕ) (st : Stage) → slice_get (stages ++ more) i ≡ Some st → 0 < length st.nodes.items
  some i st e = elim (which i st e) [
    | inl old ↦ is.some i st old
    | inr w ↦
        let full = is.some (length classes) stage here in
        let x = element stage.nodes.items 0 full in
        let h = are.class 0 x.0 x.1 in
        let lt = slice_get_within c.heads.items h.slot h.head h.there in
        let count = w.is_kid.kids.count in
        omega arith
  ]

  from : (i : ℕ) (st : Stage) (p : List ℕ) → 0 < i → slice_get (stages ++ more) i ≡ Some st → slice_get paths i ≡ Some p → IsFrom s paths (classes ++ c ∷ []) i st p
  from i st p pos e f = elim (which i st e) [
    | inl old ↦ of_old old (get_split is.paths (kid_paths path 0 (length more)) i p f)
    | inr w ↦ of_new w (get_split is.paths (kid_paths path 0 (length more)) i p f)
  ]
    where
      of_old : slice_get stages i ≡ Some st → (slice_get is.paths i ≡ Some p) ⊎ IsBehind is.paths (kid_paths path 0 (length more)) i p → IsFrom s paths (classes ++ c ∷ []) i st p
      of_old old (inr b) = let sizes = is.sizes in let at = b.from in let lt = slice_get_within stages i st old in absurd (omega arith)
      of_old old (inl there) =
          let g = is.from i st p pos old there in
          record {
            front = g.front;
            of_front = g.of_front;
            before = g.before;
            front_here = get_front is.paths (kid_paths path 0 (length more)) st.from g.front g.front_here;
            classes_here = get_front classes (c ∷ []) st.from g.of_front g.classes_here;
            is_path = g.is_path;
            kids = g.kids;
          }

      of_new : IsNew i st → (slice_get is.paths i ≡ Some p) ⊎ IsBehind is.paths (kid_paths path 0 (length more)) i p → IsFrom s paths (classes ++ c ∷ []) i st p
      of_new w (inl there) = let sizes = is.sizes in let at = w.from in let lt = slice_get_within is.paths i p there in absurd (omega arith)
      of_new w (inr b) =
          let kid = w.is_kid in
          let sizes = is.sizes in
          let at = w.from in
          let behind = b.from in
          let one : 0 + b.place ≡ w.place = omega arith in
          record {
            front = path;
            of_front = c;
            before = let is_from = kid.from_is in let lt = slice_get_within stages (length classes) stage here in omega arith;
            front_here = ap (slice_get paths) kid.from_is ∙ get_front is.paths (kid_paths path 0 (length more)) (length classes) path path_here;
            classes_here = ap (slice_get (classes ++ c ∷ [])) kid.from_is ∙ get_last classes c;
            is_path = kid_paths_get path 0 (length more) b.place p b.there ∙ ap (λ (z : ℕ). path ++ z ∷ []) (one ∙ sym kid.kid_is);
            kids = subst (λ (z : ℕ). AreKids s z c.heads.items st.nodes.items) (sym kid.kid_is) kid.kids;
          }

  stays : (q : List ℕ) (x : ℕ) → InStage is.paths stages q x → InStage paths (stages ++ more) q x
  stays q x w = record {
    place = w.place;
    stage = w.stage;
    here = get_front stages more w.place w.stage w.here;
    path_here = get_front is.paths (kid_paths path 0 (length more)) w.place q w.path_here;
    among = w.among;
  }

  kids_stay : (q : List ℕ) (a b k : ℕ) → KidsAt (kids_of_place s) (InStage is.paths stages q) a b k → KidsAt (kids_of_place s) (InStage paths (stages ++ more) q) a b k
  kids_stay q a b k (no_kid e f) = no_kid e f
  kids_stay q a b k (both x y e f left right) = both x y e f (stays q x left) (stays q y right)

  done_stays : (d : Classes) (st : Stage) (p : List ℕ) → IsDone s is.paths stages classes st d p → IsDone s paths (stages ++ more) (classes ++ c ∷ []) st d p
  done_stays d st p w = record {
    level = w.level;
    count = w.count;
    class = λ j x e. let o = w.class j x e in record { slot = o.slot; head = o.head; at = o.at; there = o.there; chain = chain_map Old New (λ q. IsBefore q p) (λ q. IsBefore q p) keep (λ q a b l lt. lt) x o.head o.chain };
    node = w.node;
    kids = kids_of w.kids;
  }
    where
      kids_of : AreOne d.heads.items ⊎ ((a b k : ℕ) → Contains d.heads.items a → Contains d.heads.items b → KidsAt (kids_of_place s) (InStage is.paths stages (p ++ k ∷ [])) a b k) →
          AreOne d.heads.items ⊎ ((a b k : ℕ) → Contains d.heads.items a → Contains d.heads.items b → KidsAt (kids_of_place s) (InStage paths (stages ++ more) (p ++ k ∷ [])) a b k)
      kids_of (inl one) = inl one
      kids_of (inr f) = inr (λ a b k left right. kids_stay (p ++ k ∷ []) a b k (f a b k left right))

  -- the kid of a head is in a new stage
  in_new : (a k x : ℕ) (st : Stage) → Contains c.heads.items a → slice_get more k ≡ Some st → slice_get (kids_of_place s a) k ≡ Some x → InStage paths (stages ++ more) (path ++ k ∷ []) x
  in_new a k x st left there kid =
      let at = at_contains c.heads.items a left in
      let y = (kids k st there).kids.each at.0 a at.1 in
      let same : y.0 ≡ x = same_Some y.0 x (sym y.1 ∙ kid) in
      let lt = slice_get_within more k st there in
      let sizes = is.sizes in
      record {
        place = length stages + k;
        stage = st;
        here = get_behind stages more k (length stages + k) st refl there;
        path_here = get_behind is.paths (kid_paths path 0 (length more)) k (length stages + k) (path ++ k ∷ []) (omega arith) (kid_paths_at path 0 (length more) k lt ∙ ap (λ (z : ℕ). Some (path ++ z ∷ [])) (omega arith));
        among = subst (Contains st.nodes.items) same (contains_at st.nodes.items at.0 y.0 y.2);
      }

  new_kids : (a b k : ℕ) → ((head : ℕ) → Contains c.heads.items head → length (kids_of_place s head) ≡ length more) → Contains c.heads.items a → Contains c.heads.items b → KidsAt (kids_of_place s) (InStage paths (stages ++ more) (path ++ k ∷ [])) a b k
  new_kids a b k count left right = elim (cases_lt k (length more)) [
    | inr le ↦ let l = count a left in let r = count b right in no_kid (get_none (kids_of_place s a) k (omega arith)) (get_none (kids_of_place s b) k (omega arith))
    | inl lt ↦
        let l = count a left in
        let r = count b right in
        let st = element more k lt in
        let x = element (kids_of_place s a) k (omega arith) in
        let y = element (kids_of_place s b) k (omega arith) in
        both x.0 y.0 x.1 y.1 (in_new a k x.0 st.0 left st.1 x.1) (in_new b k y.0 st.0 right st.1 y.1)
  ]

  done_new : IsDone s paths (stages ++ more) (classes ++ c ∷ []) stage c path
  done_new = record {
    level = level;
    count = are.count;
    class = λ j x e. let h = are.class j x e in record { slot = h.slot; head = h.head; at = h.at; there = h.there; chain = node_chain x h.head h.leads };
    node = λ k head e. let h = are.node k head e in (h.place, h.at);
    kids = kids_of all;
  }
    where
      kids_of : AreAllKids s c.heads.items (length more) → AreOne c.heads.items ⊎ ((a b k : ℕ) → Contains c.heads.items a → Contains c.heads.items b → KidsAt (kids_of_place s) (InStage paths (stages ++ more) (path ++ k ∷ [])) a b k)
      kids_of (inl one) = inl one
      kids_of (inr w) = inr (λ a b k left right. new_kids a b k w.1 left right)

  done : (i : ℕ) (d : Classes) (st : Stage) (p : List ℕ) → slice_get (classes ++ c ∷ []) i ≡ Some d → slice_get (stages ++ more) i ≡ Some st → slice_get paths i ≡ Some p → IsDone s paths (stages ++ more) (classes ++ c ∷ []) st d p
  done i d st p e f g = either (get_one classes c i d e) (get_split stages more i st f) (get_split is.paths (kid_paths path 0 (length more)) i p g)
    where
      lt : i < length stages
      lt = let a = slice_get_within (classes ++ c ∷ []) i d e in let size = length-append classes (c ∷ []) in let b = slice_get_within stages (length classes) stage here in omega (arith, a, size, b)

      either : (slice_get classes i ≡ Some d) ⊎ ((i ≡ length classes) × (c ≡ d)) → (slice_get stages i ≡ Some st) ⊎ IsBehind stages more i st → (slice_get is.paths i ≡ Some p) ⊎ IsBehind is.paths (kid_paths path 0 (length more)) i p → IsDone s paths (stages ++ more) (classes ++ c ∷ []) st d p
      either x (inr b) y = let at = b.from in let within = lt in absurd (omega (arith, at, within))
      either x (inl y) (inr b) = let at = b.from in let within = lt in let sizes = is.sizes in absurd (omega (arith, at, within, sizes))
      either (inl x) (inl y) (inl z) = done_stays d st p (is.done i d st p x y z)
      either (inr (x, same)) (inl y) (inl z) =
          let st_is : stage ≡ st = same_Some stage st (sym here ∙ ap (slice_get stages) (sym x) ∙ y) in
          let p_is : path ≡ p = same_Some path p (sym path_here ∙ ap (slice_get is.paths) (sym x) ∙ z) in
          subst (λ (d : Classes). IsDone s paths (stages ++ more) (classes ++ c ∷ []) st d p) same
          (subst (λ (t : Stage). IsDone s paths (stages ++ more) (classes ++ c ∷ []) t c p) st_is
          (subst (λ (q : List ℕ). IsDone s paths (stages ++ more) (classes ++ c ∷ []) stage c q) p_is done_new))

  link_chain : (x : ℕ) → LeadsTo links x (link_of next x) ⊎ (AreSeveral c.heads.items × Contains c.heads.items x × Contains c.heads.items (link_of next x)) → Chain New (λ p. Unit {0}) x (link_of next x)
  link_chain x (inl leads) = chain_map Old New (λ p. Unit {0}) (λ p. Unit {0}) keep (λ p a b j u. tt) x (link_of next x) (leads_chain Old (λ p. Unit {0}) links is.chains x (link_of next x) leads)
  link_chain x (inr w) = linked x (link_of next x) (link_of next x) path tt (inl (joined_here x (link_of next x) w.0 w.1 w.2)) (itself (link_of next x))

  link_number : (x : ℕ) → LeadsTo links x (link_of next x) ⊎ (AreSeveral c.heads.items × Contains c.heads.items x × Contains c.heads.items (link_of next x)) → number_at s (link_of next x) ≡ number_at s x
  link_number x (inl leads) = leads_number (number_at s) links is.numbers x (link_of next x) leads
  link_number x (inr w) = head_number s stages classes links is stage here level c are (link_of next x) x w.2 w.1

  pub grown : IsPathSearch s (stages ++ more) (classes ++ c ∷ []) next
  grown = record {
    paths = paths;
    sizes = let a = length-append is.paths (kid_paths path 0 (length more)) in let b = length-append stages more in let e = kid_paths_count path 0 (length more) in let f = is.sizes in omega (arith, a, b, e, f);
    count = let a = length-append classes (c ∷ []) in let b = length-append stages more in let lt = slice_get_within stages (length classes) stage here in omega (arith, a, b, lt);
    root_path = get_front is.paths (kid_paths path 0 (length more)) 0 [] is.root_path;
    rise = rise;
    nodes_in = nodes_in;
    some = some;
    from = from;
    done = done;
    size = on.size ∙ is.size;
    falling = on.falling;
    chains = λ x lt. let size = on.size in link_chain x (on.leads x (omega arith));
    numbers = λ x lt. let size = on.size in link_number x (on.leads x (omega arith));
  }

-- kids of one node more
pub kids_more : (s : Places) (kid : ℕ) (nodes kids : List ℕ) (x y : ℕ) → AreKids s kid nodes kids → slice_get (kids_of_place s x) kid ≡ Some y → AreKids s kid (nodes ++ x ∷ []) (kids ++ y ∷ [])
kids_more s kid nodes kids x y are at = record {
  count = let a = length-append nodes (x ∷ []) in let b = length-append kids (y ∷ []) in let e = are.count in omega (arith, a, b, e);
  each = λ l z e. each l z (get_one nodes x l z e);
}
  where
    each : (l z : ℕ) → (slice_get nodes l ≡ Some z) ⊎ ((l ≡ length nodes) × (x ≡ z)) → (w : ℕ) × (slice_get (kids_of_place s z) kid ≡ Some w) × (slice_get (kids ++ y ∷ []) l ≡ Some w)
    each l z (inl e) = let w = are.each l z e in (w.0, w.1, get_front kids (y ∷ []) l w.0 w.2)
    each l z (inr (last, same)) = (y, subst (λ (v : ℕ). slice_get (kids_of_place s v) kid ≡ Some y) same at, ap (slice_get (kids ++ y ∷ [])) (last ∙ sym are.count) ∙ get_last kids y)

pub stages_more : (s : Places) (from : ℕ) (heads : List ℕ) (count : ℕ) (old mid new : List Stage) (stage : Stage) → HasKidStages s from heads count old mid → IsKidStage s from count heads stage → new ≡ mid ++ stage ∷ [] → HasKidStages s from heads (count + 1) old new
stages_more s from heads count old mid new stage has is e = record {
  some = has.some ++ stage ∷ [];
  parts = e ∙ ap (λ (xs : List Stage). xs ++ stage ∷ []) has.parts ∙ append_assoc old has.some (stage ∷ []);
  size = let a = length-append has.some (stage ∷ []) in let f = has.size in omega (arith, a, f);
  are = λ k st f. are k st (get_one has.some stage k st f);
}
  where
    are : (k : ℕ) (st : Stage) → (slice_get has.some k ≡ Some st) ⊎ ((k ≡ length has.some) × (stage ≡ st)) → IsKidStage s from k heads st
    are k st (inl f) = has.are k st f
    are k st (inr (last, same)) = subst (λ (t : Stage). IsKidStage s from k heads t) same (subst (λ (n : ℕ). IsKidStage s from n heads stage) (sym (last ∙ has.size)) is)

-- a search from one stage
pub started : (s : Places) (candidates : List ℕ) (stages : List Stage) (classes : List Classes) (links : List ℕ) → IsFirstStage candidates stages → classes ≡ [] → AreOwn (length s.numbers.items) links → ((k x : ℕ) → slice_get candidates k ≡ Some x → x < length s.numbers.items) → 0 < length candidates →
    IsPathSearch s stages classes links
started s candidates stages classes links first none own within full = record {
  paths = [] ∷ [];
  sizes = sym (ap length first.is);
  count = let e : length classes ≡ 0 = ap length none in omega arith;
  root_path = refl;
  rise = λ i j p q lt e f. let a = slice_get_within ([] ∷ []) j q f in let b : i ≡ 0 = omega arith in absurd (omega (arith, a, lt));
  nodes_in = λ i k x st e f. within k x (ap (λ xs. slice_get xs k) (sym (nodes i st e)) ∙ f);
  some = λ i st e. let n = ap length (nodes i st e) in omega (arith, full, n);
  from = λ i st p pos e f. let a = slice_get_within ([] ∷ []) i p f in absurd (omega (arith, a, pos));
  done = λ i c st p e f g. let a = slice_get_within classes i c e in let b : length classes ≡ 0 = ap length none in absurd (omega (arith, a, b));
  size = own.size;
  falling = λ x lt. let y = element links x lt in let e = own.own x y.0 y.1 in let f : link_of links x ≡ y.0 = get_or_from_slice_get links x y.0 0 y.1 in omega (arith, e, f);
  chains = λ x lt. subst (Chain (AreJoined ([] ∷ []) classes) (λ p. Unit {0}) x) (sym (link_is x lt)) (itself x);
  numbers = λ x lt. ap (number_at s) (link_is x lt);
}
  where
    link_is : (x : ℕ) → x < length links → link_of links x ≡ x
    link_is x lt = let y = element links x lt in get_or_from_slice_get links x y.0 0 y.1 ∙ own.own x y.0 y.1

    nodes : (i : ℕ) (st : Stage) → slice_get stages i ≡ Some st → st.nodes.items ≡ candidates
    nodes i st e = either i (ap (λ xs. slice_get xs i) (sym first.is) ∙ e)
      where
        either : (k : ℕ) → slice_get (first.stage ∷ []) k ≡ Some st → st.nodes.items ≡ candidates
        either zero f = ap (λ (t : Stage). t.nodes.items) (sym (same_Some first.stage st f)) ∙ first.nodes
        either (suc k) f = absurd cc

-- a stage that is read
pub stage_here : (stages : List Stage) (n m : ℕ) (stage : Stage) → n ≡ m → n < length stages → stage ≡ get_or stages n stage → slice_get stages m ≡ Some stage
stage_here stages n m stage same lt read = ap (slice_get stages) (sym same) ∙ slice_get_read stages (length stages) n stage refl lt read

module _ (s : Places) (places : ArePlaces s) (stages : List Stage) (classes : List Classes) (links : List ℕ) (is : IsPathSearch s stages classes links)
    (stage : Stage) (here : slice_get stages (length classes) ≡ Some stage) (level : AreLevel s stage.nodes.items)
    (c : Classes) (are : AreClasses links stage.nodes.items c.heads.items c.slots.items) where
  pub heads_in : All (λ x. x < length s.kids.items) c.heads.items
  heads_in k d lt =
      let at = slice_get-get_or c.heads.items k d lt in
      let size = places.size in
      let h = head_in s stages classes links is stage here level c are k (slice_index_or c.heads.items k d) at in
      omega arith

  pub heads_wide : (a b : ℕ) → Contains c.heads.items a → Contains c.heads.items b → length (kids_of_place s a) ≡ length (kids_of_place s b)
  heads_wide a b left right =
      let i = at_contains c.heads.items a left in
      let j = at_contains c.heads.items b right in
      places.alike a b (head_in s stages classes links is stage here level c are i.0 a i.1) (head_in s stages classes links is stage here level c are j.0 b j.1)
      (head_number s stages classes links is stage here level c are a b left right)

  pub all_wide : All (λ x. length (kids_of_place s x) ≡ length (kids_of_place s (slice_index_or c.heads.items 0 0))) c.heads.items
  all_wide k d lt =
      let at = slice_get-get_or c.heads.items k d lt in
      let first = slice_get-get_or c.heads.items 0 0 (omega arith) in
      heads_wide (slice_index_or c.heads.items k d) (slice_index_or c.heads.items 0 0) (contains_at c.heads.items k (slice_index_or c.heads.items k d) at) (contains_at c.heads.items 0 (slice_index_or c.heads.items 0 0) first)

  pub grown_one : (next : List ℕ) → AreOne c.heads.items → AreKeptLinks links next → IsPathSearch s stages (classes ++ c ∷ []) next
  grown_one next one kept =
      subst (λ (sts : List Stage). IsPathSearch s sts (classes ++ c ∷ []) next) (append-nil stages)
      (grown s places stages classes links is stage here level c are [] (λ k st e. absurd cc) (inl one) next
      (record { size = kept.size; falling = kept.falling; leads = λ x lt. inl (kept.leads x lt) }))

  pub grown_several : (mid next : List ℕ) (new : List Stage) → AreSeveral c.heads.items → AreKeptLinks links mid → IsJoining mid c.heads.items next →
      HasKidStages s (length classes) c.heads.items (length (kids_of_place s (slice_index_or c.heads.items 0 0))) stages new → IsPathSearch s new (classes ++ c ∷ []) next
  grown_several mid next new several kept joins has =
      subst (λ (sts : List Stage). IsPathSearch s sts (classes ++ c ∷ []) next) (sym has.parts)
      (grown s places stages classes links is stage here level c are has.some has.are (inr (several, all)) next
      (record { size = joins.size ∙ kept.size; falling = joins.falling; leads = leads }))
    where
      all : (head : ℕ) → Contains c.heads.items head → length (kids_of_place s head) ≡ length has.some
      all head among =
          let at = at_contains c.heads.items several.first (contains_at c.heads.items 0 several.first several.first_in) in
          let lt = slice_get_within c.heads.items 0 several.first several.first_in in
          let first = slice_get-get_or c.heads.items 0 0 lt in
          heads_wide head (slice_index_or c.heads.items 0 0) among (contains_at c.heads.items 0 (slice_index_or c.heads.items 0 0) first) ∙ sym has.size

      leads : (x : ℕ) → x < length links → LeadsTo links x (link_of next x) ⊎ (AreSeveral c.heads.items × Contains c.heads.items x × Contains c.heads.items (link_of next x))
      leads x lt = let size = kept.size in elim (joins.links x (omega arith)) [
        | inl same ↦ inl (subst (LeadsTo links x) (sym same) (kept.leads x lt))
        | inr w ↦ inr (several, w.0, w.1)
      ]

kids_few : (s : Places) (x : ℕ) → x < length s.kids.items → length (kids_of_place s x) ≤ all_kids_at s
kids_few s x lt =
    let v = element s.kids.items x lt in
    let few = get_or-le-sum_by (λ v. length v.items) s.kids.items x v.0 lt in
    let read : get_or s.kids.items x v.0 ≡ v.0 = get_or_from_slice_get s.kids.items x v.0 v.0 v.1 in
    let one : length (get_or s.kids.items x v.0).items ≡ length v.0.items = ap (λ v. length v.items) read in
    let two : length (kids_of_place s x) ≡ length v.0.items = ap (λ o. length (unwrap_or (option_map (λ v. v.items) o) [])) v.1 in
    omega (arith, few, one, two)

-- a join is worth all stages that it may bring
pub less_work : (s : Places) (heads : List ℕ) (from a b n : ℕ) (old new : List Stage) → 0 < length heads → All (λ x. x < length s.kids.items) heads → b < a → n < length old → HasKidStages s from heads (length (kids_of_place s (slice_index_or heads 0 0))) old new →
    search_work (all_kids_at s) b (length new) (n + 1) < search_work (all_kids_at s) a (length old) n
less_work s heads from a b n old new some within less more has =
    let first = within 0 0 some in
    let few = kids_few s (slice_index_or heads 0 0) first in
    let parts : length new ≡ length old + length has.some = ap length has.parts ∙ length-append old has.some in
    let size = has.size in
    let up : (all_kids_at s + 1) * (b + 1) ≤ (all_kids_at s + 1) * a = mul-le-mul_left (all_kids_at s + 1) (omega arith) in
    omega (arith, few, parts, size, up, more)

pub class_here : (classes : List Classes) (n : ℕ) (c : Classes) → n < length classes → c ≡ get_or classes n c → slice_get classes n ≡ Some c
class_here classes n c lt read = slice_get_read classes (length classes) n c refl lt read
