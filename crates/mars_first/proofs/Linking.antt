-- Links that lead to smaller places, as they are shortened and joined.
use Rattle.std.proofs.Common.{◌≡◌, ◌≢◌, ◌⊎◌, ℕ, ◌<◌, ◌≤◌, ◌+◌, List, [], ◌∷◌, ◌++◌, length, Some, slice_get, slice_set, slice_index_or, get_or-set_same, get_or-set_other, length-append, refl, sym, ap, ◌∙◌, subst, arith, inl, inr, Contains, All}
use Rattle.std.proofs.lemmas.Bool.{cases_eq}
use Rattle.std.proofs.lemmas.List.{length-set}
use Rattle.std.proofs.lemmas.List.Sums.{sum_by-set}
use Rattle.std.proofs.lemmas.Option.{same_Some, slice_get_within, slice_get_read, get_or_from_slice_get}
use Rattle.mars_reach.proofs.Numbers.{at_contains, contains_at, All-slice_get}
use Rattle.mars_comp.proofs.Gets.{get_front, get_one, get_last}
use Rattle.mars_first.specs.LinksInside.{link_of, IsFalling, total_of_links, LeadsTo, stay, onward, AreKeptLinks, IsRoot, AreRoots, HasClass, HasClassNode, AreClasses, IsWith, AreSeveral, IsJoining}

pub leads_on : (l : List ℕ) (x y z : ℕ) → LeadsTo l x y → LeadsTo l y z → LeadsTo l x z
leads_on l x y z (stay a) rest = rest
leads_on l x y z (onward a b lt more) rest = onward a z lt (leads_on l (link_of l a) y z more rest)

pub one_link : (l : List ℕ) (x : ℕ) → x < length l → LeadsTo l x (link_of l x)
one_link l x lt = onward x (link_of l x) lt (stay (link_of l x))

pub leads_in : (l : List ℕ) (x y : ℕ) → IsFalling l → x < length l → LeadsTo l x y → y < length l
leads_in l x y falling lt (stay a) = lt
leads_in l x y falling lt (onward a b within rest) = let le = falling a within in leads_in l (link_of l a) y falling (omega arith) rest

pub leads_kept : (old new : List ℕ) (x y : ℕ) → AreKeptLinks old new → LeadsTo new x y → LeadsTo old x y
leads_kept old new x y kept (stay a) = stay a
leads_kept old new x y kept (onward a b lt rest) =
    let size = kept.size in leads_on old a (link_of new a) y (kept.leads a (omega arith)) (leads_kept old new (link_of new a) y kept rest)

pub kept_none : (l : List ℕ) → IsFalling l → AreKeptLinks l l
kept_none l falling = record { size = refl; falling = falling; leads = λ x lt. one_link l x lt; less = omega arith }

pub kept_more : (a b c : List ℕ) → AreKeptLinks a b → AreKeptLinks b c → AreKeptLinks a c
kept_more a b c k l = record {
  size = l.size ∙ k.size;
  falling = l.falling;
  leads = λ x lt. let size = k.size in leads_kept a b x (link_of c x) k (l.leads x (omega arith));
  less = let le = k.less in let more = l.less in omega arith;
}

-- one link skips the next
pub kept_shorter : (old l : List ℕ) (at next : ℕ) → AreKeptLinks old l → at < length l → next ≡ link_of l (link_of l at) → AreKeptLinks old (slice_set l at next)
kept_shorter old l at next kept lt is = record {
  size = length-set l at next ∙ kept.size;
  falling = falling;
  leads = leads;
  less = less;
}
  where
    new : List ℕ
    new = slice_set l at next

    down : (link_of l at ≤ at) × (next ≤ link_of l at)
    down = let first = kept.falling at lt in let second = kept.falling (link_of l at) (omega arith) in (first, omega arith)

    falling : IsFalling new
    falling x within = elim (cases_eq x at) [
      | inl e ↦ let a = down.0 in let b = down.1 in subst (λ (z : ℕ). link_of new z ≤ z) (sym e) (let is : link_of new at ≡ next = get_or-set_same l at next 0 lt in omega arith)
      | inr ne ↦ let is : link_of new x ≡ link_of l x = get_or-set_other l at x next 0 ne in let size = length-set l at next in let le = kept.falling x (omega arith) in omega arith
    ]

    leads : (x : ℕ) → x < length old → LeadsTo old x (link_of new x)
    leads x within = elim (cases_eq x at) [
      | inl e ↦
          let there : link_of new at ≡ next = get_or-set_same l at next 0 lt in
          let two : LeadsTo l at next = subst (LeadsTo l at) (sym is) (onward at (link_of l (link_of l at)) lt (let a = down.0 in one_link l (link_of l at) (omega arith))) in
          subst (λ (z : ℕ). LeadsTo old z (link_of new z)) (sym e) (subst (LeadsTo old at) (sym there) (leads_kept old l at next kept two))
      | inr ne ↦ subst (LeadsTo old x) (sym (get_or-set_other l at x next 0 ne)) (kept.leads x within)
    ]

    less : total_of_links new ≤ total_of_links old
    less = let s = sum_by-set (λ (x : ℕ). x) l at next 0 lt in let a = down.0 in let b = down.1 in let le = kept.less in omega arith

pub root_stays : (l : List ℕ) (x y : ℕ) → link_of l x ≡ x → LeadsTo l x y → y ≡ x
root_stays l x y e (stay a) = refl
root_stays l x y e (onward a b lt rest) = root_stays l (link_of l a) y (ap (link_of l) e) rest ∙ e

pub roots_kept : (old new heads : List ℕ) → AreKeptLinks old new → AreRoots old heads → AreRoots new heads
roots_kept old new heads kept roots k head there =
    let r = roots k head there in
    let lt = r.0 in
    let size = kept.size in
    (omega arith, root_stays old head (link_of new head) r.1 (kept.leads head lt))

-- one more head
pub with_last : (old : List ℕ) (x : ℕ) → IsWith old x (length old) (old ++ x ∷ [])
with_last old x = record { there = get_last old x; front = λ k y e. get_front old (x ∷ []) k y e; only = λ k y e. only k y (get_one old x k y e) }
  where
    only : (k y : ℕ) → (slice_get old k ≡ Some y) ⊎ ((k ≡ length old) × (x ≡ y)) → (slice_get old k ≡ Some y) ⊎ ((k ≡ length old) × (y ≡ x))
    only k y (inl e) = inl e
    only k y (inr (e, f)) = inr (e, sym f)

pub with_same : (old : List ℕ) (x k : ℕ) → slice_get old k ≡ Some x → IsWith old x k old
with_same old x k there = record { there = there; front = λ k y e. e; only = λ k y e. inl e }

pub classes_none : (links : List ℕ) → AreClasses links [] [] []
classes_none links = record { count = refl; class = λ j x e. absurd cc; node = λ k h e. absurd cc }

-- the classes of one node more
pub classes_more : (first links nodes heads slots : List ℕ) (node head slot : ℕ) (new : List ℕ) → AreKeptLinks first links → AreClasses first nodes heads slots → IsWith heads head slot new → LeadsTo links node head →
    AreClasses first (nodes ++ node ∷ []) new (slots ++ slot ∷ [])
classes_more first links nodes heads slots node head slot new kept are with leads = record {
  count = let n = length-append nodes (node ∷ []) in let s = length-append slots (slot ∷ []) in let e = are.count in omega arith;
  class = λ j x e. class j x (get_one nodes node j x e);
  node = λ k h e. node_of k h (with.only k h e);
}
  where
    last : slice_get (slots ++ slot ∷ []) (length nodes) ≡ Some slot
    last = ap (slice_get (slots ++ slot ∷ [])) (sym are.count) ∙ get_last slots slot

    class : (j x : ℕ) → (slice_get nodes j ≡ Some x) ⊎ ((j ≡ length nodes) × (node ≡ x)) → HasClass first new (slots ++ slot ∷ []) j x
    class j x (inl e) = let c = are.class j x e in record { slot = c.slot; head = c.head; at = get_front slots (slot ∷ []) j c.slot c.at; there = with.front c.slot c.head c.there; leads = c.leads }
    class j x (inr (at, is)) = record {
      slot = slot;
      head = head;
      at = ap (slice_get (slots ++ slot ∷ [])) at ∙ last;
      there = with.there;
      leads = subst (λ (z : ℕ). LeadsTo first z head) is (leads_kept first links node head kept leads);
    }

    node_of : (k h : ℕ) → (slice_get heads k ≡ Some h) ⊎ ((k ≡ slot) × (h ≡ head)) → HasClassNode first (nodes ++ node ∷ []) (slots ++ slot ∷ []) k h
    node_of k h (inl e) =
        let n = are.node k h e in
        record { place = n.place; node = n.node; there = get_front nodes (node ∷ []) n.place n.node n.there; at = get_front slots (slot ∷ []) n.place k n.at; leads = n.leads }
    node_of k h (inr (at, is)) = record {
      place = length nodes;
      node = node;
      there = get_last nodes node;
      at = last ∙ ap (λ (z : ℕ). Some z) (sym at);
      leads = subst (LeadsTo first node) (sym is) (leads_kept first links node head kept leads);
    }

pub roots_more : (links heads : List ℕ) (head slot : ℕ) (new : List ℕ) → AreRoots links heads → IsRoot links head → IsWith heads head slot new → AreRoots links new
roots_more links heads head slot new roots root with k h e = elim (with.only k h e) [
  | inl old ↦ roots k h old
  | inr last ↦ subst (IsRoot links) (sym last.1) root
]

-- heads so far are linked to one place, which is at most each of them
pub record AreLinked (old heads : List ℕ) (count least : ℕ) (new : List ℕ) : Type 0 where
  pub size : length new ≡ length old
  pub links : (x : ℕ) → x < length old → (link_of new x ≡ link_of old x) ⊎ (Contains heads x × (link_of new x ≡ least))
  pub done : (k head : ℕ) → k < count → slice_get heads k ≡ Some head → link_of new head ≡ least
  pub less : total_of_links new ≤ total_of_links old
  pub strict : (x : ℕ) → x < length old → link_of new x ≢ link_of old x → total_of_links new < total_of_links old

pub linked_none : (old heads : List ℕ) (least : ℕ) → AreLinked old heads 0 least old
linked_none old heads least = record {
  size = refl;
  links = λ x lt. inl refl;
  done = λ k head lt e. absurd (omega arith);
  less = omega arith;
  strict = λ x lt ne. absurd (ne refl);
}

pub linked_more : (old heads : List ℕ) (count least : ℕ) (l : List ℕ) (head : ℕ) → AreLinked old heads count least l → slice_get heads count ≡ Some head → IsRoot old head → least ≤ head → Contains heads head →
    AreLinked old heads (count + 1) least (slice_set l head least)
linked_more old heads count least l head are at root low among = record {
  size = length-set l head least ∙ are.size;
  links = links;
  done = done;
  less = let s = step in let le = are.less in omega arith;
  strict = strict;
}
  where
    lt : head < length l
    lt = let a = root.0 in let size = are.size in omega arith

    new : List ℕ
    new = slice_set l head least

    here : link_of new head ≡ least
    here = get_or-set_same l head least 0 lt

    elsewhere : (x : ℕ) → x ≢ head → link_of new x ≡ link_of l x
    elsewhere x ne = get_or-set_other l head x least 0 ne

    low_link : least ≤ link_of l head
    low_link = either (are.links head root.0)
      where
        either : (link_of l head ≡ link_of old head) ⊎ (Contains heads head × (link_of l head ≡ least)) → least ≤ link_of l head
        either (inl e) = let r = root.1 in omega arith
        either (inr (c, e)) = omega arith

    step : total_of_links new ≤ total_of_links l
    step = let s = sum_by-set (λ (x : ℕ). x) l head least 0 lt in let a = low_link in omega arith

    links : (x : ℕ) → x < length old → (link_of new x ≡ link_of old x) ⊎ (Contains heads x × (link_of new x ≡ least))
    links x within = elim (cases_eq x head) [
      | inl e ↦ inr (subst (Contains heads) (sym e) among, ap (link_of new) e ∙ here)
      | inr ne ↦ elim (are.links x within) [
        | inl same ↦ inl (elsewhere x ne ∙ same)
        | inr w ↦ inr (w.0, elsewhere x ne ∙ w.1)
      ]
    ]

    done : (k h : ℕ) → k < count + 1 → slice_get heads k ≡ Some h → link_of new h ≡ least
    done k h below e = elim (cases_eq h head) [
      | inl same ↦ ap (link_of new) same ∙ here
      | inr ne ↦ elim (cases_eq k count) [
        | inl last ↦ absurd (ne (same_Some h head (sym e ∙ ap (slice_get heads) last ∙ at)))
        | inr other ↦ elsewhere h ne ∙ are.done k h (omega arith) e
      ]
    ]

    strict : (x : ℕ) → x < length old → link_of new x ≢ link_of old x → total_of_links new < total_of_links old
    strict x within ne = elim (cases_eq (link_of l x) (link_of old x)) [
      | inr other ↦ let a = are.strict x within other in let s = step in omega arith
      | inl same ↦ elim (cases_eq x head) [
        | inr away ↦ absurd (ne (elsewhere x away ∙ same))
        | inl e ↦
            let r = root.1 in
            let one : link_of l head ≡ head = ap (link_of l) (sym e) ∙ same ∙ ap (link_of old) e ∙ r in
            let two : link_of new x ≡ least = ap (link_of new) e ∙ here in
            let three : link_of old x ≡ head = ap (link_of old) e ∙ r in
            let apart : least ≢ head = (λ f. ne (two ∙ f ∙ sym three)) in
            let s = sum_by-set (λ (x : ℕ). x) l head least 0 lt in
            let le = are.less in
            omega (arith, s, one, apart, low, le)
      ]
    ]

pub linked_all : (old heads : List ℕ) (least : ℕ) (new : List ℕ) → IsFalling old → AreRoots old heads → Contains heads least → ((k head : ℕ) → slice_get heads k ≡ Some head → least ≤ head) → AreLinked old heads (length heads) least new → IsJoining old heads new
linked_all old heads least new falling roots among low are = record {
  size = are.size;
  falling = fall;
  links = λ x lt. elim (are.links x lt) [ inl e ↦ inl e | inr w ↦ inr (w.0, subst (Contains heads) (sym w.1) among) ];
  less = less;
}
  where
    fall : IsFalling new
    fall x lt = let size = are.size in either (are.links x (omega arith))
      where
        either : (link_of new x ≡ link_of old x) ⊎ (Contains heads x × (link_of new x ≡ least)) → link_of new x ≤ x
        either (inl e) = let size = are.size in let f = falling x (omega arith) in omega arith
        either (inr (c, e)) = let at = at_contains heads x c in let le = low at.0 x at.1 in omega arith

    moved : (h : ℕ) → Contains heads h → h ≢ least → total_of_links new < total_of_links old
    moved h c ne =
        let at = at_contains heads h c in
        let root = roots at.0 h at.1 in
        let now : link_of new h ≡ least = are.done at.0 h (slice_get_within heads at.0 h at.1) at.1 in
        are.strict h root.0 (λ e. ne (sym root.1 ∙ sym e ∙ now))

    less : AreSeveral heads → total_of_links new < total_of_links old
    less s = elim (cases_eq s.first least) [
      | inr ne ↦ moved s.first (contains_at heads 0 s.first s.first_in) ne
      | inl e ↦ moved s.other s.other_in (λ f. s.apart (e ∙ sym f))
    ]

pub linked_end : (old heads : List ℕ) (count least : ℕ) (new : List ℕ) → length heads ≤ count → AreLinked old heads count least new → AreLinked old heads (length heads) least new
linked_end old heads count least new over are = record {
  size = are.size;
  links = are.links;
  done = λ k head lt e. are.done k head (omega arith) e;
  less = are.less;
  strict = are.strict;
}

pub each_at : (xs : List ℕ) (least : ℕ) → All (λ x. least ≤ x) xs → (k x : ℕ) → slice_get xs k ≡ Some x → least ≤ x
each_at xs least all k x e = All-slice_get (λ (y : ℕ). least ≤ y) xs k x all e

-- what one turn of the walk to a head leaves
pub record IsHalved (old new : List ℕ) (node at : ℕ) : Type 0 where
  pub within : at < length new
  pub kept : AreKeptLinks old new
  pub leads : LeadsTo old node at

pub halved : (old l : List ℕ) (node at next : ℕ) → AreKeptLinks old l → at < length l → LeadsTo old node at → next ≡ link_of l (link_of l at) → IsHalved old (slice_set l at next) node next
halved old l node at next kept lt leads is =
    let falling = kept.falling in
    let first = falling at lt in
    let second = falling (link_of l at) (omega arith) in
    let size = length-set l at next in
    record {
      within = omega arith;
      kept = kept_shorter old l at next kept lt is;
      leads = leads_on old node at next leads
          (leads_kept old l at next kept (subst (LeadsTo l at) (sym is) (onward at (link_of l (link_of l at)) lt (one_link l (link_of l at) (omega arith)))));
    }

-- what is read at a place
pub read_at : (xs : List ℕ) (i x : ℕ) → i < length xs → x ≡ slice_index_or xs i x → x ≡ link_of xs i
read_at xs i x lt e = sym (get_or_from_slice_get xs i x 0 (slice_get_read xs (length xs) i x refl lt e))

-- what is read at the place that was read at a place
pub read_twice : (old l : List ℕ) (at x y : ℕ) → AreKeptLinks old l → at < length l → x ≡ slice_index_or l at x → y ≡ slice_index_or l x y → y ≡ link_of l (link_of l at)
read_twice old l at x y kept lt e f =
    let first : x ≡ link_of l at = read_at l at x lt e in
    let falls = kept.falling in
    let low = falls at lt in
    read_at l x y (omega arith) f ∙ ap (link_of l) first

pub classes_start : (links heads slots : List ℕ) → heads ≡ [] → slots ≡ [] → AreClasses links [] heads slots
classes_start links heads slots e f = subst (λ (hs : List ℕ). AreClasses links [] hs slots) (sym e) (subst (AreClasses links [] []) (sym f) (classes_none links))

pub roots_start : (links heads : List ℕ) → heads ≡ [] → AreRoots links heads
roots_start links heads e = subst (AreRoots links) (sym e) (λ k h f. absurd cc)
