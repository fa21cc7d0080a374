-- What a store keeps under its changes.
use Rattle.std.proofs.Common.{◌≡◌, ◌≢◌, ◌⊎◌, ℕ, suc, ◌+◌, ◌<◌, ◌≤◌, List, [], ◌∷◌, ◌++◌, length, take, set, get_or, slice_index, All, Option, Some, None, if◌then◌else◌, ◌==◌, refl, sym, ap, ◌∙◌, subst, arith, inl, inr, length-append, get_or-set_same, get_or-set_other, length-set, length-take-le, get_or-take}
use Rattle.std.proofs.Common.{lt-ltb, le-ltb}
use Rattle.std.proofs.lemmas.Bool.{cases_eq, cases_lt, eq-eqb, ne_eqb}
use Rattle.std.proofs.lemmas.List.{get_or_append_left, get_or_at, get_or_default, get_or_past, take-append-le, take_all}
use Rattle.std.proofs.lemmas.List.Elements.{All-head, All-tail, All-get_or, All-cons, All-nil, All-weaker, All-push, All-from_get_or}
use Rattle.mars_tree.specs.declared.label.Label.{Label}
use Rattle.mars_tree.specs.Graph.{Node, IsNode, IsGraph, label_of, kids_of, free_leaf}
use Rattle.mars_store.specs.declared.mark.Mark.{Mark}
use Rattle.mars_store.specs.System.{System, IsSystem, resolve, IsTriangular, IsUnbound, IsLink, IsMark, equation_of, linked, with_node, undone, rank, rank_of}
use Rattle.mars_store.specs.LinksInside.{target_of, IsStored}
use Rattle.mars_store.proofs.Links.{leaf_node, link-moved, triangular-push, All-front, All-last, resolve-unbound, resolve-same, resolve-last}
use Rattle.mars_store.proofs.Solving.{label-within}
use Rattle.mars_store.proofs.Growing.{system-node}

target_of-unbound : (bound : List (ℕ × ℕ)) (n : ℕ) → IsUnbound bound n → target_of bound n ≡ n
target_of-unbound [] n h = refl
target_of-unbound (e ∷ later) n h =
    let ne : n ≢ e.0 = λ p. All-head (λ equation. equation.0 ≢ n) e later h (sym p) in
    rw (ne_eqb n e.0 ne) (target_of-unbound later n (All-tail (λ equation. equation.0 ≢ n) e later h))

pub target_of-self : (bound : List (ℕ × ℕ)) (n : ℕ) → All (λ e. e.1 ≢ e.0) bound → target_of bound n ≡ n → IsUnbound bound n
target_of-self [] n ne p = All-nil (λ equation. equation.0 ≢ n)
target_of-self (e ∷ later) n ne p = go (target_of-self later n (All-tail (λ e. e.1 ≢ e.0) e later ne)) (cases_eq n e.0)
  where
    go : (target_of later n ≡ n → IsUnbound later n) → (n ≡ e.0) ⊎ (n ≢ e.0) → IsUnbound (e ∷ later) n
    go rest (inl q) = absurd (All-head (λ e. e.1 ≢ e.0) e later ne (rw (eq-eqb n e.0 q) at p ∙ q))
    go rest (inr q) = All-cons (λ equation. equation.0 ≢ n) e later (λ r. q (sym r)) (rest (rw (ne_eqb n e.0 q) at p))

-- what a node is bound to occurs in an equation
pub target_of-place : (bound : List (ℕ × ℕ)) (n : ℕ) → target_of bound n ≢ n → (k : ℕ) × (k < length bound) × (get_or bound k (0, 0) ≡ (n, target_of bound n))
target_of-place [] n h = absurd (h refl)
target_of-place (e ∷ later) n h = go (target_of-place later n) (cases_eq n e.0)
  where
    go : (target_of later n ≢ n → (k : ℕ) × (k < length later) × (get_or later k (0, 0) ≡ (n, target_of later n)))
        → (n ≡ e.0) ⊎ (n ≢ e.0) → (k : ℕ) × (k < length (e ∷ later)) × (get_or (e ∷ later) k (0, 0) ≡ (n, target_of (e ∷ later) n))
    go rest (inl q) = (0, omega arith, rw (eq-eqb n e.0 q) (ap (λ m. (m, e.1)) (sym q)))
    go rest (inr q) =
        let there = rest (rw (ne_eqb n e.0 q) at h) in
        (suc there.0, omega arith, rw (ne_eqb n e.0 q) there.2)

target_of-push : (bound : List (ℕ × ℕ)) (x y n : ℕ) → IsUnbound bound x → target_of (bound ++ (x, y) ∷ []) n ≡ (if n == x then y else target_of bound n)
target_of-push [] x y n h = refl
target_of-push (e ∷ later) x y n h = go (target_of-push later x y n (All-tail (λ equation. equation.0 ≢ x) e later h)) (cases_eq n e.0)
  where
    hx : e.0 ≢ x
    hx = All-head (λ equation. equation.0 ≢ x) e later h

    go : (target_of (later ++ (x, y) ∷ []) n ≡ (if n == x then y else target_of later n))
        → (n ≡ e.0) ⊎ (n ≢ e.0) → target_of ((e ∷ later) ++ (x, y) ∷ []) n ≡ (if n == x then y else target_of (e ∷ later) n)
    go rest (inl q) = rw (eq-eqb n e.0 q, ne_eqb n x (λ r. hx (sym q ∙ r))) refl
    go rest (inr q) = rw (ne_eqb n e.0 q) rest

triangular-front : (bound : List (ℕ × ℕ)) (x y : ℕ) → IsTriangular (bound ++ (x, y) ∷ []) → IsTriangular bound × IsUnbound bound x
triangular-front [] x y t = (tt, All-nil _)
triangular-front (e ∷ later) x y t =
    let P : ℕ × ℕ → Type 0 = λ next. (next.0 ≢ e.0) × (next.1 ≢ e.0) in
    let rest = triangular-front later x y t.1 in
    ((All-front P later ((x, y) ∷ []) t.0, rest.0), All-cons (λ equation. equation.0 ≢ x) e later (λ p. (All-last P later (x, y) t.0).0 (sym p)) rest.1)

pub not-itself : (nodes : List Node) (bound : List (ℕ × ℕ)) → All (IsLink nodes) bound → All (λ e. e.1 ≢ e.0) bound
not-itself nodes bound h =
    All-weaker (IsLink nodes) (λ e. e.1 ≢ e.0)
    (λ e l p. let f : rank nodes e.1 < rank nodes e.1 = subst (λ n. rank nodes e.1 < rank nodes n) (sym p) l.falls in omega arith)
    bound h

-- one node more
pub stored-push : (nodes : List Node) (links : List ℕ) (bound : List (ℕ × ℕ)) (node : Node)
    → IsStored nodes links bound → IsNode (length nodes) node → IsStored (nodes ++ node ∷ []) (links ++ length links ∷ []) bound
stored-push nodes links bound node st is = record {
  system = system-node (record { nodes = nodes; bound = bound }) node st.system is;
  sizes = omega (arith, length-append links (length links ∷ []), more, st.sizes);
  kept = λ n h. linked n (cases_lt n (length links)) (rw (length-append links (length links ∷ [])) at h);
}
  where
    more : length (nodes ++ node ∷ []) ≡ length nodes + 1
    more = length-append nodes (node ∷ [])

    linked : (n : ℕ) → (n < length links) ⊎ (length links ≤ n) → n < length links + 1 → slice_index (links ++ length links ∷ []) n ≡ target_of bound n
    linked n (inl h) w = get_or_append_left links (length links ∷ []) 0 n h ∙ st.kept n h
    linked n (inr h) w =
        let e : length links ≡ n = omega arith in
        get_or_at links (length links) [] 0 n e ∙ e
        ∙ sym (target_of-unbound bound n (All-weaker (IsLink nodes) (λ equation. equation.0 ≢ n)
        (λ equation l p. let w = l.variable.inside in absurd (omega (arith, st.sizes, p))) bound st.system.links))

stored-bind : (nodes : List Node) (links : List ℕ) (bound : List (ℕ × ℕ)) (x y : ℕ)
    → IsStored nodes links bound → IsUnbound bound x → IsUnbound bound y → IsLink nodes (x, y) → IsStored nodes (set links x y) (bound ++ (x, y) ∷ [])
stored-bind nodes links bound x y st hx hy link = record {
  system = record {
    older = st.system.older;
    links = All-push (IsLink nodes) bound (x, y) st.system.links link;
    triangular = triangular-push bound x y st.system.triangular hx hy;
  };
  sizes = length-set links x y ∙ st.sizes;
  kept = λ n h. linked n (rw (length-set links x y) at h) (cases_eq n x);
}
  where
    linked : (n : ℕ) → n < length links → (n ≡ x) ⊎ (n ≢ x) → slice_index (set links x y) n ≡ target_of (bound ++ (x, y) ∷ []) n
    linked n h (inl e) = rw (target_of-push bound x y n hx, eq-eqb n x e, e) (get_or-set_same links x y 0 (subst (λ m. m < length links) e h))
    linked n h (inr ne) = rw (target_of-push bound x y n hx, ne_eqb n x ne) (get_or-set_other links x n y 0 ne ∙ st.kept n h)

stored-pop : (nodes : List Node) (links : List ℕ) (bound : List (ℕ × ℕ)) (x y : ℕ)
    → IsStored nodes links (bound ++ (x, y) ∷ []) → IsStored nodes (set links x x) bound
stored-pop nodes links bound x y st = record {
  system = record {
    older = st.system.older;
    links = All-front (IsLink nodes) bound ((x, y) ∷ []) st.system.links;
    triangular = front.0;
  };
  sizes = length-set links x x ∙ st.sizes;
  kept = λ n h. linked n (rw (length-set links x x) at h) (cases_eq n x);
}
  where
    front : IsTriangular bound × IsUnbound bound x
    front = triangular-front bound x y st.system.triangular

    linked : (n : ℕ) → n < length links → (n ≡ x) ⊎ (n ≢ x) → slice_index (set links x x) n ≡ target_of bound n
    linked n h (inl e) = rw e (get_or-set_same links x x 0 (subst (λ m. m < length links) e h) ∙ sym (target_of-unbound bound x front.1))
    linked n h (inr ne) = get_or-set_other links x n x 0 ne ∙ st.kept n h ∙ rw (target_of-push bound x y n front.1, ne_eqb n x ne) refl

stored-cut : (nodes : List Node) (links : List ℕ) (bound : List (ℕ × ℕ)) (k : ℕ)
    → IsStored nodes links bound → k ≤ length nodes → All (λ e. (e.0 < k) × (e.1 < k)) bound → IsStored (take k nodes) (take k links) bound
stored-cut nodes links bound k st size inside = record {
  system = record {
    older = λ n. older n (cases_lt n k);
    links = All-from_get_or (IsLink (take k nodes)) bound (0, 0) (λ i h.
        let within = All-get_or (λ e. (e.0 < k) × (e.1 < k)) bound i (0, 0) h inside in
        link-moved nodes (take k nodes) (get_or bound i (0, 0)) (rw kept_nodes within.0) (rw kept_nodes within.1)
        (get_or-take k nodes _ free_leaf within.0) (get_or-take k nodes _ free_leaf within.1)
        (All-get_or (IsLink nodes) bound i (0, 0) h st.system.links));
    triangular = st.system.triangular;
  };
  sizes = kept_links ∙ sym kept_nodes;
  kept = λ n h.
      let w : n < k = rw kept_links at h in
      get_or-take k links n 0 w ∙ st.kept n (omega (arith, st.sizes));
}
  where
    kept_nodes : length (take k nodes) ≡ k
    kept_nodes = length-take-le k nodes size

    kept_links : length (take k links) ≡ k
    kept_links = length-take-le k links (omega (arith, st.sizes))

    older : (n : ℕ) → (n < k) ⊎ (k ≤ n) → IsNode n (get_or (take k nodes) n free_leaf)
    older n (inl h) = rw (get_or-take k nodes n free_leaf h) (st.system.older n)
    older n (inr h) = rw (get_or_past (take k nodes) n free_leaf (omega (arith, kept_nodes))) (leaf_node n)

-- one link further
pub follow-step : (nodes : List Node) (links : List ℕ) (bound : List (ℕ × ℕ)) (last next : ℕ)
    → IsStored nodes links bound → last < length links → next ≡ get_or links last next → next ≢ last
    → (next < length links) × (resolve bound next ≡ resolve bound last) × (rank nodes next < rank nodes last)
follow-step nodes links bound last next st h e ne =
    let same : next ≡ target_of bound last = e ∙ get_or_default links last next 0 h ∙ st.kept last h in
    let place = target_of-place bound last (λ p. ne (same ∙ p)) in
    let link : IsLink nodes (last, next) =
    subst (λ m. IsLink nodes (last, m)) (sym same) (rw place.2 at (All-get_or (IsLink nodes) bound place.0 (0, 0) place.1 st.system.links)) in
    let led : resolve bound last ≡ resolve bound (target_of bound last) = rw place.2 at (resolve-same bound st.system.triangular place.0 (0, 0) place.1) in
    let w = link.inside in
    (omega (arith, st.sizes), rw same (sym led), link.falls)

-- the end of the links
pub follow-end : (nodes : List Node) (links : List ℕ) (bound : List (ℕ × ℕ)) (last next : ℕ)
    → IsStored nodes links bound → last < length links → next ≡ get_or links last next → next ≡ last
    → IsUnbound bound last × (resolve bound last ≡ last)
follow-end nodes links bound last next st h e p =
    let same : target_of bound last ≡ last = sym (e ∙ get_or_default links last next 0 h ∙ st.kept last h) ∙ p in
    let free = target_of-self bound last (not-itself nodes bound st.system.links) same in
    (free, resolve-unbound bound last free)

-- two reads of one place
pub read-same : {X : Type 0} (xs : List X) (i : ℕ) (x y : X) → i < length xs → x ≡ get_or xs i x → y ≡ get_or xs i y → x ≡ y
read-same xs i x y h p q = p ∙ get_or_default xs i x y h ∙ sym q

-- the front of a system's nodes is a graph
pub front-graph : (system : System) (k : ℕ) → IsSystem system → k ≤ length system.nodes → IsGraph (take k system.nodes)
front-graph system k sound h =
    let size = length-take-le k system.nodes h in
    All-from_get_or (IsNode (length (take k system.nodes))) (take k system.nodes) free_leaf (λ i w.
    let within : i < k = rw size at w in
    let is = sound.older i in
    rw (size, get_or-take k system.nodes i free_leaf within)
    (record { kids = is.kids; in_range = All-weaker (λ kid. kid < i) (λ kid. kid < k) (λ kid l. omega arith) (kids_of system.nodes i) is.in_range }))

-- a store with one node more
pub pushed : (nodes more : List Node) (links next : List ℕ) (trail : List (ℕ × ℕ)) (system : System) (node : Node)
    → record { nodes = nodes; bound = trail } ≡ system → IsStored nodes links trail
    → IsNode (length system.nodes) node → more ≡ nodes ++ node ∷ [] → next ≡ links ++ length links ∷ []
    → IsStored more next trail × (record { nodes = more; bound = trail } ≡ with_node system node)
pushed nodes more links next trail system node view st is p q = (
  rw (p, q) (stored-push nodes links trail node st (subst (λ (s : System). IsNode (length s.nodes) node) (sym view) is)),
  rw p (ap (λ (s : System). with_node s node) view),
)

-- a link between two ends
stored-linked : (nodes : List Node) (links next : List ℕ) (bound more : List (ℕ × ℕ)) (x y : ℕ)
    → IsStored nodes links bound
    → x < length nodes → label_of nodes x ≡ None → resolve bound x ≡ x → y < length nodes → IsUnbound bound y → y ≢ x
    → next ≡ set links (equation_of nodes x y).0 (equation_of nodes x y).1
    → more ≡ bound ++ equation_of nodes x y ∷ []
    → IsStored nodes next more
stored-linked nodes links next bound more x y st x_in free end y_in hy ne p q =
    rw (p, q) (go (cases_lt (rank nodes y) (rank nodes x)))
  where
    hx : IsUnbound bound x
    hx = subst (IsUnbound bound) end (resolve-last bound st.system.triangular (not-itself nodes bound st.system.links) x)

    rank-x : rank nodes x ≡ x + 1
    rank-x = rw free refl

    -- an end of greater rank is a younger variable
    younger : (o : Option Label) → label_of nodes y ≡ o → x + 1 ≤ rank_of o y → (label_of nodes y ≡ None) × (x < y)
    younger None e h = (e, omega (arith, ne))
    younger (Some label) e h = absurd (omega arith)

    go : (rank nodes y < rank nodes x) ⊎ (rank nodes x ≤ rank nodes y)
        → IsStored nodes (set links (equation_of nodes x y).0 (equation_of nodes x y).1) (bound ++ equation_of nodes x y ∷ [])
    go (inl lt) = rw (lt-ltb _ _ lt) (stored-bind nodes links bound x y st hx hy (record { variable = record { inside = x_in; free = free }; inside = y_in; falls = lt }))
    go (inr le) =
        let there = younger (label_of nodes y) refl (rw rank-x at le) in
        let rank-y : rank nodes y ≡ y + 1 = rw there.0 refl in
        rw (le-ltb _ _ le) (stored-bind nodes links bound y x st hy hx
        (record { variable = record { inside = y_in; free = there.0 }; inside = x_in; falls = omega (arith, there.1, rank-x, rank-y) }))

-- the same, as a store sees it
pub stored-linked_view : (nodes : List Node) (links next : List ℕ) (bound more : List (ℕ × ℕ)) (system : System) (x y : ℕ)
    → record { nodes = nodes; bound = bound } ≡ system
    → IsStored nodes links bound
    → x < length system.nodes → label_of system.nodes x ≡ None → resolve system.bound x ≡ x → y < length system.nodes → IsUnbound system.bound y → y ≢ x
    → next ≡ set links (equation_of system.nodes x y).0 (equation_of system.nodes x y).1
    → more ≡ bound ++ equation_of system.nodes x y ∷ []
    → IsStored nodes next more × (record { nodes = nodes; bound = more } ≡ linked system x y)
stored-linked_view nodes links next bound more system x y view st =
    subst (λ (s : System).
    x < length s.nodes → label_of s.nodes x ≡ None → resolve s.bound x ≡ x → y < length s.nodes → IsUnbound s.bound y → y ≢ x
    → next ≡ set links (equation_of s.nodes x y).0 (equation_of s.nodes x y).1
    → more ≡ bound ++ equation_of s.nodes x y ∷ []
    → IsStored nodes next more × (record { nodes = nodes; bound = more } ≡ linked s x y)) view
    (λ x_in free end y_in hy ne p q. (
      stored-linked nodes links next bound more x y st x_in free end y_in hy ne p q,
      rw q refl,
    ))

-- a link to a node with a label
pub stored-bound_to : (nodes : List Node) (links next : List ℕ) (bound more : List (ℕ × ℕ)) (system : System) (x y : ℕ)
    → record { nodes = nodes; bound = bound } ≡ system → IsStored nodes links bound
    → x < length system.nodes → label_of system.nodes x ≡ None → resolve system.bound x ≡ x → label_of system.nodes y ≢ None
    → next ≡ set links x y → more ≡ bound ++ (x, y) ∷ []
    → IsStored nodes next more × (record { nodes = nodes; bound = more } ≡ linked system x y)
stored-bound_to nodes links next bound more system x y view st x_in free end labelled p q = go (label_of system.nodes y) refl
  where
    go : (o : Option Label) → label_of system.nodes y ≡ o → IsStored nodes next more × (record { nodes = nodes; bound = more } ≡ linked system x y)
    go None e = absurd (labelled e)
    go (Some label) e =
        let sound : IsSystem system = subst IsSystem view st.system in
        let rank-x : rank system.nodes x ≡ x + 1 = rw free refl in
        let rank-y : rank system.nodes y ≡ 0 = rw e refl in
        let equation : (x, y) ≡ equation_of system.nodes x y = rw (lt-ltb (rank system.nodes y) (rank system.nodes x) (omega (arith, rank-x, rank-y))) refl in
        let unbound : IsUnbound system.bound y =
        All-weaker (IsLink system.nodes) (λ equation. equation.0 ≢ y) (λ equation l same. labelled (subst (λ n. label_of system.nodes n ≡ None) same l.variable.free)) system.bound sound.links in
        stored-linked_view nodes links next bound more system x y view st x_in free end (label-within system.nodes y label e) unbound
        (λ same. labelled (subst (λ n. label_of system.nodes n ≡ None) (sym same) free))
        (p ∙ ap (λ (e : ℕ × ℕ). set links e.0 e.1) equation) (q ∙ ap (λ (e : ℕ × ℕ). bound ++ e ∷ []) equation)

-- one equation is undone
pub undo-step : (nodes : List Node) (links : List ℕ) (trail rest : List (ℕ × ℕ)) (x y k : ℕ)
    → IsStored nodes links trail → trail ≡ rest ++ (x, y) ∷ [] → k ≤ length rest
    → IsStored nodes (set links x x) rest × (take k rest ≡ take k trail)
undo-step nodes links trail rest x y k st p h =
    (stored-pop nodes links rest x y (rw p at st), sym (rw p (take-append-le k rest ((x, y) ∷ []) h)))

-- no equation past the mark is left
pub undo-end : (nodes more : List Node) (links next : List ℕ) (trail start : List (ℕ × ℕ)) (system : System) (mark : Mark)
    → IsStored nodes links trail → take mark.bound trail ≡ take mark.bound start
    → record { nodes = nodes; bound = start } ≡ system
    → IsMark system mark → length trail ≤ mark.bound
    → more ≡ take mark.nodes nodes → next ≡ take mark.nodes links
    → IsStored more next trail × (record { nodes = more; bound = trail } ≡ undone system mark)
undo-end nodes more links next trail start system mark st q view m h a b =
    let same : nodes ≡ system.nodes = ap (λ (s : System). s.nodes) view in
    let bound : trail ≡ take mark.bound system.bound = sym (take_all mark.bound trail h) ∙ q ∙ ap (λ (s : System). take mark.bound s.bound) view in
    let inside : All (λ e. (e.0 < mark.nodes) × (e.1 < mark.nodes)) trail = rw bound m.inside in
    let size : mark.nodes ≤ length nodes = rw same m.nodes in (
      rw (a, b) (stored-cut nodes links trail mark.nodes st size inside),
      rw (a, same) (ap (λ (es : List (ℕ × ℕ)). record { nodes = take mark.nodes system.nodes; bound = es }) bound),
    )
