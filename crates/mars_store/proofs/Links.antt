-- Where links lead.
use Rattle.std.proofs.Common.{◌≡◌, ◌≢◌, ℕ, zero, suc, ◌<◌, List, [], ◌∷◌, ◌++◌, length, get_or, All, cond, eqb, refl, sym, ap, ◌∙◌, subst, arith, inl, inr}
use Rattle.std.proofs.lemmas.Bool.{cases_eq, eq-eqb, ne_eqb}
use Rattle.std.proofs.lemmas.List.Elements.{All-head, All-tail, All-get_or, All-cons, All-nil, All-push}
use Rattle.mars_tree.specs.Graph.{Node, IsNode, free_leaf}
use Rattle.mars_store.specs.System.{resolve, rank_of, IsLink, IsTriangular, IsUnbound}

pub resolve-unbound : (bound : List (ℕ × ℕ)) (n : ℕ) → IsUnbound bound n → resolve bound n ≡ n
resolve-unbound [] n h = refl
resolve-unbound (e ∷ later) n h =
    let ne : n ≢ e.0 = λ p. All-head (λ equation. equation.0 ≢ n) e later h (sym p) in
    rw (ne_eqb n e.0 ne) (resolve-unbound later n (All-tail (λ equation. equation.0 ≢ n) e later h))

-- both sides of an equation lead to the same node
pub resolve-same : (bound : List (ℕ × ℕ)) → IsTriangular bound → (k : ℕ) (d : ℕ × ℕ) → k < length bound
    → resolve bound (get_or bound k d).0 ≡ resolve bound (get_or bound k d).1
resolve-same [] t k d h = absurd (omega arith)
resolve-same (e ∷ later) t zero d h =
    elim (cases_eq e.1 e.0) [
      | inl p ↦ rw (eq-eqb e.0 e.0 refl, eq-eqb e.1 e.0 p) refl
      | inr p ↦ rw (eq-eqb e.0 e.0 refl, ne_eqb e.1 e.0 p) refl
    ]
resolve-same (e ∷ later) t (suc k) d h =
    let apart = All-get_or (λ next. (next.0 ≢ e.0) × (next.1 ≢ e.0)) later k d (omega arith) t.0 in
    rw (ne_eqb (get_or later k d).0 e.0 apart.0, ne_eqb (get_or later k d).1 e.0 apart.1) (resolve-same later t.1 k d (omega arith))

-- to a node that occurs on neither side of an equation no other node leads
pub resolve-avoids : (bound : List (ℕ × ℕ)) (n x : ℕ) → n ≢ x → All (λ next. (next.0 ≢ x) × (next.1 ≢ x)) bound → resolve bound n ≢ x
resolve-avoids [] n x ne h = ne
resolve-avoids (e ∷ later) n x ne h =
    let P : ℕ × ℕ → Type 0 = λ next. (next.0 ≢ x) × (next.1 ≢ x) in
    elim (cases_eq n e.0) [
      | inl p ↦ rw (eq-eqb n e.0 p) (resolve-avoids later e.1 x (All-head P e later h).1 (All-tail P e later h))
      | inr p ↦ rw (ne_eqb n e.0 p) (resolve-avoids later n x ne (All-tail P e later h))
    ]

-- the last node of the links isn't bound
pub resolve-last : (bound : List (ℕ × ℕ)) → IsTriangular bound → All (λ e. e.1 ≢ e.0) bound → (n : ℕ) → IsUnbound bound (resolve bound n)
resolve-last [] t ne n = All-nil (λ equation. equation.0 ≢ resolve [] n)
resolve-last (e ∷ later) t ne n =
    let next : ℕ = cond (eqb n e.0) e.1 n in
    let moved : next ≢ e.0 = elim (cases_eq n e.0) [ inl p ↦ rw (eq-eqb n e.0 p) (All-head (λ e. e.1 ≢ e.0) e later ne) | inr p ↦ rw (ne_eqb n e.0 p) p ] in
    All-cons (λ equation. equation.0 ≢ resolve later next) e later
    (λ p. resolve-avoids later next e.0 moved t.0 (sym p))
    (resolve-last later t.1 (All-tail (λ e. e.1 ≢ e.0) e later ne) next)

-- what holds of each node of an equation is carried along
pub resolve-inside : (nodes : ℕ) (bound : List (ℕ × ℕ)) (n : ℕ) → n < nodes → All (λ e. e.1 < nodes) bound → resolve bound n < nodes
resolve-inside nodes [] n h a = h
resolve-inside nodes (e ∷ later) n h a =
    elim (cases_eq n e.0) [
      | inl p ↦ rw (eq-eqb n e.0 p) (resolve-inside nodes later e.1 (All-head (λ e. e.1 < nodes) e later a) (All-tail (λ e. e.1 < nodes) e later a))
      | inr p ↦ rw (ne_eqb n e.0 p) (resolve-inside nodes later n h (All-tail (λ e. e.1 < nodes) e later a))
    ]

-- past the nodes, nothing is asked of a node
pub leaf_node : (count : ℕ) → IsNode count free_leaf
leaf_node count = record { kids = refl; in_range = All-nil (λ kid. kid < count) }

-- a link between two nodes that stay
pub link-moved : (nodes more : List Node) (e : ℕ × ℕ) → e.0 < length more → e.1 < length more
    → get_or more e.0 free_leaf ≡ get_or nodes e.0 free_leaf → get_or more e.1 free_leaf ≡ get_or nodes e.1 free_leaf → IsLink nodes e → IsLink more e
link-moved nodes more e h k p q l = record {
  variable = record { inside = h; free = ap (λ (n : Node). n.label) p ∙ l.variable.free };
  inside = k;
  falls =
      subst (λ (n : Node). rank_of n.label e.1 < rank_of (get_or more e.0 free_leaf).label e.0) (sym q)
      (subst (λ (n : Node). rank_of (get_or nodes e.1 free_leaf).label e.1 < rank_of n.label e.0) (sym p) l.falls);
}

-- an equation of two nodes without links
pub triangular-push : (bound : List (ℕ × ℕ)) (x y : ℕ) → IsTriangular bound → IsUnbound bound x → IsUnbound bound y → IsTriangular (bound ++ (x, y) ∷ [])
triangular-push [] x y t hx hy = (All-nil _, tt)
triangular-push (e ∷ later) x y t hx hy = (
  All-push (λ next. (next.0 ≢ e.0) × (next.1 ≢ e.0)) later (x, y) t.0
      ((λ p. All-head (λ equation. equation.0 ≢ x) e later hx (sym p)), (λ p. All-head (λ equation. equation.0 ≢ y) e later hy (sym p))),
  triangular-push later x y t.1 (All-tail (λ equation. equation.0 ≢ x) e later hx) (All-tail (λ equation. equation.0 ≢ y) e later hy),
)

-- what holds of all of a list, in its parts
pub All-front : {X : Type 0} (P : X → Type 0) (xs ys : List X) → All P (xs ++ ys) → All P xs
All-front P [] ys h = All-nil P
All-front P (x ∷ xs) ys h = All-cons P x xs (All-head P x (xs ++ ys) h) (All-front P xs ys (All-tail P x (xs ++ ys) h))

pub All-last : {X : Type 0} (P : X → Type 0) (xs : List X) (x : X) → All P (xs ++ x ∷ []) → P x
All-last P [] x h = All-head P x [] h
All-last P (y ∷ xs) x h = All-last P xs x (All-tail P y (xs ++ x ∷ []) h)

pub All-after : {X : Type 0} (P : X → Type 0) (xs ys : List X) → All P (xs ++ ys) → All P ys
All-after P [] ys h = h
All-after P (x ∷ xs) ys h = All-after P xs ys (All-tail P x (xs ++ ys) h)
