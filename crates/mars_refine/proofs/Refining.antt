-- Classes of nodes that are refined until they are those of trees.
use Rattle.std.proofs.Common.{◌≡◌, ◌↔◌, ◌⊎◌, ℕ, zero, suc, ◌<◌, ◌≤◌, ◌+◌, List, [], ◌∷◌, length, Some, option_and_then, slice_get, refl, sym, subst, ap, ◌∙◌, arith, inl, inr, Contains}
use Rattle.std.specs.Option.{option_map}
use Rattle.std.proofs.lemmas.Bool.{cases_lt}
use Rattle.std.proofs.lemmas.Option.{same_Some}
use Rattle.mars_tree.specs.Graph.{Node, IsGraph, label_of, kids_of, shown_at, end_of, at, Same}
use Rattle.mars_tree.proofs.Paths.{kids_from_label, label_from_stands, kid_in}
use Rattle.mars_tree.proofs.Walks.{IsBisimulation, same_from_bisimulation}
use Rattle.mars_refine.specs.declared.edge.Edge.{Edge}
use Rattle.mars_refine.specs.Refine.{IsWithout, class_of, Waits, IsRefining, HasKidIn, Moved, IsSplitTo, AreTrees}

pub same_sym : (g : List Node) (u v : ℕ) → Same g u g v → Same g v g u
same_sym g u v s path = sym (s path)

-- the same tree shows the same at the root
pub same_shown : (g : List Node) (u v : ℕ) → Same g u g v → shown_at g u ≡ shown_at g v
same_shown g u v s = same_Some (shown_at g u) (shown_at g v) (s [])

pub same_label : (g : List Node) (u v : ℕ) → shown_at g u ≡ shown_at g v → label_of g u ≡ label_of g v
same_label g u v e = label_from_stands (label_of g u) (label_of g v) u v e

-- kids of the same tree are the same tree
pub same_kids : (g : List Node) (u v k x y : ℕ) → Same g u g v → slice_get (kids_of g u) k ≡ Some x → slice_get (kids_of g v) k ≡ Some y → Same g x g y
same_kids g u v k x y s left right path =
    let l : at g u (k ∷ path) ≡ at g x path = ap (λ o. option_map (shown_at g) (option_and_then (λ kid. end_of g kid path) o)) left in
    let r : at g v (k ∷ path) ≡ at g y path = ap (λ o. option_map (shown_at g) (option_and_then (λ kid. end_of g kid path) o)) right in
    sym l ∙ s (k ∷ path) ∙ r

-- an equally long list has an element at the place too
pub get_beside : (xs ys : List ℕ) (k x : ℕ) → length xs ≡ length ys → slice_get xs k ≡ Some x → (y : ℕ) × (slice_get ys k ≡ Some y)
get_beside [] ys k x e here = cc
get_beside (a ∷ xs) [] k x e here = absurd (omega arith)
get_beside (a ∷ xs) (b ∷ ys) zero x e here = (b, refl)
get_beside (a ∷ xs) (b ∷ ys) (suc k) x e here = get_beside xs ys k x (omega arith) here

module _ (g : List Node) (is : IsGraph g) where
  -- kids in a class are found beside each other at the same trees
  kid_beside : (of : List ℕ) (class place u v : ℕ) → ((x y : ℕ) → x < length g → y < length g → Same g x g y → class_of of x ≡ class_of of y) → u < length g → v < length g → Same g u g v → HasKidIn g of class place u → HasKidIn g of class place v
  kid_beside of class place u v coarse u_in v_in s (x, here, c) =
      let e : length (kids_of g u) ≡ length (kids_of g v) = kids_from_label g g u v is is u_in v_in (same_label g u v (same_shown g u v s)) in
      let y = get_beside (kids_of g u) (kids_of g v) place x e here in
      (y.0, y.1, sym (coarse x y.0 (kid_in g u place x is u_in here) (kid_in g v place y.0 is v_in y.1) (same_kids g u v place x y.0 s here y.1)) ∙ c)

  pub split_start : (old : List ℕ) (class count : ℕ) (rest : List Edge) → ((u v : ℕ) → u < length g → v < length g → Same g u g v → class_of old u ≡ class_of old v) →
      ((u place : ℕ) → u < length g → HasKidIn g old class place u → Contains rest (record { node = u; place = place })) → IsSplitTo g old old class count rest
  split_start old class count rest coarse all = record {
    moved = λ u h. inl refl;
    refines = λ u v u_in v_in e. e;
    coarse = coarse;
    split = λ u v place u_in v_in e none.
        (λ h. absurd (none u (all u place u_in h)), λ h. absurd (none v (all v place v_in h)));
  }

  -- one place more
  pub split_more : (old now new : List ℕ) (class count more here : ℕ) (rest less : List Edge) →
      ((u v : ℕ) → u < length g → v < length g → Same g u g v → class_of old u ≡ class_of old v) →
      IsSplitTo g old now class count rest → count ≤ more → length now ≡ length old → Moved now more new →
      ((place : ℕ) → IsWithout less place → (place ≡ here) ⊎ IsWithout rest place) →
      ((u v : ℕ) → u < length g → v < length g → (class_of new u ≡ class_of new v) ↔ ((class_of now u ≡ class_of now v) × (HasKidIn g old class here u ↔ HasKidIn g old class here v))) →
      IsSplitTo g old new class count less
  split_more old now new class count more here rest less coarse s le len moved cases parts = record {
    moved = λ u h. elim (moved u (omega (arith, len))) [
      | inl same ↦ elim (s.moved u h) [ inl before ↦ inl (same ∙ before) | inr behind ↦ inr (omega arith) ]
      | inr behind ↦ inr (omega arith)
    ];
    refines = λ u v u_in v_in e. s.refines u v u_in v_in ((parts u v u_in v_in).0 e).0;
    coarse = λ u v u_in v_in same. (parts u v u_in v_in).1 (s.coarse u v u_in v_in same, (kid_beside old class here u v coarse u_in v_in same, kid_beside old class here v u coarse v_in u_in (same_sym g u v same)));
    split = λ u v place u_in v_in e none.
        let p = (parts u v u_in v_in).0 e in
        elim (cases place none) [
          | inl same ↦
              let P : ℕ → Type 0 = λ k. HasKidIn g old class k u ↔ HasKidIn g old class k v in
              subst P (sym same) p.1
          | inr without ↦ s.split u v place u_in v_in p.0 without
        ];
  }

  -- kids that were together wait or are together
  stay_together : (old now : List ℕ) (next count x y : ℕ) → Moved old count now → next < count → x < length old → y < length old → class_of old x ≡ class_of old y → Waits now (next + 1) x y
  stay_together old now next count x y moved lt x_in y_in e =
      elim (moved x x_in) [
        | inl a ↦ elim (moved y y_in) [ inl b ↦ inl (a ∙ e ∙ sym b) | inr b ↦ inr (inr (omega arith)) ]
        | inr a ↦ inr (inl (omega arith))
      ]

  -- kids that waited go on to wait after the class
  still_waits : (old now : List ℕ) (next count x y : ℕ) → Moved old count now → next < count → x < length old → y < length old → (class_of old x ≡ next → class_of old y ≡ next) → (class_of old y ≡ next → class_of old x ≡ next) → Waits old next x y → Waits now (next + 1) x y
  still_waits old now next count x y moved lt x_in y_in there back (inl e) = stay_together old now next count x y moved lt x_in y_in e
  still_waits old now next count x y moved lt x_in y_in there back (inr (inl e)) =
      elim (moved x x_in) [
        | inl a ↦ elim (cases_lt next (class_of old x)) [
          | inl above ↦ inr (inl (omega arith))
          | inr le ↦
              let here : class_of old x ≡ next = omega arith in
              stay_together old now next count x y moved lt x_in y_in (here ∙ sym (there here))
        ]
        | inr a ↦ inr (inl (omega arith))
      ]
  still_waits old now next count x y moved lt x_in y_in there back (inr (inr e)) =
      elim (moved y y_in) [
        | inl a ↦ elim (cases_lt next (class_of old y)) [
          | inl above ↦ inr (inr (omega arith))
          | inr le ↦
              let here : class_of old y ≡ next = omega arith in
              stay_together old now next count x y moved lt x_in y_in (back here ∙ sym here)
        ]
        | inr a ↦ inr (inr (omega arith))
      ]

  same_place : (old : List ℕ) (class place u v x y : ℕ) → (HasKidIn g old class place u → HasKidIn g old class place v) → slice_get (kids_of g u) place ≡ Some x → slice_get (kids_of g v) place ≡ Some y → class_of old x ≡ class → class_of old y ≡ class
  same_place old class place u v x y there left right c =
      let h = there (x, left, c) in
      ap (class_of old) (same_Some y h.0 (sym right ∙ h.1)) ∙ h.2

  -- where no edge is left the class has parted all that it parts
  pub refine_more : (old now : List ℕ) (next count : ℕ) (rest : List Edge) → IsRefining g old next → IsSplitTo g old now next count rest → length rest ≡ 0 → next < count → length old ≡ length g → IsRefining g now (next + 1)
  refine_more old now next count rest r s empty lt len = record {
    coarse = s.coarse;
    shown = λ u v u_in v_in e. r.shown u v u_in v_in (s.refines u v u_in v_in e);
    follows = λ u v k x y u_in v_in e left right.
        let x_in : x < length old = omega (arith, kid_in g u k x is u_in left, len) in
        let y_in : y < length old = omega (arith, kid_in g v k y is v_in right, len) in
        let both = s.split u v k u_in v_in e (λ node h. omega (arith, h.1, empty)) in
        still_waits old now next count x y s.moved lt x_in y_in (same_place old next k u v x y both.0 left right) (same_place old next k v u y x both.1 right left)
        (r.follows u v k x y u_in v_in (s.refines u v u_in v_in e) left right);
  }

  -- at the end nothing waits
  pub refine_done : (of : List ℕ) (next count : ℕ) → IsRefining g of next → count ≤ next → length of ≡ length g → ((u : ℕ) → u < length g → class_of of u < count) → AreTrees g of
  refine_done of next count r le len below u v u_in v_in =
      let R : ℕ → ℕ → Type 0 = λ i j. (i < length g) × (j < length g) × (class_of of i ≡ class_of of j) in
      let bisim : IsBisimulation (kids_of g) (shown_at g) (kids_of g) (shown_at g) R = record {
        shown = λ i j h. r.shown i j h.0 h.1 h.2;
        count = λ i j h. kids_from_label g g i j is is h.0 h.1 (same_label g i j (r.shown i j h.0 h.1 h.2));
        follows = λ i j k x y h left right.
            let x_in : x < length g = kid_in g i k x is h.0 left in
            let y_in : y < length g = kid_in g j k y is h.1 right in (
              x_in,
              y_in,
              elim (r.follows i j k x y h.0 h.1 h.2 left right) [
                | inl e ↦ e
                | inr w ↦ elim w [ inl a ↦ absurd (omega (arith, below x x_in, a)) | inr a ↦ absurd (omega (arith, below y y_in, a)) ]
              ],
            );
      } in
      (λ e path. same_from_bisimulation (kids_of g) (shown_at g) (kids_of g) (shown_at g) R bisim u v (u_in, v_in, e) path, λ s. r.coarse u v u_in v_in s)
