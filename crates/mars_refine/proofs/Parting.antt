-- A partition of nodes, laid out in one order.
use Rattle.std.proofs.Common.{◌≡◌, ◌≢◌, ◌⊎◌, ℕ, ◌<◌, ◌≤◌, ◌+◌, ◌-◌, List, [], ◌∷◌, ◌++◌, Bool, true, false, length, get_or, set, take, drop, replicate, refl, sym, subst, ap, ◌∙◌, arith, inl, inr, Contains, length-set}
use Rattle.std.proofs.lemmas.Bool.{cases_lt, cases_eq}
use Rattle.std.proofs.lemmas.List.{get_or_read, length-take, length-take-le, length-drop, get_or-take, get_or-drop, get_or_default, length_push, length-replicate, get_or-replicate, get_or_push, get_or-set_same, get_or-set_other, get_or_append_left}
use Rattle.mars_tree.proofs.Pigeonhole.{pigeonhole, Twice}
use Rattle.mars_refine.specs.declared.classes.Span.{Span}
use Rattle.mars_refine.specs.Refine.{class_of}
use Rattle.mars_base.specs.Lists.{AreDistinct}
use Rattle.mars_refine.specs.Classes.{is_marked, AreMembers}
use Rattle.std.proofs.Common.{Some, slice_get}
use Rattle.std.proofs.lemmas.Option.{slice_get_within, get_or_from_slice_get}
use Rattle.mars_refine.specs.Writes.{put_all}
use Rattle.mars_refine.specs.ClassesInside.{at_place, span_of, IsOrder, HasSpans, SplitsOne}
use Rattle.mars_refine.proofs.Moving.{no_span}
use Rattle.mars_refine.proofs.Writing.{set_cases, true_or_false, length-put_all, put_all-there, put_all-other}

-- two halves of a span
pub record Halves (s m e a b c d : ℕ) : Type 0 where
  pub less_some : a < b
  pub more_some : c < d
  pub less_from : s ≤ a
  pub less_to : b ≤ e
  pub more_from : s ≤ c
  pub more_to : d ≤ e
  pub one : (p : ℕ) → s ≤ p → p < e → ((a ≤ p) × (p < b)) ⊎ ((c ≤ p) × (p < d))
  pub not_both : (p : ℕ) → a ≤ p → p < b → c ≤ p → p < d → ⊥
  pub both_less : (p q : ℕ) → a ≤ p → p < b → a ≤ q → q < b → p < m → q < m
  pub both_more : (p q : ℕ) → c ≤ p → p < d → c ≤ q → q < d → p < m → q < m
  pub apart : (p q : ℕ) → a ≤ p → p < b → c ≤ q → q < d → p < m → m ≤ q
  pub apart' : (p q : ℕ) → a ≤ p → p < b → c ≤ q → q < d → m ≤ p → q < m

pub front_back : (s m e : ℕ) → s < m → m < e → Halves s m e s m m e
front_back s m e lo hi = record {
  less_some = lo;
  more_some = hi;
  less_from = omega arith;
  less_to = omega arith;
  more_from = omega arith;
  more_to = omega arith;
  one = λ p h l. elim (cases_lt p m) [ inl lt ↦ inl (h, lt) | inr le ↦ inr (le, l) ];
  not_both = λ p h1 h2 h3 h4. omega arith;
  both_less = λ p q h1 h2 h3 h4 h5. omega arith;
  both_more = λ p q h1 h2 h3 h4 h5. omega arith;
  apart = λ p q h1 h2 h3 h4 h5. omega arith;
  apart' = λ p q h1 h2 h3 h4 h5. omega arith;
}

pub back_front : (s m e : ℕ) → s < m → m < e → Halves s m e m e s m
back_front s m e lo hi = record {
  less_some = hi;
  more_some = lo;
  less_from = omega arith;
  less_to = omega arith;
  more_from = omega arith;
  more_to = omega arith;
  one = λ p h l. elim (cases_lt p m) [ inl lt ↦ inr (h, lt) | inr le ↦ inl (le, l) ];
  not_both = λ p h1 h2 h3 h4. omega arith;
  both_less = λ p q h1 h2 h3 h4 h5. omega arith;
  both_more = λ p q h1 h2 h3 h4 h5. omega arith;
  apart = λ p q h1 h2 h3 h4 h5. omega arith;
  apart' = λ p q h1 h2 h3 h4 h5. omega arith;
}

-- what is in a part of a list
pub in_part : (xs : List ℕ) (a b u : ℕ) → b ≤ length xs → (i : ℕ) × ((a ≤ i) × (i < b) × (at_place xs i ≡ u)) → Contains (take (b - a) (drop a xs)) u
in_part xs a b u le (i, h) =
    let size : length (take (b - a) (drop a xs)) ≡ b - a = length-take-le (b - a) (drop a xs) (omega (arith, length-drop a xs)) in
    let k : i - a < b - a = omega (arith, h.0, h.1) in
    let e : a + (i - a) ≡ i = omega (arith, h.0) in
    let here : get_or (take (b - a) (drop a xs)) (i - a) u ≡ u =
    get_or-take (b - a) (drop a xs) (i - a) u k ∙ get_or-drop a xs (i - a) u ∙ ap (λ j. get_or xs j u) e ∙ get_or_default xs i u 0 (omega (arith, h.1)) ∙ h.2 in
    (i - a, omega (arith, size, k), here)

pub from_part : (xs : List ℕ) (a b u : ℕ) → b ≤ length xs → Contains (take (b - a) (drop a xs)) u → (i : ℕ) × ((a ≤ i) × (i < b) × (at_place xs i ≡ u))
from_part xs a b u le (k, within, here) =
    let le' : length (take (b - a) (drop a xs)) ≤ b - a = omega (arith, length-take (b - a) (drop a xs)) in
    let k_lt : k < b - a = omega arith in
    let e : get_or xs (a + k) 0 ≡ u =
    get_or_default xs (a + k) 0 u (omega arith) ∙ sym (get_or-drop a xs k u) ∙ sym (get_or-take (b - a) (drop a xs) k u k_lt) ∙ here in
    (a + k, (omega arith, omega arith, e))

module _ (of order place : List ℕ) (spans : List Span) (marked : List Bool) (is : HasSpans of order place spans marked) where
  -- a value written at the nodes of a part of the order
  pub put_part : {X : Type 0} (xs : List X) (a b u : ℕ) (v d : X) → length xs ≡ length of → b ≤ length of → u < length of →
      ((a ≤ at_place place u) × (at_place place u < b) × (get_or (put_all xs (take (b - a) (drop a order)) v) u d ≡ v))
      ⊎ (((a ≤ at_place place u) → (at_place place u < b) → ⊥) × (get_or (put_all xs (take (b - a) (drop a order)) v) u d ≡ get_or xs u d))
  put_part xs a b u v d size b_le u_in =
      let order_le : b ≤ length order = omega (arith, is.ordered.order_size) in
      let out : ((a ≤ at_place place u) → (at_place place u < b) → ⊥) → get_or (put_all xs (take (b - a) (drop a order)) v) u d ≡ get_or xs u d = λ no_place.
      put_all-other xs (take (b - a) (drop a order)) v d u (λ there.
      let f = from_part order a b u order_le there in
      let e : at_place place u ≡ f.0 = ap (at_place place) (sym f.1.2) ∙ is.ordered.back f.0 (omega (arith, f.1.1)) in
      no_place (omega (arith, e, f.1.0)) (omega (arith, e, f.1.1))) in
      elim (cases_lt (at_place place u) a) [
        | inl lt ↦ inr (λ lo hi. omega arith, out (λ lo hi. omega arith))
        | inr lo ↦ elim (cases_lt (at_place place u) b) [
          | inl hi ↦ inl (lo, hi, put_all-there xs (take (b - a) (drop a order)) v d u (in_part order a b u order_le (at_place place u, (lo, hi, is.ordered.there u u_in))) (omega (arith, size)))
          | inr le ↦ inr (λ lo hi. omega arith, out (λ lo hi. omega arith))
        ]
      ]

  module _ (class : ℕ) (less more : Span) (class_in : class < length spans)
      (h : Halves (span_of spans class).start (span_of spans class).middle (span_of spans class).end less.start less.end more.start more.end)
      (less_is : less.middle ≡ less.start) (more_is : more.middle ≡ more.start) where
    abbrev the_span : Span
    the_span = span_of spans class

    abbrev new_of : List ℕ
    new_of = put_all of (take (less.end - less.start) (drop less.start order)) (length spans)

    abbrev new_spans : List Span
    new_spans = set (spans ++ less ∷ []) class more

    abbrev new_marked : List Bool
    new_marked = put_all marked (take (the_span.middle - the_span.start) (drop the_span.start order)) false

    -- a node of the class is in its span
    in_span : (u : ℕ) → u < length of → class_of of u ≡ class → (the_span.start ≤ at_place place u) × (at_place place u < the_span.end)
    in_span u u_in e = (
      omega (arith, is.from_start u u_in, ap (λ c. (span_of spans c).start) e),
      omega (arith, is.to_end u u_in, ap (λ c. (span_of spans c).end) e),
    )

    class_from_place : (u : ℕ) → u < length of → the_span.start ≤ at_place place u → at_place place u < the_span.end → class_of of u ≡ class
    class_from_place u u_in lo hi = sym (ap (class_of of) (is.ordered.there u u_in)) ∙ is.inside class (at_place place u) class_in lo hi

    -- a node is in the new class, or in its old one
    of_cases : (u : ℕ) → u < length of →
        ((less.start ≤ at_place place u) × (at_place place u < less.end) × (class_of new_of u ≡ length spans) × (class_of of u ≡ class))
        ⊎ (((less.start ≤ at_place place u) → (at_place place u < less.end) → ⊥) × (class_of new_of u ≡ class_of of u))
    of_cases u u_in = elim (put_part of less.start less.end u (length spans) 0 refl (omega (arith, h.less_to, is.end_le class class_in)) u_in) [
      | inl k ↦ inl (k.0, k.1, k.2, class_from_place u u_in (omega (arith, k.0, h.less_from)) (omega (arith, k.1, h.less_to)))
      | inr k ↦ inr k
    ]

    mark_cases : (u : ℕ) → u < length of →
        ((class_of of u ≡ class) × (is_marked new_marked u ≡ false))
        ⊎ (((the_span.start ≤ at_place place u) → (at_place place u < the_span.middle) → ⊥) × (is_marked new_marked u ≡ is_marked marked u))
    mark_cases u u_in = elim (put_part marked the_span.start the_span.middle u false false is.marks_size (omega (arith, is.middle_le class class_in, is.end_le class class_in)) u_in) [
      | inl k ↦ inl (class_from_place u u_in k.0 (omega (arith, k.1, is.middle_le class class_in)), k.2)
      | inr k ↦ inr k
    ]

    count_is : length new_spans ≡ length spans + 1
    count_is = length-set (spans ++ less ∷ []) class more ∙ length_push spans less

    span_new : span_of new_spans (length spans) ≡ less
    span_new = get_or-set_other (spans ++ less ∷ []) class (length spans) more no_span (λ e. omega (arith, e, class_in)) ∙ get_or_push spans less no_span (length spans) refl

    span_class : span_of new_spans class ≡ more
    span_class = get_or-set_same (spans ++ less ∷ []) class more no_span (omega (arith, length_push spans less, class_in))

    span_old : (d : ℕ) → d < length spans → (d ≡ class → ⊥) → span_of new_spans d ≡ span_of spans d
    span_old d d_in other = get_or-set_other (spans ++ less ∷ []) class d more no_span other ∙ get_or_append_left spans (less ∷ []) no_span d d_in

    -- the new span of each class
    span_cases : (d : ℕ) → d < length new_spans → ((d ≡ length spans) × (span_of new_spans d ≡ less)) ⊎ (((d ≡ class) × (span_of new_spans d ≡ more)) ⊎ ((d < length spans) × (d ≡ class → ⊥) × (span_of new_spans d ≡ span_of spans d)))
    span_cases d d_in = elim (cases_eq d (length spans)) [
      | inl e ↦ inl (e, ap (span_of new_spans) e ∙ span_new)
      | inr other ↦ elim (cases_eq d class) [
        | inl e ↦ inr (inl (e, ap (span_of new_spans) e ∙ span_class))
        | inr apart ↦
            let d_old : d < length spans = omega (arith, count_is) in
            inr (inr (d_old, apart, span_old d d_old apart))
      ]
    ]

    new_start : (u : ℕ) → (v : Span) → (s : Span) → v ≡ s → v.start ≡ s.start
    new_start u v s e = ap (λ (x : Span). x.start) e

    new_middle : (v s : Span) → v ≡ s → v.middle ≡ s.middle
    new_middle v s e = ap (λ (x : Span). x.middle) e

    new_end : (v s : Span) → v ≡ s → v.end ≡ s.end
    new_end v s e = ap (λ (x : Span). x.end) e

    -- where a node is in its new class
    in_new : (u : ℕ) → u < length of → ((span_of new_spans (class_of new_of u)).start ≤ at_place place u) × (at_place place u < (span_of new_spans (class_of new_of u)).end)
    in_new u u_in = elim (of_cases u u_in) [
      | inl k ↦
          let e : span_of new_spans (class_of new_of u) ≡ less = ap (span_of new_spans) k.2 ∙ span_new in
          (omega (arith, k.0, new_start 0 _ _ e), omega (arith, k.1, new_end _ _ e))
      | inr k ↦ elim (cases_eq (class_of of u) class) [
        | inl here ↦
            let e : span_of new_spans (class_of new_of u) ≡ more = ap (span_of new_spans) (k.1 ∙ here) ∙ span_class in
            let s = in_span u u_in here in
            elim (h.one (at_place place u) s.0 s.1) [
              | inl q ↦ absurd (k.0 q.0 q.1)
              | inr q ↦ (omega (arith, q.0, new_start 0 _ _ e), omega (arith, q.1, new_end _ _ e))
            ]
        | inr other ↦
            let e : span_of new_spans (class_of new_of u) ≡ span_of spans (class_of of u) = ap (span_of new_spans) k.1 ∙ span_old (class_of of u) (is.of_in u u_in) other in
            (omega (arith, is.from_start u u_in, new_start 0 _ _ e), omega (arith, is.to_end u u_in, new_end _ _ e))
      ]
    ]

    pub split_keeps : HasSpans new_of order place new_spans new_marked
    split_keeps =
        let size : length new_of ≡ length of = length-put_all of (take (less.end - less.start) (drop less.start order)) (length spans) in
        record {
          ordered = subst (λ (n : ℕ). IsOrder n order place) (sym size) is.ordered;
          marks_size = length-put_all marked (take (the_span.middle - the_span.start) (drop the_span.start order)) false ∙ is.marks_size ∙ sym size;
          of_in = λ u u_in. let u_in' : u < length of = omega (arith, size) in elim (of_cases u u_in') [
            | inl k ↦ omega (arith, k.2, count_is)
            | inr k ↦ omega (arith, k.1, is.of_in u u_in', count_is)
          ];
          start_le = λ d d_in. elim (span_cases d d_in) [
            | inl k ↦ omega (arith, new_start 0 _ _ k.1, new_middle _ _ k.1, less_is)
            | inr q ↦ elim q [
              | inl k ↦ omega (arith, new_start 0 _ _ k.1, new_middle _ _ k.1, more_is)
              | inr k ↦ omega (arith, new_start 0 _ _ k.2, new_middle _ _ k.2, is.start_le d k.0)
            ]
          ];
          middle_le = λ d d_in. elim (span_cases d d_in) [
            | inl k ↦ omega (arith, new_end _ _ k.1, new_middle _ _ k.1, less_is, h.less_some)
            | inr q ↦ elim q [
              | inl k ↦ omega (arith, new_end _ _ k.1, new_middle _ _ k.1, more_is, h.more_some)
              | inr k ↦ omega (arith, new_end _ _ k.2, new_middle _ _ k.2, is.middle_le d k.0)
            ]
          ];
          end_le = λ d d_in. elim (span_cases d d_in) [
            | inl k ↦ omega (arith, new_end _ _ k.1, h.less_to, is.end_le class class_in, size)
            | inr q ↦ elim q [
              | inl k ↦ omega (arith, new_end _ _ k.1, h.more_to, is.end_le class class_in, size)
              | inr k ↦ omega (arith, new_end _ _ k.2, is.end_le d k.0, size)
            ]
          ];
          some = λ d d_in. elim (span_cases d d_in) [
            | inl k ↦ omega (arith, new_start 0 _ _ k.1, new_end _ _ k.1, h.less_some)
            | inr q ↦ elim q [
              | inl k ↦ omega (arith, new_start 0 _ _ k.1, new_end _ _ k.1, h.more_some)
              | inr k ↦ omega (arith, new_start 0 _ _ k.2, new_end _ _ k.2, is.some d k.0)
            ]
          ];
          from_start = λ u u_in. (in_new u (omega (arith, size))).0;
          to_end = λ u u_in. (in_new u (omega (arith, size))).1;
          inside = λ d i d_in from to.
              let u = at_place order i in
              elim (span_cases d d_in) [
                | inl k ↦
                    let i_in : i < length of = omega (arith, new_end _ _ k.1, h.less_to, is.end_le class class_in) in
                    let e : at_place place u ≡ i = is.ordered.back i i_in in
                    elim (of_cases u (is.ordered.node_in i i_in)) [
                      | inl q ↦ q.2 ∙ sym k.0
                      | inr q ↦ absurd (q.0 (omega (arith, e, new_start 0 _ _ k.1)) (omega (arith, e, new_end _ _ k.1)))
                    ]
                | inr r ↦ elim r [
                  | inl k ↦
                      let i_in : i < length of = omega (arith, new_end _ _ k.1, h.more_to, is.end_le class class_in) in
                      let e : at_place place u ≡ i = is.ordered.back i i_in in
                      let lo : more.start ≤ i = omega (arith, new_start 0 _ _ k.1) in
                      let hi : i < more.end = omega (arith, new_end _ _ k.1) in
                      elim (of_cases u (is.ordered.node_in i i_in)) [
                        | inl q ↦ absurd (h.not_both i (omega (arith, e, q.0)) (omega (arith, e, q.1)) lo hi)
                        | inr q ↦ q.1 ∙ is.inside class i class_in (omega (arith, lo, h.more_from)) (omega (arith, hi, h.more_to)) ∙ sym k.0
                      ]
                  | inr k ↦
                      let i_in : i < length of = omega (arith, new_end _ _ k.2, is.end_le d k.0) in
                      let old : class_of of u ≡ d = is.inside d i k.0 (omega (arith, new_start 0 _ _ k.2)) (omega (arith, new_end _ _ k.2)) in
                      elim (of_cases u (is.ordered.node_in i i_in)) [
                        | inl q ↦ absurd (k.1 (sym old ∙ q.3))
                        | inr q ↦ q.1 ∙ old
                      ]
                ]
              ];
          front = λ u u_in mark. let u_in' : u < length of = omega (arith, size) in
              elim (mark_cases u u_in') [
                | inl k ↦ absurd (let e : true ≡ false = sym mark ∙ k.1 in cc)
                | inr k ↦
                    let before : at_place place u < (span_of spans (class_of of u)).middle = is.front u u_in' (sym k.1 ∙ mark) in
                    let other : class_of of u ≡ class → ⊥ = λ e. k.0 (in_span u u_in' e).0 (omega (arith, before, ap (λ c. (span_of spans c).middle) e)) in
                    elim (of_cases u u_in') [
                      | inl q ↦ absurd (other q.3)
                      | inr q ↦ omega (arith, before, new_middle _ _ (ap (span_of new_spans) q.1 ∙ span_old (class_of of u) (is.of_in u u_in') other))
                    ]
              ];
          behind = λ u u_in no_mark. let u_in' : u < length of = omega (arith, size) in
              elim (of_cases u u_in') [
                | inl q ↦ omega (arith, q.0, less_is, new_middle _ _ (ap (span_of new_spans) q.2 ∙ span_new))
                | inr q ↦ elim (cases_eq (class_of of u) class) [
                  | inl here ↦
                      let s = in_span u u_in' here in
                      elim (h.one (at_place place u) s.0 s.1) [
                        | inl r ↦ absurd (q.0 r.0 r.1)
                        | inr r ↦ omega (arith, r.0, more_is, new_middle _ _ (ap (span_of new_spans) (q.1 ∙ here) ∙ span_class))
                      ]
                  | inr other ↦ elim (mark_cases u u_in') [
                    | inl k ↦ absurd (other k.0)
                    | inr k ↦ omega (arith, is.behind u u_in' (sym k.1 ∙ no_mark), new_middle _ _ (ap (span_of new_spans) q.1 ∙ span_old (class_of of u) (is.of_in u u_in') other))
                  ]
                ]
              ];
        }

    -- the marks of two nodes of the class are told by their places
    mark_place : (u : ℕ) → u < length of → class_of of u ≡ class → ((is_marked marked u ≡ true) × (at_place place u < the_span.middle)) ⊎ ((is_marked marked u ≡ false) × (the_span.middle ≤ at_place place u))
    mark_place u u_in e =
        let m : (span_of spans (class_of of u)).middle ≡ the_span.middle = ap (λ c. (span_of spans c).middle) e in
        elim (true_or_false (is_marked marked u)) [
          | inl mark ↦ inl (mark, omega (arith, m, is.front u u_in mark))
          | inr no_mark ↦ inr (no_mark, omega (arith, m, is.behind u u_in no_mark))
        ]

    same_marks : (u v : ℕ) → u < length of → v < length of → class_of of u ≡ class → class_of of v ≡ class → (at_place place u < the_span.middle → at_place place v < the_span.middle) → (at_place place v < the_span.middle → at_place place u < the_span.middle) → is_marked marked u ≡ is_marked marked v
    same_marks u v u_in v_in e f there back = elim (mark_place u u_in e) [
      | inl a ↦ elim (mark_place v v_in f) [ inl b ↦ a.0 ∙ sym b.0 | inr b ↦ absurd (omega (arith, there a.1, b.1)) ]
      | inr a ↦ elim (mark_place v v_in f) [ inl b ↦ absurd (omega (arith, back b.1, a.1)) | inr b ↦ a.0 ∙ sym b.0 ]
    ]

    other_marks : (u v : ℕ) → u < length of → v < length of → class_of of u ≡ class → class_of of v ≡ class → (at_place place u < the_span.middle → the_span.middle ≤ at_place place v) → (the_span.middle ≤ at_place place u → at_place place v < the_span.middle) → is_marked marked u ≡ is_marked marked v → ⊥
    other_marks u v u_in v_in e f there back same = elim (mark_place u u_in e) [
      | inl a ↦ elim (mark_place v v_in f) [ inl b ↦ omega (arith, there a.1, b.1) | inr b ↦ let w : true ≡ false = sym a.0 ∙ same ∙ b.0 in cc ]
      | inr a ↦ elim (mark_place v v_in f) [ inl b ↦ let w : true ≡ false = sym b.0 ∙ sym same ∙ a.0 in cc | inr b ↦ omega (arith, back a.1, b.1) ]
    ]

    more_place : (u : ℕ) → u < length of → class_of of u ≡ class → ((less.start ≤ at_place place u) → (at_place place u < less.end) → ⊥) → (more.start ≤ at_place place u) × (at_place place u < more.end)
    more_place u u_in e out = let s = in_span u u_in e in elim (h.one (at_place place u) s.0 s.1) [
      | inl q ↦ absurd (out q.0 q.1)
      | inr q ↦ q
    ]

    parts_there : (u v : ℕ) → u < length of → v < length of → class_of new_of u ≡ class_of new_of v → (class_of of u ≡ class_of of v) × (class_of of u ≡ class → is_marked marked u ≡ is_marked marked v)
    parts_there u v u_in v_in e = elim (of_cases u u_in) [
      | inl a ↦ elim (of_cases v v_in) [
        | inl b ↦ (a.3 ∙ sym b.3, λ here. same_marks u v u_in v_in a.3 b.3 (h.both_less _ _ a.0 a.1 b.0 b.1) (h.both_less _ _ b.0 b.1 a.0 a.1))
        | inr b ↦ absurd (omega (arith, sym a.2 ∙ e ∙ b.1, is.of_in v v_in))
      ]
      | inr a ↦ elim (of_cases v v_in) [
        | inl b ↦ absurd (omega (arith, sym b.2 ∙ sym e ∙ a.1, is.of_in u u_in))
        | inr b ↦
            let old : class_of of u ≡ class_of of v = sym a.1 ∙ e ∙ b.1 in (
              old,
              λ here.
                  let p = more_place u u_in here a.0 in
                  let q = more_place v v_in (sym old ∙ here) b.0 in
                  same_marks u v u_in v_in here (sym old ∙ here) (h.both_more _ _ p.0 p.1 q.0 q.1) (h.both_more _ _ q.0 q.1 p.0 p.1),
            )
      ]
    ]

    parts_back : (u v : ℕ) → u < length of → v < length of → class_of of u ≡ class_of of v → (class_of of u ≡ class → is_marked marked u ≡ is_marked marked v) → class_of new_of u ≡ class_of new_of v
    parts_back u v u_in v_in e marks = elim (of_cases u u_in) [
      | inl a ↦ elim (of_cases v v_in) [
        | inl b ↦ a.2 ∙ sym b.2
        | inr b ↦
            let f : class_of of v ≡ class = sym e ∙ a.3 in
            let q = more_place v v_in f b.0 in
            absurd (other_marks u v u_in v_in a.3 f (h.apart _ _ a.0 a.1 q.0 q.1) (h.apart' _ _ a.0 a.1 q.0 q.1) (marks a.3))
      ]
      | inr a ↦ elim (of_cases v v_in) [
        | inl b ↦
            let f : class_of of u ≡ class = e ∙ b.3 in
            let q = more_place u u_in f a.0 in
            absurd (other_marks v u v_in u_in b.3 f (h.apart _ _ b.0 b.1 q.0 q.1) (h.apart' _ _ b.0 b.1 q.0 q.1) (sym (marks f)))
        | inr b ↦ a.1 ∙ e ∙ sym b.1
      ]
    ]

    pub splits_one : SplitsOne class (record { of = of; count = length spans; marked = marked }) (record { of = new_of; count = length new_spans; marked = new_marked })
    splits_one = record {
      size = length-put_all of (take (less.end - less.start) (drop less.start order)) (length spans);
      more = omega (arith, count_is);
      moved = λ u u_in. elim (of_cases u u_in) [ inl k ↦ inr (omega (arith, k.2)) | inr k ↦ inl k.1 ];
      others = λ u u_in other. elim (of_cases u u_in) [
        | inl k ↦ absurd (other k.3)
        | inr k ↦ elim (mark_cases u u_in) [ inl q ↦ absurd (other q.0) | inr q ↦ (k.1, q.1) ]
      ];
      parts = λ u v u_in v_in. (parts_there u v u_in v_in, λ k. parts_back u v u_in v_in k.0 k.1);
      unmarked = λ u u_in e. elim (mark_cases u u_in) [
        | inl k ↦ k.1
        | inr k ↦ elim (mark_place u u_in e) [
          | inl q ↦ absurd (k.0 (in_span u u_in e).0 q.1)
          | inr q ↦ k.1 ∙ q.0
        ]
      ];
    }

  module _ (class : ℕ) (class_in : class < length spans)
      (whole : ((span_of spans class).middle ≤ (span_of spans class).start) ⊎ ((span_of spans class).end ≤ (span_of spans class).middle)) where
    abbrev here : Span
    here = span_of spans class

    abbrev kept_spans : List Span
    kept_spans = set spans class (record { start = here.start; middle = here.start; end = here.end })

    abbrev kept_marked : List Bool
    kept_marked = put_all marked (take (here.middle - here.start) (drop here.start order)) false

    kept_cases : (d : ℕ) → ((d ≡ class) × (span_of kept_spans d ≡ record { start = here.start; middle = here.start; end = here.end })) ⊎ ((d ≢ class) × (span_of kept_spans d ≡ span_of spans d))
    kept_cases d = set_cases spans class d (record { start = here.start; middle = here.start; end = here.end }) no_span class_in

    kept_start : (d : ℕ) → (span_of kept_spans d).start ≡ (span_of spans d).start
    kept_start d = elim (kept_cases d) [
      | inl k ↦ ap (λ (x : Span). x.start) k.1 ∙ ap (λ e. (span_of spans e).start) (sym k.0)
      | inr k ↦ ap (λ (x : Span). x.start) k.1
    ]

    kept_end : (d : ℕ) → (span_of kept_spans d).end ≡ (span_of spans d).end
    kept_end d = elim (kept_cases d) [
      | inl k ↦ ap (λ (x : Span). x.end) k.1 ∙ ap (λ e. (span_of spans e).end) (sym k.0)
      | inr k ↦ ap (λ (x : Span). x.end) k.1
    ]

    kept_middle : (d : ℕ) → ((d ≡ class) × ((span_of kept_spans d).middle ≡ (span_of spans d).start)) ⊎ ((d ≢ class) × ((span_of kept_spans d).middle ≡ (span_of spans d).middle))
    kept_middle d = elim (kept_cases d) [
      | inl k ↦ inl (k.0, ap (λ (x : Span). x.middle) k.1 ∙ ap (λ e. (span_of spans e).start) (sym k.0))
      | inr k ↦ inr (k.0, ap (λ (x : Span). x.middle) k.1)
    ]

    mark_kept : (u : ℕ) → u < length of →
        ((class_of of u ≡ class) × (is_marked kept_marked u ≡ false))
        ⊎ (((here.start ≤ at_place place u) → (at_place place u < here.middle) → ⊥) × (is_marked kept_marked u ≡ is_marked marked u))
    mark_kept u u_in = elim (put_part marked here.start here.middle u false false is.marks_size (omega (arith, is.middle_le class class_in, is.end_le class class_in)) u_in) [
      | inl k ↦ inl (sym (ap (class_of of) (is.ordered.there u u_in)) ∙ is.inside class (at_place place u) class_in k.0 (omega (arith, k.1, is.middle_le class class_in)), k.2)
      | inr k ↦ inr k
    ]

    in_here : (u : ℕ) → u < length of → class_of of u ≡ class → (here.start ≤ at_place place u) × (at_place place u < here.end)
    in_here u u_in e = (omega (arith, is.from_start u u_in, ap (λ c. (span_of spans c).start) e), omega (arith, is.to_end u u_in, ap (λ c. (span_of spans c).end) e))

    mark_at : (u : ℕ) → u < length of → class_of of u ≡ class → ((is_marked marked u ≡ true) × (at_place place u < here.middle)) ⊎ ((is_marked marked u ≡ false) × (here.middle ≤ at_place place u))
    mark_at u u_in e =
        let m : (span_of spans (class_of of u)).middle ≡ here.middle = ap (λ c. (span_of spans c).middle) e in
        elim (true_or_false (is_marked marked u)) [
          | inl mark ↦ inl (mark, omega (arith, m, is.front u u_in mark))
          | inr no_mark ↦ inr (no_mark, omega (arith, m, is.behind u u_in no_mark))
        ]

    -- where one part is empty, the nodes of the class are all marked or all not
    one_mark : (u v : ℕ) → u < length of → v < length of → class_of of u ≡ class → class_of of v ≡ class → is_marked marked u ≡ is_marked marked v
    one_mark u v u_in v_in e f =
        let p = in_here u u_in e in let q = in_here v v_in f in
        elim (mark_at u u_in e) [
          | inl a ↦ elim (mark_at v v_in f) [
            | inl b ↦ a.0 ∙ sym b.0
            | inr b ↦ absurd (elim whole [ inl w ↦ omega (arith, p.0, a.1) | inr w ↦ omega (arith, q.1, b.1) ])
          ]
          | inr a ↦ elim (mark_at v v_in f) [
            | inl b ↦ absurd (elim whole [ inl w ↦ omega (arith, q.0, b.1) | inr w ↦ omega (arith, p.1, a.1) ])
            | inr b ↦ a.0 ∙ sym b.0
          ]
        ]

    pub unmark_keeps : HasSpans of order place kept_spans kept_marked
    unmark_keeps =
        let size : length kept_spans ≡ length spans = length-set spans class (record { start = here.start; middle = here.start; end = here.end }) in
        record {
          ordered = is.ordered;
          marks_size = length-put_all marked (take (here.middle - here.start) (drop here.start order)) false ∙ is.marks_size;
          of_in = λ u h. omega (arith, size, is.of_in u h);
          start_le = λ d h. elim (kept_middle d) [
            | inl k ↦ omega (arith, kept_start d, k.1)
            | inr k ↦ omega (arith, kept_start d, k.1, is.start_le d (omega (arith, size)))
          ];
          middle_le = λ d h. let d_in : d < length spans = omega (arith, size) in elim (kept_middle d) [
            | inl k ↦ omega (arith, kept_end d, k.1, is.some d d_in)
            | inr k ↦ omega (arith, kept_end d, k.1, is.middle_le d d_in)
          ];
          end_le = λ d h. omega (arith, kept_end d, is.end_le d (omega (arith, size)));
          some = λ d h. omega (arith, kept_start d, kept_end d, is.some d (omega (arith, size)));
          from_start = λ u h. omega (arith, kept_start (class_of of u), is.from_start u h);
          to_end = λ u h. omega (arith, kept_end (class_of of u), is.to_end u h);
          inside = λ d i h from to. is.inside d i (omega (arith, size)) (omega (arith, kept_start d)) (omega (arith, kept_end d));
          front = λ u u_in mark. elim (mark_kept u u_in) [
            | inl k ↦ absurd (let e : true ≡ false = sym mark ∙ k.1 in cc)
            | inr k ↦
                let before : at_place place u < (span_of spans (class_of of u)).middle = is.front u u_in (sym k.1 ∙ mark) in
                elim (kept_middle (class_of of u)) [
                  | inl q ↦ absurd (k.0 (in_here u u_in q.0).0 (omega (arith, before, ap (λ c. (span_of spans c).middle) q.0)))
                  | inr q ↦ omega (arith, before, q.1)
                ]
          ];
          behind = λ u u_in no_mark. elim (kept_middle (class_of of u)) [
            | inl q ↦ omega (arith, q.1, is.from_start u u_in)
            | inr q ↦ elim (mark_kept u u_in) [
              | inl k ↦ absurd (q.0 k.0)
              | inr k ↦ omega (arith, q.1, is.behind u u_in (sym k.1 ∙ no_mark))
            ]
          ];
        }

    pub unmarks_one : SplitsOne class (record { of = of; count = length spans; marked = marked }) (record { of = of; count = length kept_spans; marked = kept_marked })
    unmarks_one = record {
      size = refl;
      more = omega (arith, length-set spans class (record { start = here.start; middle = here.start; end = here.end }));
      moved = λ u u_in. inl refl;
      others = λ u u_in other. elim (mark_kept u u_in) [ inl q ↦ absurd (other q.0) | inr q ↦ (refl, q.1) ];
      parts = λ u v u_in v_in. (λ e. (e, λ f. one_mark u v u_in v_in f (sym e ∙ f)), λ k. k.0);
      unmarked = λ u u_in e. elim (mark_kept u u_in) [
        | inl k ↦ k.1
        | inr k ↦ elim (mark_at u u_in e) [
          | inl q ↦ absurd (k.0 (in_here u u_in e).0 q.1)
          | inr q ↦ k.1 ∙ q.0
        ]
      ];
    }

  -- the nodes in the span of a class are its members
  pub members_are : (class : ℕ) → class < length spans → AreMembers of class (take ((span_of spans class).end - (span_of spans class).start) (drop (span_of spans class).start order))
  members_are class class_in u =
      let s = span_of spans class in
      let le : s.end ≤ length order = omega (arith, is.end_le class class_in, is.ordered.order_size) in (
        λ there.
            let f = from_part order s.start s.end u le there in
            let i_in : f.0 < length of = omega (arith, f.1.1, is.end_le class class_in) in
            (subst (λ (v : ℕ). v < length of) f.1.2 (is.ordered.node_in f.0 i_in), sym (ap (class_of of) f.1.2) ∙ is.inside class f.0 class_in f.1.0 f.1.1),
        λ h. in_part order s.start s.end u le (at_place place u, (omega (arith, is.from_start u h.0, ap (λ c. (span_of spans c).start) h.1), omega (arith, is.to_end u h.0, ap (λ c. (span_of spans c).end) h.1), is.ordered.there u h.0)),
      )

  -- and each is there once
  pub members_once : (class : ℕ) → class < length spans → AreDistinct (take ((span_of spans class).end - (span_of spans class).start) (drop (span_of spans class).start order))
  members_once class class_in i j u left right =
      let s = span_of spans class in
      let to : s.end ≤ length of = is.end_le class class_in in
      let size : length (take (s.end - s.start) (drop s.start order)) ≤ s.end - s.start = omega (arith, length-take (s.end - s.start) (drop s.start order)) in
      let stands : (k : ℕ) → slice_get (take (s.end - s.start) (drop s.start order)) k ≡ Some u → at_place place u ≡ s.start + k = λ k here.
      let k_in : k < s.end - s.start = omega (arith, slice_get_within (take (s.end - s.start) (drop s.start order)) k u here, size) in
      let read : at_place order (s.start + k) ≡ u = sym (get_or-drop s.start order k 0) ∙ sym (get_or-take (s.end - s.start) (drop s.start order) k 0 k_in) ∙ get_or_from_slice_get (take (s.end - s.start) (drop s.start order)) k u 0 here in
      sym (ap (at_place place) read) ∙ is.ordered.back (s.start + k) (omega arith) in
      omega (arith, stands i left, stands j right)

  pub some_members : (class : ℕ) → class < length spans → 0 < length (take ((span_of spans class).end - (span_of spans class).start) (drop (span_of spans class).start order))
  some_members class class_in =
      let s = span_of spans class in
      omega (arith, length-take-le (s.end - s.start) (drop s.start order) (omega (arith, length-drop s.start order, is.end_le class class_in, is.ordered.order_size)), is.some class class_in)

  -- there are at most as many classes as nodes
  pub few_classes : length spans ≤ length of
  few_classes = elim (cases_lt (length of) (length spans)) [
    | inl more ↦
        let first : ℕ → ℕ = λ c. at_place order (span_of spans c).start in
        let class_in : (c : ℕ) → c ≤ length of → c < length spans = λ c le. omega arith in
        let start_in : (c : ℕ) → c ≤ length of → (span_of spans c).start < length of = λ c le. omega (arith, is.some c (class_in c le), is.end_le c (class_in c le)) in
        let class_is : (c : ℕ) → c ≤ length of → class_of of (first c) ≡ c = λ c le. is.inside c (span_of spans c).start (class_in c le) (omega arith) (is.some c (class_in c le)) in
        let twice : Twice (length of) first = pigeonhole (length of) first (λ c le. is.ordered.node_in (span_of spans c).start (start_in c le)) in
        let i_le : twice.i ≤ length of = omega (arith, twice.before, twice.within) in
        let j_le : twice.j ≤ length of = omega (arith, twice.within) in
        absurd (omega (arith, sym (class_is twice.i i_le) ∙ ap (class_of of) twice.same ∙ class_is twice.j j_le, twice.before))
    | inr le ↦ le
  ]

-- a part of the order that is read
part_read : (order other xs : List ℕ) (a b a' b' : ℕ) → other ≡ order → xs ≡ take (b - a) (drop a other) → a ≡ a' → b ≡ b' → xs ≡ take (b' - a') (drop a' order)
part_read order other xs a b a' b' e f g h = f ∙ ap (λ ys. take (b - a) (drop a ys)) e ∙ ap (λ k. take (k - a) (drop a order)) h ∙ ap (λ k. take (b' - k) (drop k order)) g

abbrev front_of : Span → Span
front_of s = record { start = s.start; middle = s.start; end = s.middle }

abbrev back_of : Span → Span
back_of s = record { start = s.middle; middle = s.middle; end = s.end }

-- what is written where a class is parted
pub part_done : (of order place : List ℕ) (spans : List Span) (marked : List Bool) → HasSpans of order place spans marked →
    (class n : ℕ) (s : Span) (pair : Span × Span) (spans1 : List Span) (o1 xs1 of1 o2 xs2 : List ℕ) (marked1 : List Bool) →
    class < length spans → s ≡ get_or spans class s → (span_of spans class).start < (span_of spans class).middle → (span_of spans class).middle < (span_of spans class).end →
    ((pair ≡ (front_of s, back_of s)) ⊎ (pair ≡ (back_of s, front_of s))) → spans1 ≡ spans ++ pair.0 ∷ [] → n ≡ length spans →
    o1 ≡ order → xs1 ≡ take (pair.0.end - pair.0.start) (drop pair.0.start o1) → of1 ≡ put_all of xs1 n → o2 ≡ order → xs2 ≡ take (s.middle - s.start) (drop s.start o2) → marked1 ≡ put_all marked xs2 false →
    HasSpans of1 order place (set spans1 class pair.1) marked1 × SplitsOne class (record { of = of; count = length spans; marked = marked }) (record { of = of1; count = length (set spans1 class pair.1); marked = marked1 })
part_done of order place spans marked is class n s pair spans1 o1 xs1 of1 o2 xs2 marked1 class_in read lo hi choice spans_is n_is o1_is xs1_is of_is o2_is xs2_is marked_is =
    let S = span_of spans class in
    let e : s ≡ S = get_or_read spans class s class_in read no_span in
    let Fits : Span × Span → Type 0 = λ p. Halves S.start S.middle S.end p.0.start p.0.end p.1.start p.1.end × (p.0.middle ≡ p.0.start) × (p.1.middle ≡ p.1.start) in
    let fits : Fits pair = elim choice [
      | inl k ↦
          let P : Span → Type 0 = λ t. Fits (front_of t, back_of t) in
          subst Fits (sym k) (subst P (sym e) (front_back S.start S.middle S.end lo hi, refl, refl))
      | inr k ↦
          let P : Span → Type 0 = λ t. Fits (back_of t, front_of t) in
          subst Fits (sym k) (subst P (sym e) (back_front S.start S.middle S.end lo hi, refl, refl))
    ] in
    let less = pair.0 in let more = pair.1 in
    let of1_is : of1 ≡ put_all of (take (less.end - less.start) (drop less.start order)) (length spans) =
    of_is ∙ ap (put_all of xs1) n_is ∙ ap (λ xs. put_all of xs (length spans)) (part_read order o1 xs1 less.start less.end less.start less.end o1_is xs1_is refl refl) in
    let marked1_is : marked1 ≡ put_all marked (take (S.middle - S.start) (drop S.start order)) false =
    marked_is ∙ ap (λ xs. put_all marked xs false) (part_read order o2 xs2 s.start s.middle S.start S.middle o2_is xs2_is (ap (λ (x : Span). x.start) e) (ap (λ (x : Span). x.middle) e)) in
    rw (of1_is, marked1_is, spans_is) (
      split_keeps of order place spans marked is class less more class_in fits.0 fits.1 fits.2,
      splits_one of order place spans marked is class less more class_in fits.0 fits.1 fits.2,
    )

pub unmark_done : (of order place : List ℕ) (spans : List Span) (marked : List Bool) → HasSpans of order place spans marked →
    (class : ℕ) (s : Span) (o2 xs2 : List ℕ) (marked1 : List Bool) → class < length spans → s ≡ get_or spans class s →
    ((span_of spans class).middle ≤ (span_of spans class).start) ⊎ ((span_of spans class).end ≤ (span_of spans class).middle) →
    o2 ≡ order → xs2 ≡ take (s.middle - s.start) (drop s.start o2) → marked1 ≡ put_all marked xs2 false →
    HasSpans of order place (set spans class (record { start = s.start; middle = s.start; end = s.end })) marked1 × SplitsOne class (record { of = of; count = length spans; marked = marked }) (record { of = of; count = length (set spans class (record { start = s.start; middle = s.start; end = s.end })); marked = marked1 })
unmark_done of order place spans marked is class s o2 xs2 marked1 class_in read whole o2_is xs2_is marked_is =
    let S = span_of spans class in
    let e : s ≡ S = get_or_read spans class s class_in read no_span in
    let marked1_is : marked1 ≡ put_all marked (take (S.middle - S.start) (drop S.start order)) false =
    marked_is ∙ ap (λ xs. put_all marked xs false) (part_read order o2 xs2 s.start s.middle S.start S.middle o2_is xs2_is (ap (λ (x : Span). x.start) e) (ap (λ (x : Span). x.middle) e)) in
    let Goal : Span → List Bool → Type 0 = λ t m. HasSpans of order place (set spans class (record { start = t.start; middle = t.start; end = t.end })) m × SplitsOne class (record { of = of; count = length spans; marked = marked }) (record { of = of; count = length (set spans class (record { start = t.start; middle = t.start; end = t.end })); marked = m }) in
    let done : Goal S (put_all marked (take (S.middle - S.start) (drop S.start order)) false) = (unmark_keeps of order place spans marked is class class_in whole, unmarks_one of order place spans marked is class class_in whole) in
    subst (λ (t : Span). Goal t marked1) (sym e) (subst (λ (m : List Bool). Goal S m) (sym marked1_is) done)

-- all nodes in one class
pub one_class : (count : ℕ) (of order place : List ℕ) (spans : List Span) (marked : List Bool) → of ≡ replicate count 0 → marked ≡ replicate count false →
    ((i : ℕ) → i < count → at_place order i ≡ i) → length order ≡ count → ((i : ℕ) → i < count → at_place place i ≡ i) → length place ≡ count →
    ((0 < count) × (spans ≡ record { start = 0; middle = 0; end = count } ∷ [])) ⊎ ((count ≡ 0) × (spans ≡ [])) → HasSpans of order place spans marked
one_class count of order place spans marked of_is marked_is order_is order_size place_is place_size (inr (none, spans_is)) =
    let size : length of ≡ count = ap length of_is ∙ length-replicate count 0 in
    let empty : length spans ≡ 0 = ap length spans_is in
    record {
      ordered = record {
        order_size = order_size ∙ sym size;
        place_size = place_size ∙ sym size;
        node_in = λ i h. absurd (omega arith);
        place_in = λ i h. absurd (omega arith);
        there = λ i h. absurd (omega arith);
        back = λ i h. absurd (omega arith);
      };
      marks_size = ap length marked_is ∙ length-replicate count false ∙ sym size;
      of_in = λ u h. absurd (omega arith);
      start_le = λ c h. absurd (omega arith);
      middle_le = λ c h. absurd (omega arith);
      end_le = λ c h. absurd (omega arith);
      some = λ c h. absurd (omega arith);
      from_start = λ u h. absurd (omega arith);
      to_end = λ u h. absurd (omega arith);
      inside = λ c i h from to. absurd (omega arith);
      front = λ u h mark. absurd (omega arith);
      behind = λ u h free. absurd (omega arith);
    }
one_class count of order place spans marked of_is marked_is order_is order_size place_is place_size (inl (some, spans_is)) =
    let size : length of ≡ count = ap length of_is ∙ length-replicate count 0 in
    let one : length spans ≡ 1 = ap length spans_is in
    let zero_of : (u : ℕ) → u < length of → class_of of u ≡ 0 = λ u h. ap (λ xs. class_of xs u) of_is ∙ get_or-replicate count u 0 0 (omega arith) in
    let span_is : (c : ℕ) → c ≡ 0 → span_of spans c ≡ record { start = 0; middle = 0; end = count } = λ c e. ap (span_of spans) e ∙ ap (λ xs. span_of xs 0) spans_is in
    let start : (c : ℕ) → c ≡ 0 → (span_of spans c).start ≡ 0 = λ c e. ap (λ (x : Span). x.start) (span_is c e) in
    let middle : (c : ℕ) → c ≡ 0 → (span_of spans c).middle ≡ 0 = λ c e. ap (λ (x : Span). x.middle) (span_is c e) in
    let end' : (c : ℕ) → c ≡ 0 → (span_of spans c).end ≡ count = λ c e. ap (λ (x : Span). x.end) (span_is c e) in
    record {
      ordered = record {
        order_size = order_size ∙ sym size;
        place_size = place_size ∙ sym size;
        node_in = λ i h. omega (arith, order_is i (omega arith));
        place_in = λ i h. omega (arith, place_is i (omega arith));
        there = λ i h. ap (at_place order) (place_is i (omega arith)) ∙ order_is i (omega arith);
        back = λ i h. ap (at_place place) (order_is i (omega arith)) ∙ place_is i (omega arith);
      };
      marks_size = ap length marked_is ∙ length-replicate count false ∙ sym size;
      of_in = λ u h. omega (arith, zero_of u h, one);
      start_le = λ c h. let z : c ≡ 0 = omega arith in omega (arith, start c z);
      middle_le = λ c h. let z : c ≡ 0 = omega arith in omega (arith, middle c z);
      end_le = λ c h. let z : c ≡ 0 = omega arith in omega (arith, end' c z, size);
      some = λ c h. let z : c ≡ 0 = omega arith in omega (arith, start c z, end' c z);
      from_start = λ u h. omega (arith, start (class_of of u) (zero_of u h));
      to_end = λ u h. omega (arith, end' (class_of of u) (zero_of u h), place_is u (omega arith), size);
      inside = λ c i h from to. let z : c ≡ 0 = omega arith in
          let i_in : i < count = omega (arith, end' c z) in
          ap (class_of of) (order_is i i_in) ∙ zero_of i (omega arith) ∙ sym z;
      front = λ u h mark. absurd (let e : true ≡ false = sym mark ∙ ap (λ m. is_marked m u) marked_is ∙ get_or-replicate count u false false (omega arith) in cc);
      behind = λ u h free. omega (arith, middle (class_of of u) (zero_of u h));
    }
