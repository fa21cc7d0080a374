-- A node that moves to the front of its class and is marked.
use Rattle.std.proofs.Common.{◌≡◌, ◌≢◌, ◌⊎◌, ◌↔◌, ℕ, ◌<◌, ◌≤◌, ◌+◌, ◌-◌, List, Bool, true, false, length, get_or, set, refl, sym, subst, ap, ◌∙◌, arith, inl, inr, length-set}
use Rattle.std.proofs.lemmas.Bool.{cases_lt}
use Rattle.std.proofs.lemmas.List.{get_or_read}
use Rattle.mars_refine.specs.declared.classes.Span.{Span}
use Rattle.mars_refine.specs.Refine.{class_of}
use Rattle.mars_refine.specs.Classes.{is_marked, IsAlone}
use Rattle.mars_refine.specs.ClassesInside.{at_place, span_of, IsOrder, HasSpans}
use Rattle.mars_refine.proofs.Writing.{set_cases}

abbrev pub no_span : Span
no_span = record { start = 0; middle = 0; end = 0 }

-- two nodes change places
pub swapped : (size : ℕ) (order place : List ℕ) (at middle node other : ℕ) → IsOrder size order place → at < size → middle < size → at_place order at ≡ node → at_place order middle ≡ other →
    IsOrder size (set (set order at other) middle node) (set (set place other at) node middle)
swapped size order place at middle node other is at_in middle_in at_is middle_is =
    let node_lt : node < size = omega (arith, is.node_in at at_in) in
    let other_lt : other < size = omega (arith, is.node_in middle middle_in) in
    let order' = set (set order at other) middle node in
    let place' = set (set place other at) node middle in
    let at_node : at_place place node ≡ at = sym (ap (at_place place) at_is) ∙ is.back at at_in in
    let at_other : at_place place other ≡ middle = sym (ap (at_place place) middle_is) ∙ is.back middle middle_in in
    let s1 : length (set order at other) ≡ size = length-set order at other ∙ is.order_size in
    let s2 : length (set place other at) ≡ size = length-set place other at ∙ is.place_size in
    let o1 : at < length order = omega (arith, is.order_size) in
    let o2 : middle < length (set order at other) = omega (arith, s1) in
    let p1 : other < length place = omega (arith, is.place_size) in
    let p2 : node < length (set place other at) = omega (arith, s2) in
    let order_is : (i : ℕ) → ((i ≡ middle) × (at_place order' i ≡ node)) ⊎ ((i ≢ middle) × (((i ≡ at) × (at_place order' i ≡ other)) ⊎ ((i ≢ at) × (at_place order' i ≡ at_place order i)))) = λ i. elim (set_cases (set order at other) middle i node 0 o2) [
      | inl h ↦ inl h
      | inr h ↦ elim (set_cases order at i other 0 o1) [ inl k ↦ inr (h.0, inl (k.0, h.1 ∙ k.1)) | inr k ↦ inr (h.0, inr (k.0, h.1 ∙ k.1)) ]
    ] in
    let place_is : (u : ℕ) → ((u ≡ node) × (at_place place' u ≡ middle)) ⊎ ((u ≢ node) × (((u ≡ other) × (at_place place' u ≡ at)) ⊎ ((u ≢ other) × (at_place place' u ≡ at_place place u)))) = λ u. elim (set_cases (set place other at) node u middle 0 p2) [
      | inl h ↦ inl h
      | inr h ↦ elim (set_cases place other u at 0 p1) [ inl k ↦ inr (h.0, inl (k.0, h.1 ∙ k.1)) | inr k ↦ inr (h.0, inr (k.0, h.1 ∙ k.1)) ]
    ] in
    record {
      order_size = length-set (set order at other) middle node ∙ s1;
      place_size = length-set (set place other at) node middle ∙ s2;
      node_in = λ i i_in. elim (order_is i) [
        | inl h ↦ omega arith
        | inr h ↦ elim h.1 [ inl k ↦ omega arith | inr k ↦ omega (arith, is.node_in i i_in) ]
      ];
      place_in = λ u u_in. elim (place_is u) [
        | inl h ↦ omega arith
        | inr h ↦ elim h.1 [ inl k ↦ omega arith | inr k ↦ omega (arith, is.place_in u u_in) ]
      ];
      there = λ u u_in. elim (place_is u) [
        | inl h ↦ elim (order_is (at_place place' u)) [
          | inl k ↦ k.1 ∙ sym h.0
          | inr k ↦ absurd (k.0 h.1)
        ]
        | inr h ↦ elim h.1 [
          | inl k ↦ elim (order_is (at_place place' u)) [
            | inl q ↦ absurd (h.0 (k.0 ∙ sym middle_is ∙ ap (at_place order) (sym q.0 ∙ k.1) ∙ at_is))
            | inr q ↦ elim q.1 [ inl r ↦ r.1 ∙ sym k.0 | inr r ↦ absurd (r.0 k.1) ]
          ]
          | inr k ↦ elim (order_is (at_place place' u)) [
            | inl q ↦ absurd (k.0 (sym (is.there u u_in) ∙ ap (at_place order) (sym k.1 ∙ q.0) ∙ middle_is))
            | inr q ↦ elim q.1 [
              | inl r ↦ absurd (h.0 (sym (is.there u u_in) ∙ ap (at_place order) (sym k.1 ∙ r.0) ∙ at_is))
              | inr r ↦ r.1 ∙ ap (at_place order) k.1 ∙ is.there u u_in
            ]
          ]
        ]
      ];
      back = λ i i_in. elim (order_is i) [
        | inl h ↦ elim (place_is (at_place order' i)) [
          | inl k ↦ k.1 ∙ sym h.0
          | inr k ↦ absurd (k.0 h.1)
        ]
        | inr h ↦ elim h.1 [
          | inl k ↦ elim (place_is (at_place order' i)) [
            | inl q ↦ absurd (h.0 (k.0 ∙ sym at_node ∙ ap (at_place place) (sym q.0 ∙ k.1) ∙ at_other))
            | inr q ↦ elim q.1 [ inl r ↦ r.1 ∙ sym k.0 | inr r ↦ absurd (r.0 k.1) ]
          ]
          | inr k ↦ elim (place_is (at_place order' i)) [
            | inl q ↦ absurd (k.0 (sym (is.back i i_in) ∙ ap (at_place place) (sym k.1 ∙ q.0) ∙ at_node))
            | inr q ↦ elim q.1 [
              | inl r ↦ absurd (h.0 (sym (is.back i i_in) ∙ ap (at_place place) (sym k.1 ∙ r.0) ∙ at_other))
              | inr r ↦ r.1 ∙ ap (at_place place) k.1 ∙ is.back i i_in
            ]
          ]
        ]
      ];
    }

is_false : (b : Bool) → (b ≡ true → ⊥) → b ≡ false
is_false true h = absurd (h refl)
is_false false h = refl

module _ (of order place : List ℕ) (spans : List Span) (marked : List Bool) (is : HasSpans of order place spans marked) where
  -- a node that is not marked moves to the middle of its class and is marked
  pub move_keeps : (node : ℕ) → node < length of → is_marked marked node ≡ false →
      let c = class_of of node in let s = span_of spans c in let at = at_place place node in let other = at_place order s.middle in
      HasSpans of (set (set order at other) s.middle node) (set (set place other at) node s.middle) (set spans c (record s { middle = s.middle + 1 })) (set marked node true)
  move_keeps node node_in free =
      let c = class_of of node in
      let s = span_of spans c in
      let m = s.middle in
      let at = at_place place node in
      let other = at_place order m in
      let s' : Span = record s { middle = m + 1 } in
      let c_in : c < length spans = is.of_in node node_in in
      let at_in : at < length of = is.ordered.place_in node node_in in
      let at_end : at < s.end = is.to_end node node_in in
      let at_behind : m ≤ at = is.behind node node_in free in
      let m_in : m < length of = omega (arith, is.end_le c c_in) in
      let at_is : at_place order at ≡ node = is.ordered.there node node_in in
      let other_in : other < length of = is.ordered.node_in m m_in in
      let place_other : at_place place other ≡ m = is.ordered.back m m_in in
      let class_other : class_of of other ≡ c = is.inside c m c_in (is.start_le c c_in) (omega arith) in
      let order' = set (set order at other) m node in
      let place' = set (set place other at) node m in
      let spans' = set spans c s' in
      let marked' = set marked node true in
      let ordered' : IsOrder (length of) order' place' = swapped (length of) order place at m node other is.ordered at_in m_in at_is refl in
      let span_is : (d : ℕ) → ((d ≡ c) × (span_of spans' d ≡ s')) ⊎ ((d ≢ c) × (span_of spans' d ≡ span_of spans d)) = λ d. set_cases spans c d s' no_span c_in in
      let marks : (u : ℕ) → ((u ≡ node) × (is_marked marked' u ≡ true)) ⊎ ((u ≢ node) × (is_marked marked' u ≡ is_marked marked u)) = λ u. set_cases marked node u true false (omega (arith, is.marks_size)) in
      let size2 : length (set place other at) ≡ length of = length-set place other at ∙ is.ordered.place_size in
      let place_is : (u : ℕ) → ((u ≡ node) × (at_place place' u ≡ m)) ⊎ ((u ≢ node) × (((u ≡ other) × (at_place place' u ≡ at)) ⊎ ((u ≢ other) × (at_place place' u ≡ at_place place u)))) = λ u. elim (set_cases (set place other at) node u m 0 (omega (arith, size2))) [
        | inl h ↦ inl h
        | inr h ↦ elim (set_cases place other u at 0 (omega (arith, is.ordered.place_size))) [ inl k ↦ inr (h.0, inl (k.0, h.1 ∙ k.1)) | inr k ↦ inr (h.0, inr (k.0, h.1 ∙ k.1)) ]
      ] in
      let order_is : (i : ℕ) → ((i ≡ m) × (at_place order' i ≡ node)) ⊎ ((i ≢ m) × (((i ≡ at) × (at_place order' i ≡ other)) ⊎ ((i ≢ at) × (at_place order' i ≡ at_place order i)))) = λ i. elim (set_cases (set order at other) m i node 0 (omega (arith, length-set order at other, is.ordered.order_size))) [
        | inl h ↦ inl h
        | inr h ↦ elim (set_cases order at i other 0 (omega (arith, is.ordered.order_size))) [ inl k ↦ inr (h.0, inl (k.0, h.1 ∙ k.1)) | inr k ↦ inr (h.0, inr (k.0, h.1 ∙ k.1)) ]
      ] in
      let size3 : length spans' ≡ length spans = length-set spans c s' in
      -- a span has the old bounds but for its middle
      let start_is : (d : ℕ) → (span_of spans' d).start ≡ (span_of spans d).start = λ d. elim (span_is d) [
        | inl h ↦ ap (λ (x : Span). x.start) h.1 ∙ ap (λ e. (span_of spans e).start) (sym h.0)
        | inr h ↦ ap (λ (x : Span). x.start) h.1
      ] in
      let end_is : (d : ℕ) → (span_of spans' d).end ≡ (span_of spans d).end = λ d. elim (span_is d) [
        | inl h ↦ ap (λ (x : Span). x.end) h.1 ∙ ap (λ e. (span_of spans e).end) (sym h.0)
        | inr h ↦ ap (λ (x : Span). x.end) h.1
      ] in
      let middle_is : (d : ℕ) → ((d ≡ c) × ((span_of spans' d).middle ≡ m + 1)) ⊎ ((d ≢ c) × ((span_of spans' d).middle ≡ (span_of spans d).middle)) = λ d. elim (span_is d) [
        | inl h ↦ inl (h.0, ap (λ (x : Span). x.middle) h.1)
        | inr h ↦ inr (h.0, ap (λ (x : Span). x.middle) h.1)
      ] in
      record {
        ordered = ordered';
        marks_size = length-set marked node true ∙ is.marks_size;
        of_in = λ u h. omega (arith, size3, is.of_in u h);
        start_le = λ d h. let d_in : d < length spans = omega arith in elim (middle_is d) [
          | inl k ↦ omega (arith, start_is d, is.start_le c c_in, ap (λ e. (span_of spans e).start) k.0)
          | inr k ↦ omega (arith, start_is d, is.start_le d d_in)
        ];
        middle_le = λ d h. let d_in : d < length spans = omega arith in elim (middle_is d) [
          | inl k ↦ omega (arith, end_is d, ap (λ e. (span_of spans e).end) k.0)
          | inr k ↦ omega (arith, end_is d, is.middle_le d d_in)
        ];
        end_le = λ d h. omega (arith, end_is d, is.end_le d (omega arith));
        some = λ d h. omega (arith, start_is d, end_is d, is.some d (omega arith));
        from_start = λ u h. elim (place_is u) [
          | inl k ↦ omega (arith, start_is (class_of of u), ap (λ v. (span_of spans (class_of of v)).start) k.0, is.start_le c c_in)
          | inr k ↦ elim k.1 [
            | inl q ↦ omega (arith, start_is (class_of of u), ap (λ v. (span_of spans (class_of of v)).start) q.0, ap (λ d. (span_of spans d).start) class_other, is.start_le c c_in)
            | inr q ↦ omega (arith, start_is (class_of of u), is.from_start u h)
          ]
        ];
        to_end = λ u h. elim (place_is u) [
          | inl k ↦ omega (arith, end_is (class_of of u), ap (λ v. (span_of spans (class_of of v)).end) k.0)
          | inr k ↦ elim k.1 [
            | inl q ↦ omega (arith, end_is (class_of of u), ap (λ v. (span_of spans (class_of of v)).end) q.0, ap (λ d. (span_of spans d).end) class_other)
            | inr q ↦ omega (arith, end_is (class_of of u), is.to_end u h)
          ]
        ];
        inside = λ d i h from to. let d_in : d < length spans = omega arith in elim (order_is i) [
          | inl k ↦ ap (class_of of) k.1 ∙ sym class_other ∙ is.inside d m d_in (omega (arith, start_is d)) (omega (arith, end_is d))
          | inr k ↦ elim k.1 [
            | inl q ↦ ap (class_of of) q.1 ∙ class_other ∙ sym (ap (class_of of) at_is) ∙ is.inside d at d_in (omega (arith, start_is d)) (omega (arith, end_is d))
            | inr q ↦ ap (class_of of) q.1 ∙ is.inside d i d_in (omega (arith, start_is d)) (omega (arith, end_is d))
          ]
        ];
        front = λ u h mark. elim (middle_is (class_of of u)) [
          | inl k ↦ elim (place_is u) [
            | inl p ↦ omega arith
            | inr p ↦ elim (marks u) [
              | inl q ↦ absurd (p.0 q.0)
              | inr q ↦
                  let before : at_place place u < (span_of spans (class_of of u)).middle = is.front u h (sym q.1 ∙ mark) in
                  let mid : (span_of spans (class_of of u)).middle ≡ m = ap (λ d. (span_of spans d).middle) k.0 in
                  elim p.1 [
                    | inl r ↦ absurd (omega (arith, ap (at_place place) r.0))
                    | inr r ↦ omega arith
                  ]
            ]
          ]
          | inr k ↦ elim (place_is u) [
            | inl p ↦ absurd (k.0 (ap (class_of of) p.0))
            | inr p ↦ elim (marks u) [
              | inl q ↦ absurd (p.0 q.0)
              | inr q ↦ elim p.1 [
                | inl r ↦ absurd (k.0 (ap (class_of of) r.0 ∙ class_other))
                | inr r ↦ omega (arith, is.front u h (sym q.1 ∙ mark))
              ]
            ]
          ]
        ];
        behind = λ u h no_mark. elim (marks u) [
          | inl q ↦ absurd (let e : true ≡ false = sym q.1 ∙ no_mark in cc)
          | inr q ↦
              let after : (span_of spans (class_of of u)).middle ≤ at_place place u = is.behind u h (sym q.1 ∙ no_mark) in
              elim (place_is u) [
                | inl p ↦ absurd (q.0 p.0)
                | inr p ↦ elim (middle_is (class_of of u)) [
                  | inl k ↦
                      let mid : (span_of spans (class_of of u)).middle ≡ m = ap (λ d. (span_of spans d).middle) k.0 in
                      elim p.1 [
                        | inl r ↦
                            elim (cases_lt m at) [
                              | inl lt ↦ omega arith
                              | inr le ↦
                                  let same : m ≡ at = omega arith in
                                  absurd (p.0 (r.0 ∙ ap (at_place order) same ∙ at_is))
                            ]
                        | inr r ↦ elim (cases_lt m (at_place place u)) [
                          | inl lt ↦ omega arith
                          | inr le ↦
                              let same : at_place place u ≡ m = omega arith in
                              absurd (r.0 (sym (is.ordered.there u h) ∙ ap (at_place order) same))
                        ]
                      ]
                  | inr k ↦ elim p.1 [
                    | inl r ↦ absurd (k.0 (ap (class_of of) r.0 ∙ class_other))
                    | inr r ↦ omega arith
                  ]
                ]
              ]
        ];
      }

  -- the span of a node's class by what is read
  span_reads : (node class : ℕ) (span : Span) → node < length of → class ≡ get_or of node 0 → span ≡ get_or spans class span → span ≡ span_of spans (class_of of node)
  span_reads node class span node_in class_is span_is =
      let e1 : class ≡ class_of of node = class_is in
      let c_in : class < length spans = omega (arith, is.of_in node node_in) in
      get_or_read spans class span c_in span_is no_span ∙ ap (span_of spans) e1

  -- a node is alone exactly where its class has one place
  pub alone_reads : (node class : ℕ) (span : Span) → node < length of → class ≡ get_or of node 0 → span ≡ get_or spans class span → (span.end - span.start ≡ 1) ↔ IsAlone of node
  alone_reads node class span node_in class_is span_is =
      let e = span_reads node class span node_in class_is span_is in
      let c = class_of of node in
      let s = span_of spans c in
      let c_in : c < length spans = is.of_in node node_in in
      let start_is : span.start ≡ s.start = ap (λ (x : Span). x.start) e in
      let end_is : span.end ≡ s.end = ap (λ (x : Span). x.end) e in
      let from : s.start ≤ at_place place node = is.from_start node node_in in
      let to : at_place place node < s.end = is.to_end node node_in in
      let end_in : s.end ≤ length of = is.end_le c c_in in (
        λ one v v_in same.
            let v_from : s.start ≤ at_place place v = omega (arith, is.from_start v v_in, ap (λ d. (span_of spans d).start) same) in
            let v_to : at_place place v < s.end = omega (arith, is.to_end v v_in, ap (λ d. (span_of spans d).end) same) in
            let at : at_place place v ≡ at_place place node = omega arith in
            sym (is.ordered.there v v_in) ∙ ap (at_place order) at ∙ is.ordered.there node node_in,
        λ alone. elim (cases_lt (s.start + 1) s.end) [
          | inr le ↦ omega arith
          | inl lt ↦
              let i : ℕ = s.start in
              let i_in : i < length of = omega arith in
              let j_in : i + 1 < length of = omega arith in
              let first : at_place order i ≡ node = alone (at_place order i) (is.ordered.node_in i i_in) (is.inside c i c_in (omega arith) (omega arith)) in
              let second : at_place order (i + 1) ≡ node = alone (at_place order (i + 1)) (is.ordered.node_in (i + 1) j_in) (is.inside c (i + 1) c_in (omega arith) lt) in
              absurd (omega (arith, is.ordered.back i i_in, is.ordered.back (i + 1) j_in, ap (at_place place) first, ap (at_place place) second))
        ],
      )

  -- what is read of a node that isn't marked
  module _ (node class at : ℕ) (span : Span) (node_in : node < length of) (class_is : class ≡ get_or of node 0) (span_is : span ≡ get_or spans class span) (at_is : at ≡ get_or place node 0) where
    at_read : at ≡ at_place place node
    at_read = at_is

    -- what is written is the number of a node or of a place
    pub move_within : (other : ℕ) → span.middle ≤ at → other ≡ get_or order span.middle 0 → (at < length of) × (span.middle < length of) × (other < length of) × (length order ≡ length of) × (length place ≡ length of)
    move_within other le other_is =
        let at_in : at < length of = omega (arith, at_read, is.ordered.place_in node node_in) in
        let middle_in : span.middle < length of = omega arith in
        (at_in, middle_in, omega (arith, other_is, is.ordered.node_in span.middle middle_in), is.ordered.order_size, is.ordered.place_size)

    -- before the middle it is marked already
    pub before_middle : at < span.middle → at_place place node < (span_of spans (class_of of node)).middle
    before_middle lt = omega (arith, at_read, ap (λ (x : Span). x.middle) (span_reads node class span node_in class_is span_is))

    free_behind : span.middle ≤ at → is_marked marked node ≡ false
    free_behind le = is_false (is_marked marked node) (λ mark. omega (arith, is.front node node_in mark, at_read, ap (λ (x : Span). x.middle) (span_reads node class span node_in class_is span_is)))

    pub room_behind : span.middle ≤ at → span.middle < span.end
    room_behind le = omega (arith, at_read, ap (λ (x : Span). x.end) (span_reads node class span node_in class_is span_is), is.to_end node node_in)

    pub move_reads : (other : ℕ) (next : Span) → span.middle ≤ at → other ≡ get_or order span.middle 0 → next ≡ record { start = span.start; middle = span.middle + 1; end = span.end } →
        HasSpans of (set (set order at other) span.middle node) (set (set place other at) node span.middle) (set spans class next) (set marked node true)
    move_reads other next le other_is next_is =
        let e1 : class ≡ class_of of node = class_is in
        let e2 : span ≡ span_of spans (class_of of node) = span_reads node class span node_in class_is span_is in
        let e4 : at ≡ at_place place node = at_read in
        let m_in : span.middle < length order = omega (arith, e4, is.ordered.place_in node node_in, is.ordered.order_size) in
        let e5 : other ≡ at_place order span.middle = other_is in
        let e6 : span.middle ≡ (span_of spans (class_of of node)).middle = ap (λ (x : Span). x.middle) e2 in
        let whole = move_keeps node node_in (free_behind le) in
        let P : (c a o : ℕ) (m : ℕ) (g : Span) → Type 0 = λ c a o m g. HasSpans of (set (set order a o) m node) (set (set place o a) node m) (set spans c (record { start = g.start; middle = m + 1; end = g.end })) (set marked node true) in
        let s = span_of spans (class_of of node) in
        let w1 : P (class_of of node) (at_place place node) (at_place order s.middle) s.middle s = whole in
        let w2 : P class at (at_place order s.middle) s.middle s = subst (λ (c : ℕ). P c at (at_place order s.middle) s.middle s) (sym e1) (subst (λ (a : ℕ). P (class_of of node) a (at_place order s.middle) s.middle s) (sym e4) w1) in
        let w3 : P class at (at_place order span.middle) span.middle s = subst (λ (m : ℕ). P class at (at_place order m) m s) (sym e6) w2 in
        let w4 : P class at other span.middle s = subst (λ (o : ℕ). P class at o span.middle s) (sym e5) w3 in
        let w5 : P class at other span.middle span = subst (λ (g : Span). P class at other span.middle g) (sym e2) w4 in
        subst (λ (s : Span). HasSpans of (set (set order at other) span.middle node) (set (set place other at) node span.middle) (set spans class s) (set marked node true)) (sym next_is) w5

    pub move_done : (other : ℕ) (next : Span) (order1 order2 place1 place2 : List ℕ) → span.middle ≤ at → other ≡ get_or order span.middle 0 → next ≡ record { start = span.start; middle = span.middle + 1; end = span.end } →
        order1 ≡ set order at other → place1 ≡ set place other at → order2 ≡ set order1 span.middle node → place2 ≡ set place1 node span.middle → HasSpans of order2 place2 (set spans class next) (set marked node true)
    move_done other next order1 order2 place1 place2 le other_is next_is o1 p1 o2 p2 =
        let o : order2 ≡ set (set order at other) span.middle node = o2 ∙ ap (λ (xs : List ℕ). set xs span.middle node) o1 in
        let p : place2 ≡ set (set place other at) node span.middle = p2 ∙ ap (λ (xs : List ℕ). set xs node span.middle) p1 in
        rw (o, p) (move_reads other next le other_is next_is)
