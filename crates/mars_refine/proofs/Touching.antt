-- The classes of marked nodes, which are parted one after another.
use Rattle.std.proofs.Common.{◌≡◌, ◌≢◌, ◌⊎◌, ℕ, zero, suc, ◌<◌, ◌≤◌, List, [], ◌∷◌, ◌++◌, Bool, true, false, length, set, sym, subst, ap, ◌∙◌, arith, inl, inr, Contains}
use Rattle.std.proofs.lemmas.Bool.{cases_lt, cases_eq}
use Rattle.std.proofs.lemmas.List.Elements.{Contains-append_left, Contains-push, Contains-push_cases, All-weaker}
use Rattle.mars_refine.specs.declared.classes.Span.{Span}
use Rattle.mars_refine.specs.Refine.{class_of}
use Rattle.mars_refine.specs.Classes.{Parted, IsSplit, is_marked}
use Rattle.mars_refine.specs.ClassesInside.{at_place, span_of, HasSpans, AreTouched, SplitsOne, SplitsEach}
use Rattle.mars_refine.proofs.Writing.{set_cases, true_or_false}

not_either : (y : ℕ) (xs : List ℕ) (x : ℕ) → (y ≡ x → ⊥) → (Contains xs x → ⊥) → Contains (y ∷ xs) x → ⊥
not_either y xs x other none (zero, within, e) = other e
not_either y xs x other none (suc k, within, e) = none (k, omega arith, e)

pub cases_contains : (xs : List ℕ) (x : ℕ) → Contains xs x ⊎ (Contains xs x → ⊥)
cases_contains [] x = inr (λ h. omega (arith, h.1))
cases_contains (y ∷ xs) x = elim (cases_eq y x) [
  | inl e ↦ inl (zero, omega arith, e)
  | inr other ↦ elim (cases_contains xs x) [
    | inl h ↦ inl (suc h.0, omega (arith, h.1), h.2)
    | inr none ↦ inr (λ h. not_either y xs x other none h)
  ]
]

last_contains : (done : List ℕ) (class x : ℕ) → class ≡ x → Contains (done ++ class ∷ []) x
last_contains done class x e = subst (λ (y : ℕ). Contains (done ++ class ∷ []) y) e (Contains-push done class)

push_contains : (done : List ℕ) (class x : ℕ) → Contains (done ++ class ∷ []) x → Contains done x ⊎ (class ≡ x)
push_contains done class x h = Contains-push_cases done class x h

-- one class more
pub split_next : (done : List ℕ) (class : ℕ) (old now new : Parted) → class < old.count → SplitsEach done old now → SplitsOne class now new → SplitsEach (done ++ class ∷ []) old new
split_next done class old now new class_in s one =
    let from_class : (u : ℕ) → u < length old.of → class_of now.of u ≡ class → class_of old.of u ≡ class = λ u u_in e. elim (s.moved u u_in) [
      | inl same ↦ sym same ∙ e
      | inr behind ↦ absurd (omega arith)
    ] in
    let size = s.size in
    let within : (u : ℕ) → u < length old.of → u < length now.of = λ u h. omega (arith, size) in
    record {
      size = one.size ∙ s.size;
      more = omega (arith, one.more, s.more);
      moved = λ u u_in. elim (one.moved u (within u u_in)) [
        | inl same ↦ elim (s.moved u u_in) [ inl before ↦ inl (same ∙ before) | inr behind ↦ inr (omega arith) ]
        | inr behind ↦ inr (omega (arith, behind, s.more))
      ];
      parts = λ u v u_in v_in. (
        λ e.
            let p = (one.parts u v (within u u_in) (within v v_in)).0 e in
            let q = (s.parts u v u_in v_in).0 p.0 in (
              q.0,
              λ there. elim (cases_contains done (class_of old.of u)) [
                | inl before ↦ q.1 before
                | inr none ↦ elim (push_contains done class (class_of old.of u) there) [
                  | inl before ↦ absurd (none before)
                  | inr here ↦
                      let a = s.others u u_in none in
                      let b = s.others v v_in (λ h. none (subst (λ (c : ℕ). Contains done c) (sym q.0) h)) in
                      sym a.1 ∙ p.1 (a.0 ∙ sym here) ∙ b.1
                ]
              ],
            ),
        λ k.
            (one.parts u v (within u u_in) (within v v_in)).1 (
              (s.parts u v u_in v_in).1 (k.0, λ h. k.1 (Contains-append_left done (class ∷ []) (class_of old.of u) h)),
              λ e.
                  let here : class_of old.of u ≡ class = from_class u u_in e in
                  elim (cases_contains done (class_of old.of u)) [
                    | inl before ↦ s.unmarked u u_in before ∙ sym (s.unmarked v v_in (subst (λ (c : ℕ). Contains done c) k.0 before))
                    | inr none ↦
                        let a = s.others u u_in none in
                        let b = s.others v v_in (λ h. none (subst (λ (c : ℕ). Contains done c) (sym k.0) h)) in
                        a.1 ∙ k.1 (last_contains done class (class_of old.of u) (sym here)) ∙ sym b.1
                  ],
            ),
      );
      others = λ u u_in none.
          let a = s.others u u_in (λ h. none (Contains-append_left done (class ∷ []) (class_of old.of u) h)) in
          let b = one.others u (within u u_in) (λ e. none (last_contains done class (class_of old.of u) (sym (sym a.0 ∙ e)))) in
          (b.0 ∙ a.0, b.1 ∙ a.1);
      unmarked = λ u u_in there. elim (cases_eq (class_of now.of u) class) [
        | inl e ↦ one.unmarked u (within u u_in) e
        | inr other ↦
            let b = one.others u (within u u_in) other in
            elim (cases_contains done (class_of old.of u)) [
              | inl before ↦ b.1 ∙ s.unmarked u u_in before
              | inr none ↦ elim (push_contains done class (class_of old.of u) there) [
                | inl before ↦ absurd (none before)
                | inr here ↦ absurd (other ((s.others u u_in none).0 ∙ sym here))
              ]
            ]
      ];
    }

-- in the middle, the marks that are left are those of classes in the list
pub still_touched : (done touched : List ℕ) (old now : Parted) → AreTouched old touched → SplitsEach done old now → AreTouched now touched
still_touched done touched old now t s = record {
  below = All-weaker (λ c. c < old.count) (λ c. c < now.count) (λ c h. omega (arith, s.more)) touched t.below;
  each = λ u u_in mark.
      let u_in' : u < length old.of = omega (arith, s.size) in
      elim (cases_contains done (class_of old.of u)) [
        | inl before ↦ absurd (let e : true ≡ false = sym mark ∙ s.unmarked u u_in' before in cc)
        | inr none ↦
            let a = s.others u u_in' none in
            subst (λ (c : ℕ). Contains touched c) (sym a.0) (t.each u u_in' (sym a.1 ∙ mark))
      ];
}

-- at the end all is parted
pub split_all : (touched : List ℕ) (old now : Parted) → AreTouched old touched → SplitsEach touched old now → IsSplit old now
split_all touched old now t s =
    let no_mark : (u : ℕ) → u < length old.of → (Contains touched (class_of old.of u) → ⊥) → is_marked old.marked u ≡ false = λ u u_in none. elim (true_or_false (is_marked old.marked u)) [
      | inl mark ↦ absurd (none (t.each u u_in mark))
      | inr free ↦ free
    ] in
    record {
      size = s.size;
      more = s.more;
      moved = s.moved;
      parts = λ u v u_in v_in. (
        λ e.
            let p = (s.parts u v u_in v_in).0 e in (
              p.0,
              elim (cases_contains touched (class_of old.of u)) [
                | inl there ↦ p.1 there
                | inr none ↦ no_mark u u_in none ∙ sym (no_mark v v_in (λ h. none (subst (λ (c : ℕ). Contains touched c) (sym p.0) h)))
              ],
            ),
        λ k. (s.parts u v u_in v_in).1 (k.0, λ h. k.1),
      );
      unmarked = λ u u_in. elim (cases_contains touched (class_of old.of u)) [
        | inl there ↦ s.unmarked u u_in there
        | inr none ↦ (s.others u u_in none).1 ∙ no_mark u u_in none
      ];
    }

module _ (of order place : List ℕ) (spans : List Span) (marked : List Bool) (is : HasSpans of order place spans marked) where
  -- the class of the first marked node of a class is in the list
  pub touched_before : (touched : List ℕ) (class : ℕ) → class < length spans → AreTouched (record { of = of; count = length spans; marked = marked }) touched → (span_of spans class).start ≢ (span_of spans class).middle → Contains touched class
  touched_before touched class class_in t apart =
      let s = span_of spans class in
      let lt : s.start < s.middle = elim (cases_lt s.start s.middle) [ inl h ↦ h | inr h ↦ absurd (apart (omega (arith, is.start_le class class_in))) ] in
      let to : s.middle ≤ s.end = is.middle_le class class_in in
      let start_in : s.start < length of = omega (arith, is.end_le class class_in) in
      let first : ℕ = at_place order s.start in
      let first_in : first < length of = is.ordered.node_in s.start start_in in
      let class_is : class_of of first ≡ class = is.inside class s.start class_in (omega arith) (omega arith) in
      let mark : is_marked marked first ≡ true = elim (true_or_false (is_marked marked first)) [
        | inl set ↦ set
        | inr unset ↦ absurd (omega (arith, is.behind first first_in unset, is.ordered.back s.start start_in, ap (λ c. (span_of spans c).middle) class_is))
      ] in
      subst (Contains touched) class_is (t.each first first_in mark)

  -- a node of a class in the list is marked
  pub touched_more : (touched : List ℕ) (node : ℕ) (of' : List ℕ) (marked' : List Bool) (count : ℕ) → node < length of → AreTouched (record { of = of; count = length spans; marked = marked }) touched → Contains touched (class_of of node) →
      of' ≡ of → count ≡ length spans → marked' ≡ set marked node true → AreTouched (record { of = of'; count = count; marked = marked' }) touched
  touched_more touched node of' marked' count node_in t there f g h = record {
    below = rw g t.below;
    each = λ u u_in mark. rw f (elim (set_cases marked node u true false (omega (arith, is.marks_size))) [
      | inl k ↦ subst (λ (v : ℕ). Contains touched (class_of of v)) (sym k.0) there
      | inr k ↦ t.each u (omega (arith, ap length f)) (sym k.1 ∙ sym (ap (λ m. is_marked m u) h) ∙ mark)
    ]);
  }
