-- Which nodes are marked, from their places.
use Rattle.std.proofs.Common.{◌≡◌, ℕ, ◌<◌, List, Bool, true, false, length, ltb, set, sym, arith, subst, ap, ◌∙◌, inl, inr}
use Rattle.std.proofs.lemmas.Bool.{lt-ltb, le-ltb}
use Rattle.std.proofs.lemmas.List.{ext_get_or, set-get_or}
use Rattle.std.proofs.lemmas.List.FromFn.{length-map-range_with_len, get_or-map-range_with_len}
use Rattle.mars_refine.specs.declared.classes.Span.{Span}
use Rattle.mars_refine.specs.Refine.{class_of}
use Rattle.mars_refine.specs.Classes.{Parted, is_marked}
use Rattle.mars_refine.specs.ClassesInside.{at_place, span_of, HasSpans, SplitsOne, marks_of}
use Rattle.mars_refine.proofs.Writing.{true_or_false}

pub marks_read : (of place : List ℕ) (spans : List Span) (u : ℕ) → u < length of → is_marked (marks_of of place spans) u ≡ ltb (at_place place u) (span_of spans (class_of of u)).middle
marks_read of place spans u u_in = get_or-map-range_with_len (λ v. ltb (at_place place v) (span_of spans (class_of of v)).middle) 0 (length of) u u false u_in (omega arith)

-- the marks are as the places say
pub marks_are : (of order place : List ℕ) (spans : List Span) (marked : List Bool) → HasSpans of order place spans marked → marked ≡ marks_of of place spans
marks_are of order place spans marked is =
    ext_get_or false marked (marks_of of place spans) (is.marks_size ∙ sym (length-map-range_with_len (λ u. ltb (at_place place u) (span_of spans (class_of of u)).middle) 0 (length of)))
    (λ u h.
    let u_in : u < length of = subst (λ (n : ℕ). u < n) is.marks_size h in
    elim (true_or_false (is_marked marked u)) [
      | inl mark ↦ mark ∙ sym (marks_read of place spans u u_in ∙ lt-ltb (at_place place u) (span_of spans (class_of of u)).middle (is.front u u_in mark))
      | inr free ↦ free ∙ sym (marks_read of place spans u u_in ∙ le-ltb (at_place place u) (span_of spans (class_of of u)).middle (is.behind u u_in free))
    ])

pub as_they_stand : (of order place : List ℕ) (spans : List Span) (marked : List Bool) → HasSpans of order place spans marked → HasSpans of order place spans (marks_of of place spans)
as_they_stand of order place spans marked is = subst (HasSpans of order place spans) (marks_are of order place spans marked is) is

pub split_as_they_stand : (class count : ℕ) (old : Parted) (of order place : List ℕ) (spans : List Span) (marked : List Bool) → HasSpans of order place spans marked → SplitsOne class old (record { of = of; count = count; marked = marked }) → SplitsOne class old (record { of = of; count = count; marked = marks_of of place spans })
split_as_they_stand class count old of order place spans marked is s = subst (λ (m : List Bool). SplitsOne class old (record { of = of; count = count; marked = m })) (marks_are of order place spans marked is) s

-- a node before the middle is marked already
pub marked_before : (of place : List ℕ) (spans : List Span) (u : ℕ) → u < length of → at_place place u < (span_of spans (class_of of u)).middle → marks_of of place spans ≡ set (marks_of of place spans) u true
marked_before of place spans u u_in lt =
    let here : is_marked (marks_of of place spans) u ≡ true = marks_read of place spans u u_in ∙ lt-ltb (at_place place u) (span_of spans (class_of of u)).middle lt in
    sym (ap (set (marks_of of place spans) u) (sym here) ∙ set-get_or (marks_of of place spans) u false)
