use Rattle.std.proofs.Common.{refl, ◌≡◌, ◌<◌, ◌-◌, ℕ, List, length, take, drop, arith, ap, sym, subst, ◌∙◌}
use Rattle.std.proofs.lemmas.List.{get_or_read}
use Rattle.mars_refine.specs.declared.classes.Span.{Span}
use Rattle.mars_base.specs.Lists.{AreDistinct}
use Rattle.mars_refine.specs.Classes.{Parted, AreMembers}
use Rattle.mars_refine.specs.ClassesInside.{span_of}
use Rattle.mars_refine.proofs.Parting.{members_are, members_once, some_members}
use Rattle.mars_refine.proofs.classes.Classes.members.Goals as goal

span_read : (spans : List Span) (class : ℕ) (span : Span) → class < length spans → span ≡ Rattle.std.proofs.Common.get_or spans class span → span ≡ span_of spans class
span_read spans class span h e = get_or_read spans class span h e (record { start = 0; middle = 0; end = 0 })

part_is : (order : List ℕ) (spans : List Span) (class : ℕ) (span : Span) (xs ys : List ℕ) → span ≡ span_of spans class → ys ≡ order → xs ≡ take (span.end - span.start) (drop span.start ys) → xs ≡ take ((span_of spans class).end - (span_of spans class).start) (drop (span_of spans class).start order)
part_is order spans class span xs ys e f g = g ∙ ap (λ (s : Span). take (s.end - s.start) (drop s.start ys)) e ∙ ap (λ zs. take ((span_of spans class).end - (span_of spans class).start) (drop (span_of spans class).start zs)) f

pub returns-clause-members : goal.returns-clause-members
returns-clause-members c =
    let class_in : c.args.class < length c.self.inside.parts.spans.items = omega (arith, ap (λ (p : Parted). p.count) c.self.view_is) in
    let e = part_is c.self.inside.parts.order.items c.self.inside.parts.spans.items c.args.class c.index-span.result.now c.part.result c.self.inside.parts.order.items (span_read c.self.inside.parts.spans.items c.args.class c.index-span.result.now class_in c.index-span.ensures) refl c.part.ensures in
    let m : AreMembers c.self.inside.parts.of.items c.args.class c.part.result = subst (AreMembers c.self.inside.parts.of.items c.args.class) (sym e) (members_are c.self.inside.parts.of.items c.self.inside.parts.order.items c.self.inside.parts.place.items c.self.inside.parts.spans.items _ c.self.invariant.0.spans c.args.class class_in) in
    subst (λ (p : Parted). AreMembers p.of c.args.class c.part.result) c.self.view_is m

pub returns-clause-once : goal.returns-clause-once
returns-clause-once c =
    let class_in : c.args.class < length c.self.inside.parts.spans.items = omega (arith, ap (λ (p : Parted). p.count) c.self.view_is) in
    let e = part_is c.self.inside.parts.order.items c.self.inside.parts.spans.items c.args.class c.index-span.result.now c.part.result c.self.inside.parts.order.items (span_read c.self.inside.parts.spans.items c.args.class c.index-span.result.now class_in c.index-span.ensures) refl c.part.ensures in
    subst (λ (xs : List ℕ). AreDistinct xs) (sym e) (members_once c.self.inside.parts.of.items c.self.inside.parts.order.items c.self.inside.parts.place.items c.self.inside.parts.spans.items _ c.self.invariant.0.spans c.args.class class_in)

pub returns-clause-some : goal.returns-clause-some
returns-clause-some c =
    let class_in : c.args.class < length c.self.inside.parts.spans.items = omega (arith, ap (λ (p : Parted). p.count) c.self.view_is) in
    let e = part_is c.self.inside.parts.order.items c.self.inside.parts.spans.items c.args.class c.index-span.result.now c.part.result c.self.inside.parts.order.items (span_read c.self.inside.parts.spans.items c.args.class c.index-span.result.now class_in c.index-span.ensures) refl c.part.ensures in
    subst (λ (xs : List ℕ). 0 < length xs) (sym e) (some_members c.self.inside.parts.of.items c.self.inside.parts.order.items c.self.inside.parts.place.items c.self.inside.parts.spans.items _ c.self.invariant.0.spans c.args.class class_in)
