use Rattle.std.proofs.Common.{◌≡◌, ◌<◌, length, arith, ap, sym, subst, ◌∙◌, Contains}
use Rattle.std.proofs.lemmas.List.{get_or_read}
use Rattle.mars_refine.specs.declared.classes.Span.{Span}
use Rattle.mars_refine.specs.Refine.{class_of}
use Rattle.mars_refine.proofs.Touching.{touched_before}
use Rattle.mars_refine.proofs.classes.touch.Goals as goal

pub returns-else-span-clause-there : goal.returns-else-span-clause-there
returns-else-span-clause-there c =
    let is = c.requires.parted.spans in
    let class_is : c.get-class.result ≡ class_of c.args.parts.now.of.items c.args.node = c.get-class.ensures in
    let class_in : c.get-class.result < length c.args.parts.now.spans.items = omega (arith, class_is, is.of_in c.args.node c.requires.node_in) in
    let span = get_or_read c.args.parts.now.spans.items c.get-class.result c.index-span.result.now class_in c.index-span.ensures (record { start = 0; middle = 0; end = 0 }) in
    let there = touched_before c.args.parts.now.of.items c.args.parts.now.order.items c.args.parts.now.place.items c.args.parts.now.spans.items _ is c.args.touched.now.items c.get-class.result class_in c.requires.touched
    (λ same. c.if-span.false (ap (λ (s : Span). s.start) span ∙ same ∙ sym (ap (λ (s : Span). s.middle) span))) in
    subst (Contains c.args.touched.now.items) class_is there
