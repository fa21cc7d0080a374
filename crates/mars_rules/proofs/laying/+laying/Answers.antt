use Rattle.std.proofs.Common.{◌++◌, ◌∷◌, [], length, rules, subst, refl, sym, ap, ◌∙◌, arith, All, Some}
use Rattle.std.specs.List.{flat_map}
use Rattle.std.proofs.lemmas.Result.{IfOk-weaker}
use Rattle.std.proofs.lemmas.Option.{slice_get-get_or}
use Rattle.mars_term.specs.declared.term.Term.{Term, Dot, the_lemmas}
use Rattle.mars_term.specs.Parts.{parts_of}
use Rattle.mars_term.specs.Rows.{dots}
use Rattle.mars_term.proofs.RowLemmas.{dots-push, dots-falls}
use Rattle.mars_rules.specs.LayingInside.{IsRulePart, IsLaidOut, AreLaidTerms}
use Rattle.mars_rules.proofs.RuleParts.{all-before, all-after, item-parts, name-parts, tuple-parts, dot-parts}
use Rattle.mars_rules.proofs.Laid.{none-laid, laid-next, row-next, laid-name, laid-tuple, laid-integer, laid-string, laid-var, dots-laid}
use Rattle.mars_rules.proofs.laying.+laying.Goals as goal

pub lay_term-lay_terms-requires : goal.lay_term-lay_terms-requires
lay_term-lay_terms-requires t c =
    let parts : All (IsRulePart c.args.vars) (flat_map parts_of c.as_slice.result.now) =
    subst (λ ts. All (IsRulePart c.args.vars) (flat_map parts_of ts)) (sym c.as_slice.ensures)
    (name-parts (IsRulePart c.args.vars) c.in-Name.name c.in-Name.terms (subst (λ u. All (IsRulePart c.args.vars) (parts_of u)) c.in-Name.is c.requires.parts)) in
    (search (the_lemmas, rules), (c.requires.layout, parts))

pub lay_term-lay_terms-requires-in-Tup : goal.lay_term-lay_terms-requires-in-Tup
lay_term-lay_terms-requires-in-Tup t c =
    let parts : All (IsRulePart c.args.vars) (flat_map parts_of c.as_slice-in-Tup.result.now) =
    subst (λ ts. All (IsRulePart c.args.vars) (flat_map parts_of ts)) (sym c.as_slice-in-Tup.ensures)
    (tuple-parts (IsRulePart c.args.vars) c.in-Tup.terms (subst (λ u. All (IsRulePart c.args.vars) (parts_of u)) c.in-Tup.is c.requires.parts)) in
    (search (the_lemmas, rules), (c.requires.layout, parts))

pub lay_term-lay_dots-requires : goal.lay_term-lay_dots-requires
lay_term-lay_dots-requires t c =
    let parts : All (IsRulePart c.args.vars) (parts_of c.get.result.now ++ parts_of c.get-in-Dot.result.now) =
    rw (c.get.ensures, c.get-in-Dot.ensures) (dot-parts (IsRulePart c.args.vars) c.in-Dot.left c.in-Dot.right (subst (λ u. All (IsRulePart c.args.vars) (parts_of u)) c.in-Dot.is c.requires.parts)) in
    (search (the_lemmas, rules), (c.requires.layout, parts))

pub lay_term-returns-in-Var : goal.lay_term-returns-in-Var
lay_term-returns-in-Var t c = laid-var c.args.vars c.args.nodes.now c.args.term.now c.in-Var.number c.requires.layout c.in-Var.is c.requires.parts

pub lay_term-returns-in-Int : goal.lay_term-returns-in-Int
lay_term-returns-in-Int t c =
    IfOk-weaker c.lay_node.result _ _ (λ place h. laid-integer c.args.vars c.args.nodes.now c.lay_node.new.nodes c.args.term.now c.in-Int.number _ _ place (search rules) c.requires.layout refl c.in-Int.is h.1 h.0)
    c.lay_node.ensures

pub lay_term-returns-in_ok-kids-in-Name : goal.lay_term-returns-in_ok-kids-in-Name
lay_term-returns-in_ok-kids-in-Name t c =
    let laid : AreLaidTerms c.args.vars c.args.nodes.now c.lay_terms.new.nodes c.in-Name.terms (length c.in-Name.terms) c.in_ok-kids-in-Name.kids.items =
    subst (λ ts. AreLaidTerms c.args.vars c.args.nodes.now c.lay_terms.new.nodes ts (length ts) c.in_ok-kids-in-Name.kids.items) c.as_slice.ensures c.in_ok-kids-in-Name.ensures in
    IfOk-weaker c.lay_node-in-Name.result _ _
    (λ place h.
    laid-name c.args.vars c.args.nodes.now c.lay_terms.new.nodes c.lay_node-in-Name.new.nodes c.args.term.now c.in-Name.name c.in-Name.terms _ c.in_ok-kids-in-Name.kids.items c.deref.result.now place laid
    c.deref.ensures.value c.in-Name.is (omega (arith, laid.size, c.deref.ensures.len, ap length c.deref.ensures.value)) h.1 h.0)
    c.lay_node-in-Name.ensures

pub lay_term-returns-in_ok-kids-in-Tup : goal.lay_term-returns-in_ok-kids-in-Tup
lay_term-returns-in_ok-kids-in-Tup t c =
    let laid : AreLaidTerms c.args.vars c.args.nodes.now c.lay_terms-in-Tup.new.nodes c.in-Tup.terms (length c.in-Tup.terms) c.in_ok-kids-in-Tup.kids.items =
    subst (λ ts. AreLaidTerms c.args.vars c.args.nodes.now c.lay_terms-in-Tup.new.nodes ts (length ts) c.in_ok-kids-in-Tup.kids.items) c.as_slice-in-Tup.ensures c.in_ok-kids-in-Tup.ensures in
    IfOk-weaker c.lay_node-in-Tup.result _ _
    (λ place h.
    laid-tuple c.args.vars c.args.nodes.now c.lay_terms-in-Tup.new.nodes c.lay_node-in-Tup.new.nodes c.args.term.now c.in-Tup.terms _ c.in_ok-kids-in-Tup.kids.items c.deref-in-Tup.result.now place laid
    c.deref-in-Tup.ensures.value c.in-Tup.is (omega (arith, laid.size, c.deref-in-Tup.ensures.len, ap length c.deref-in-Tup.ensures.value)) h.1 h.0)
    c.lay_node-in-Tup.ensures

pub lay_term-returns-in-Str : goal.lay_term-returns-in-Str
lay_term-returns-in-Str t c =
    IfOk-weaker c.lay_node-in-Str.result _ _
    (λ place h. laid-string c.args.vars c.args.nodes.now c.lay_node-in-Str.new.nodes c.args.term.now c.in-Str.name _ place c.requires.layout refl c.in-Str.is h.1 h.0) c.lay_node-in-Str.ensures

pub lay_terms-lay_term-requires : goal.lay_terms-lay_term-requires
lay_terms-lay_term-requires t c =
    let parts : All (IsRulePart c.args.vars) (parts_of c.term-item.result) =
    subst (λ u. All (IsRulePart c.args.vars) (parts_of u)) (sym c.term-item.is)
    (item-parts (IsRulePart c.args.vars) parts_of c.args.terms.now c.loop-term.term-index c.term-item.result c.loop-term-test.true c.requires.parts) in
    (search (the_lemmas, rules), (c.loop-term.invariant.adds.layout, parts))

pub lay_terms-loop-term-preserved : goal.lay_terms-loop-term-preserved
lay_terms-loop-term-preserved t c =
    laid-next c.args.vars c.args.nodes.now c.loop-term.nodes c.lay_term.new.nodes c.args.terms.now c.loop-term.term-index c.loop-term.places.items c.push.new.self.items c.term-item.result
    c.in_ok-lay_term.field-0 c.loop-term.invariant c.in_ok-lay_term.ensures
    (slice_get-get_or c.args.terms.now c.loop-term.term-index c.term-item.result c.loop-term-test.true ∙ ap (λ (u : Term). Some u) (sym c.term-item.is)) c.in_ok-push.ensures.items

pub lay_dots-loop-last-init : goal.lay_dots-loop-last-init
lay_dots-loop-last-init t c = record {
  row = (
    c.args.left.now ∷ [],
    refl,
    row-next c.args.vars c.args.nodes.now c.args.nodes.now c.lay_term.new.nodes [] [] c.push.new.self.items c.args.left.now c.in_ok-lay_term.field-0
        (none-laid c.args.vars c.args.nodes.now [] c.requires.layout) c.in_ok-lay_term.ensures (c.in_ok-push.ensures.items ∙ ap (λ ns. ns ++ c.in_ok-lay_term.field-0 ∷ []) c.new-firsts.ensures.items),
  );
  parts = all-after (IsRulePart c.args.vars) (parts_of c.args.left.now) (parts_of c.args.right.now) c.requires.parts;
  size = omega arith;
}

pub lay_dots-lay_term-requires-in-Dot : goal.lay_dots-lay_term-requires-in-Dot
lay_dots-lay_term-requires-in-Dot t c =
    let both = dot-parts (IsRulePart c.args.vars) c.in-Dot.left c.in-Dot.right (subst (λ u. All (IsRulePart c.args.vars) (parts_of u)) c.in-Dot.is c.loop-last.invariant.parts) in
    let parts : All (IsRulePart c.args.vars) (parts_of c.get.result.now) =
    subst (λ u. All (IsRulePart c.args.vars) (parts_of u)) (sym c.get.ensures) (all-before (IsRulePart c.args.vars) (parts_of c.in-Dot.left) (parts_of c.in-Dot.right) both) in
    (search (the_lemmas, rules), (c.loop-last.invariant.row.2.adds.layout, parts))

pub lay_dots-loop-last-preserved : goal.lay_dots-loop-last-preserved
lay_dots-loop-last-preserved t c =
    let inv = c.loop-last.invariant in
    let both = dot-parts (IsRulePart c.args.vars) c.in-Dot.left c.in-Dot.right (subst (λ u. All (IsRulePart c.args.vars) (parts_of u)) c.in-Dot.is inv.parts) in
    let laid = subst (λ u. IsLaidOut c.args.vars c.loop-last.nodes c.lay_term-in-Dot.new.nodes u c.in_ok-lay_term-2.field-0) c.get.ensures c.in_ok-lay_term-2.ensures in
    record {
      row = (
        inv.row.0 ++ c.in-Dot.left ∷ [],
        ap (dots (inv.row.0 ++ c.in-Dot.left ∷ [])) c.get-last.ensures ∙ dots-push inv.row.0 c.in-Dot.left c.in-Dot.right ∙ sym (ap (dots inv.row.0) c.in-Dot.is) ∙ inv.row.1,
        row-next c.args.vars c.args.nodes.now c.loop-last.nodes c.lay_term-in-Dot.new.nodes inv.row.0 c.loop-last.firsts.items c.push-in-Dot.new.self.items c.in-Dot.left
            c.in_ok-lay_term-2.field-0 inv.row.2 laid c.in_ok-push-2.ensures.items,
      );
      parts = subst (λ u. All (IsRulePart c.args.vars) (parts_of u)) (sym c.get-last.ensures) (all-after (IsRulePart c.args.vars) (parts_of c.in-Dot.left) (parts_of c.in-Dot.right) both);
      size = rw c.get-last.ensures (dots-falls c.loop-last.last.now c.in-Dot.left c.in-Dot.right _ c.in-Dot.is inv.size);
    }

pub lay_dots-returns : goal.lay_dots-returns
lay_dots-returns t c =
    let inv = c.loop-last.invariant in
    IfOk-weaker c.lay_row.result _ _
    (λ place h.
    dots-laid c.args.vars c.args.nodes.now c.loop-last.nodes c.lay_term-2.new.nodes c.lay_row.new.nodes inv.row.0 c.loop-last.firsts.items c.in_ok-last.last place c.loop-last.last.now
    (Dot c.args.left.now c.args.right.now) inv.row.2 c.in_ok-last.ensures h inv.row.1) c.lay_row.ensures
