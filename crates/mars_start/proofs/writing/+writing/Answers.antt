use Rattle.std.proofs.Common.{◌<◌, ◌^◌, ◌++◌, ◌∷◌, [], length, rules, subst, refl, sym, ap, ◌∙◌, arith, All}
use Rattle.std.specs.List.{flat_map}
use Rattle.std.proofs.lemmas.Result.{IfOk-weaker}
use Rattle.mars_term.specs.declared.term.Term.{Term, Dot, the_lemmas}
use Rattle.mars_term.specs.Parts.{parts_of}
use Rattle.mars_term.specs.Rows.{dots}
use Rattle.mars_term.proofs.RowLemmas.{dots-push, dots-falls}
use Rattle.mars_rules.proofs.Paired.{paired-size}
use Rattle.mars_rules.proofs.RuleParts.{all-before, all-after, item-parts, name-parts, tuple-parts, dot-parts}
use Rattle.mars_start.specs.WritingInside.{IsAskPart, ShowsTerm, IsTermWritten}
use Rattle.mars_start.proofs.Growing.{names-grow, inside-grows}
use Rattle.mars_start.proofs.WrittenTerms.{shown-inside, none-written, written-next, written-whole, written-push, ok-by-both, name-fits, tuple-fits, name-added, tuple-added, integer-written, string-written, var-written, kept-written}
use Rattle.mars_start.proofs.WrittenRows.{dots-written}
use Rattle.mars_start.proofs.writing.+writing.Goals as goal

pub write_term-write_terms-requires : goal.write_term-write_terms-requires
write_term-write_terms-requires t c =
    let P : Term → Type 0 = IsAskPart (length c.args.vars.now) (length c.args.kept.now) in
    let parts : All P (flat_map parts_of c.as_slice.result.now) =
    subst (λ ts. All P (flat_map parts_of ts)) (sym c.as_slice.ensures) (name-parts P c.in-Name.name c.in-Name.terms (subst (λ u. All P (parts_of u)) c.in-Name.is c.requires.parts)) in
    (search (the_lemmas, rules), (c.requires.names, parts))

pub write_term-write_terms-requires-in-Tup : goal.write_term-write_terms-requires-in-Tup
write_term-write_terms-requires-in-Tup t c =
    let P : Term → Type 0 = IsAskPart (length c.args.vars.now) (length c.args.kept.now) in
    let parts : All P (flat_map parts_of c.as_slice-in-Tup.result.now) =
    subst (λ ts. All P (flat_map parts_of ts)) (sym c.as_slice-in-Tup.ensures) (tuple-parts P c.in-Tup.terms (subst (λ u. All P (parts_of u)) c.in-Tup.is c.requires.parts)) in
    (search (the_lemmas, rules), (c.requires.names, parts))

pub write_term-write_dots-requires : goal.write_term-write_dots-requires
write_term-write_dots-requires t c =
    let P : Term → Type 0 = IsAskPart (length c.args.vars.now) (length c.args.kept.now) in
    let parts : All P (parts_of c.get.result.now ++ parts_of c.get-in-Dot.result.now) =
    rw (c.get.ensures, c.get-in-Dot.ensures) (dot-parts P c.in-Dot.left c.in-Dot.right (subst (λ u. All P (parts_of u)) c.in-Dot.is c.requires.parts)) in
    (search (the_lemmas, rules), (c.requires.names, parts))

pub write_term-overflow_cast-label : goal.write_term-overflow_cast-label
write_term-overflow_cast-label t c =
    let few : length c.in-Name.terms < 2 ^ 32 = name-fits (length c.args.vars.now) (length c.args.kept.now) c.args.term.now c.in-Name.name c.in-Name.terms c.in-Name.is c.requires.parts in
    omega (
      arith,
      few,
      c.len.ensures,
      ap length c.as_slice.ensures,
      paired-size (ShowsTerm c.write_terms.new.store c.args.vars.now c.args.kept.now) c.as_slice.result.now c.in_ok-kids-in-Name.kids.items c.in_ok-kids-in-Name.ensures.shows,
    )

pub write_term-overflow_cast-len : goal.write_term-overflow_cast-len
write_term-overflow_cast-len t c =
    let few : length c.in-Tup.terms < 2 ^ 32 = tuple-fits (length c.args.vars.now) (length c.args.kept.now) c.args.term.now c.in-Tup.terms c.in-Tup.is c.requires.parts in
    omega (
      arith,
      few,
      c.len-in-Tup.ensures,
      ap length c.as_slice-in-Tup.ensures,
      paired-size (ShowsTerm c.write_terms-in-Tup.new.store c.args.vars.now c.args.kept.now) c.as_slice-in-Tup.result.now c.in_ok-kids-in-Tup.kids.items c.in_ok-kids-in-Tup.ensures.shows,
    )

pub write_term-add-requires-in-Name-clause-inside : goal.write_term-add-requires-in-Name-clause-inside
write_term-add-requires-in-Name-clause-inside t c =
    subst (λ ks. All (λ n. n < length c.write_terms.new.store.nodes) ks) (sym c.deref.ensures.value)
    (shown-inside c.write_terms.new.store c.args.vars.now c.args.kept.now c.as_slice.result.now c.in_ok-kids-in-Name.kids.items c.in_ok-kids-in-Name.ensures.shows)

pub write_term-add-requires-in-Tup-clause-inside : goal.write_term-add-requires-in-Tup-clause-inside
write_term-add-requires-in-Tup-clause-inside t c =
    subst (λ ks. All (λ n. n < length c.write_terms-in-Tup.new.store.nodes) ks) (sym c.deref-in-Tup.ensures.value)
    (shown-inside c.write_terms-in-Tup.new.store c.args.vars.now c.args.kept.now c.as_slice-in-Tup.result.now c.in_ok-kids-in-Tup.kids.items c.in_ok-kids-in-Tup.ensures.shows)

pub write_term-returns-in-Var : goal.write_term-returns-in-Var
write_term-returns-in-Var t c =
    var-written c.args.store.now c.args.vars.now c.args.kept.now c.args.term.now c.in-Var.number c.index-vars-number.result c.requires.names c.in-Var.is c.requires.parts c.index-vars-number.is

pub write_term-returns-in-Kept : goal.write_term-returns-in-Kept
write_term-returns-in-Kept t c =
    kept-written c.args.store.now c.args.vars.now c.args.kept.now c.args.term.now c.in-Kept.number c.index-kept-number.result c.requires.names c.in-Kept.is c.requires.parts c.index-kept-number.is

pub write_term-returns-in-Int : goal.write_term-returns-in-Int
write_term-returns-in-Int t c =
    ok-by-both c.add.result _ _ _
    (λ node at made. integer-written c.args.store.now c.add.new.self c.args.vars.now c.args.kept.now c.args.term.now c.in-Int.number _ _ node c.requires.names (search rules) c.in-Int.is refl made at)
    c.add.ensures.node c.add.ensures.ok

pub write_term-returns-in-Str : goal.write_term-returns-in-Str
write_term-returns-in-Str t c =
    ok-by-both c.add-in-Str.result _ _ _
    (λ node at made. string-written c.args.store.now c.add-in-Str.new.self c.args.vars.now c.args.kept.now c.args.term.now c.in-Str.name _ node c.requires.names c.in-Str.is refl made at)
    c.add-in-Str.ensures.node c.add-in-Str.ensures.ok

pub write_term-returns-in_ok-kids-in-Name : goal.write_term-returns-in_ok-kids-in-Name
write_term-returns-in_ok-kids-in-Name t c =
    name-added c.args.store.now c.write_terms.new.store c.add-in-Name.new.self c.args.vars.now c.args.kept.now c.args.term.now c.in-Name.name c.in-Name.terms c.as_slice.result.now _
    c.in_ok-kids-in-Name.kids.items c.deref.result.now c.add-in-Name.result c.requires.names c.in_ok-kids-in-Name.ensures c.as_slice.ensures c.in-Name.is (omega (arith, c.len.ensures)) c.deref.ensures.value
    c.add-in-Name.ensures.node c.add-in-Name.ensures.ok

pub write_term-returns-in_ok-kids-in-Tup : goal.write_term-returns-in_ok-kids-in-Tup
write_term-returns-in_ok-kids-in-Tup t c =
    tuple-added c.args.store.now c.write_terms-in-Tup.new.store c.add-in-Tup.new.self c.args.vars.now c.args.kept.now c.args.term.now c.in-Tup.terms c.as_slice-in-Tup.result.now _
    c.in_ok-kids-in-Tup.kids.items c.deref-in-Tup.result.now c.add-in-Tup.result c.requires.names c.in_ok-kids-in-Tup.ensures c.as_slice-in-Tup.ensures c.in-Tup.is (omega (arith, c.len-in-Tup.ensures))
    c.deref-in-Tup.ensures.value c.add-in-Tup.ensures.node c.add-in-Tup.ensures.ok

pub write_terms-write_term-requires : goal.write_terms-write_term-requires
write_terms-write_term-requires t c =
    let P : Term → Type 0 = IsAskPart (length c.args.vars.now) (length c.args.kept.now) in
    let parts : All P (parts_of c.term-item.result) =
    subst (λ u. All P (parts_of u)) (sym c.term-item.is) (item-parts P parts_of c.args.terms.now c.loop-term.term-index c.term-item.result c.loop-term-test.true c.requires.parts) in
    let names = names-grow c.args.store.now c.loop-term.store c.args.vars.now c.args.kept.now c.requires.names c.loop-term.invariant.more in
    (search (the_lemmas, rules), (names, parts))

pub write_terms-loop-term-preserved : goal.write_terms-loop-term-preserved
write_terms-loop-term-preserved t c =
    written-next c.args.store.now c.loop-term.store c.write_term.new.store c.args.vars.now c.args.kept.now c.args.terms.now c.loop-term.nodes.items c.push.new.self.items c.loop-term.term-index c.term-item.result
    c.in_ok-write_term.field-0 c.loop-term-test.true c.requires.names c.loop-term.invariant
    (subst (λ u. IsTermWritten c.loop-term.store c.write_term.new.store c.args.vars.now c.args.kept.now u c.in_ok-write_term.field-0) c.term-item.is c.in_ok-write_term.ensures) c.in_ok-push.ensures.items

pub write_terms-returns : goal.write_terms-returns
write_terms-returns t c =
    written-whole c.args.store.now c.loop-term.store c.args.vars.now c.args.kept.now c.args.terms.now c.loop-term.nodes.items c.loop-term.term-index c.loop-term-test.false c.loop-term.invariant

pub write_dots-loop-last-init : goal.write_dots-loop-last-init
write_dots-loop-last-init t c = record {
  row = (
    c.args.left.now ∷ [],
    refl,
    written-push c.args.store.now c.args.store.now c.write_term.new.store c.args.vars.now c.args.kept.now [] [] c.push.new.self.items c.args.left.now c.in_ok-write_term.field-0 c.requires.names
        (none-written c.args.store.now c.args.vars.now c.args.kept.now c.requires.names) c.in_ok-write_term.ensures
        (c.in_ok-push.ensures.items ∙ ap (λ ns. ns ++ c.in_ok-write_term.field-0 ∷ []) c.new-firsts.ensures.items),
  );
  parts = all-after (IsAskPart (length c.args.vars.now) (length c.args.kept.now)) (parts_of c.args.left.now) (parts_of c.args.right.now) c.requires.parts;
  size = omega arith;
}

pub write_dots-write_term-requires-in-Dot : goal.write_dots-write_term-requires-in-Dot
write_dots-write_term-requires-in-Dot t c =
    let P : Term → Type 0 = IsAskPart (length c.args.vars.now) (length c.args.kept.now) in
    let both = dot-parts P c.in-Dot.left c.in-Dot.right (subst (λ u. All P (parts_of u)) c.in-Dot.is c.loop-last.invariant.parts) in
    let parts : All P (parts_of c.get.result.now) = subst (λ u. All P (parts_of u)) (sym c.get.ensures) (all-before P (parts_of c.in-Dot.left) (parts_of c.in-Dot.right) both) in
    let names = names-grow c.args.store.now c.loop-last.store c.args.vars.now c.args.kept.now c.requires.names c.loop-last.invariant.row.2.more in
    (search (the_lemmas, rules), (names, parts))

pub write_dots-loop-last-preserved : goal.write_dots-loop-last-preserved
write_dots-loop-last-preserved t c =
    let inv = c.loop-last.invariant in
    let P : Term → Type 0 = IsAskPart (length c.args.vars.now) (length c.args.kept.now) in
    let both = dot-parts P c.in-Dot.left c.in-Dot.right (subst (λ u. All P (parts_of u)) c.in-Dot.is inv.parts) in
    let one : IsTermWritten c.loop-last.store c.write_term-in-Dot.new.store c.args.vars.now c.args.kept.now c.in-Dot.left c.in_ok-write_term-2.field-0 =
    subst (λ u. IsTermWritten c.loop-last.store c.write_term-in-Dot.new.store c.args.vars.now c.args.kept.now u c.in_ok-write_term-2.field-0) c.get.ensures c.in_ok-write_term-2.ensures in
    record {
      row = (
        inv.row.0 ++ c.in-Dot.left ∷ [],
        ap (dots (inv.row.0 ++ c.in-Dot.left ∷ [])) c.get-last.ensures ∙ dots-push inv.row.0 c.in-Dot.left c.in-Dot.right ∙ sym (ap (dots inv.row.0) c.in-Dot.is) ∙ inv.row.1,
        written-push c.args.store.now c.loop-last.store c.write_term-in-Dot.new.store c.args.vars.now c.args.kept.now inv.row.0 c.loop-last.firsts.items c.push-in-Dot.new.self.items c.in-Dot.left
            c.in_ok-write_term-2.field-0 c.requires.names inv.row.2 one c.in_ok-push-2.ensures.items,
      );
      parts = subst (λ u. All P (parts_of u)) (sym c.get-last.ensures) (all-after P (parts_of c.in-Dot.left) (parts_of c.in-Dot.right) both);
      size = rw c.get-last.ensures (dots-falls c.loop-last.last.now c.in-Dot.left c.in-Dot.right _ c.in-Dot.is inv.size);
    }

pub write_dots-write_row-requires : goal.write_dots-write_row-requires
write_dots-write_row-requires t c =
    let inv = c.loop-last.invariant in
    record {
      sound = c.in_ok-last.ensures.more.system;
      first = inside-grows c.loop-last.store c.write_term-2.new.store c.in_ok-last.ensures.more.goes.grows c.loop-last.firsts.items
          (shown-inside c.loop-last.store c.args.vars.now c.args.kept.now inv.row.0 c.loop-last.firsts.items inv.row.2.shows);
      last = c.in_ok-last.ensures.shows.inside;
    }

pub write_dots-returns : goal.write_dots-returns
write_dots-returns t c =
    let inv = c.loop-last.invariant in
    IfOk-weaker c.write_row.result _ _
    (λ node row.
    dots-written c.args.store.now c.loop-last.store c.write_term-2.new.store c.write_row.new.store c.args.vars.now c.args.kept.now inv.row.0 c.loop-last.firsts.items c.loop-last.last.now
    (Dot c.args.left.now c.args.right.now) c.in_ok-last.last node c.requires.names inv.row.2 c.in_ok-last.ensures row inv.row.1) c.write_row.ensures
