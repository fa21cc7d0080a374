use Rattle.std.proofs.Common.{length, subst, sym, ap, arith, All}
use Rattle.std.specs.List.{flat_map}
use Rattle.std.proofs.lemmas.Result.{IfOk-weaker}
use Rattle.std.proofs.lemmas.List.Elements.{All-get_or}
use Rattle.mars_term.specs.Parts.{parts_of}
use Rattle.mars_rules.specs.LayingInside.{IsRulePart, AreLaidTerms}
use Rattle.mars_rules.proofs.RuleParts.{name-parts}
use Rattle.mars_rules.proofs.Laid.{laid-name}
use Rattle.mars_rules.proofs.laying.lay_head.Goals as goal

pub lay_last_first-requires-clause-parts : goal.lay_last_first-requires-clause-parts
lay_last_first-requires-clause-parts c =
    let parts : All (IsRulePart c.args.vars) (flat_map parts_of c.as_slice.result.now) =
    subst (λ ts. All (IsRulePart c.args.vars) (flat_map parts_of ts)) (sym c.as_slice.ensures)
    (name-parts (IsRulePart c.args.vars) c.in-Name.name c.in-Name.terms (subst (λ u. All (IsRulePart c.args.vars) (parts_of u)) c.in-Name.is c.requires.parts)) in
    λ k d h. All-get_or (IsRulePart c.args.vars) (flat_map parts_of c.as_slice.result.now) k d h parts

pub returns-in_ok-kids-in-Name : goal.returns-in_ok-kids-in-Name
returns-in_ok-kids-in-Name c =
    let laid : AreLaidTerms c.args.vars c.args.nodes.now c.lay_last_first.new.nodes c.in-Name.terms (length c.in-Name.terms) c.in_ok-kids-in-Name.kids.items =
    subst (λ ts. AreLaidTerms c.args.vars c.args.nodes.now c.lay_last_first.new.nodes ts (length ts) c.in_ok-kids-in-Name.kids.items) c.as_slice.ensures c.in_ok-kids-in-Name.ensures in
    IfOk-weaker c.lay_node.result _ _
    (λ place h.
    laid-name c.args.vars c.args.nodes.now c.lay_last_first.new.nodes c.lay_node.new.nodes c.args.head.now c.in-Name.name c.in-Name.terms _ c.in_ok-kids-in-Name.kids.items c.deref.result.now place laid
    c.deref.ensures.value c.in-Name.is (omega (arith, laid.size, c.deref.ensures.len, ap length c.deref.ensures.value)) h.1 h.0)
    c.lay_node.ensures
