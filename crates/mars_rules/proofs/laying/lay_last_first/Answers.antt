use Rattle.std.proofs.Common.{◌≡◌, ◌-◌, length, reverse, subst, sym, arith, All}
use Rattle.std.proofs.lemmas.List.Elements.{All-get_or}
use Rattle.mars_term.specs.Parts.{parts_of}
use Rattle.mars_rules.specs.LayingInside.{IsRulePart, AreLaidTerms}
use Rattle.mars_rules.proofs.RuleParts.{item-parts}
use Rattle.mars_rules.proofs.Laid.{laid-next}
use Rattle.mars_rules.proofs.Turned.{get-reverse, laid-turned}
use Rattle.mars_rules.proofs.laying.lay_last_first.Goals as goal

pub lay_term-requires-clause-parts : goal.lay_term-requires-clause-parts
lay_term-requires-clause-parts c =
    let term = c.index-terms-terms.result in
    let test = c.loop-back-test.true in
    let parts : All (IsRulePart c.args.vars) (parts_of term) =
    subst (λ u. All (IsRulePart c.args.vars) (parts_of u)) (sym c.index-terms-terms.is)
    (item-parts (IsRulePart c.args.vars) parts_of c.args.terms.now (length c.args.terms.now - 1 - c.loop-back.back) term (omega arith) c.requires.parts) in
    λ k d h. All-get_or (IsRulePart c.args.vars) (parts_of term) k d h parts

pub loop-back-preserved : goal.loop-back-preserved
loop-back-preserved c =
    laid-next c.args.vars c.args.nodes.now c.loop-back.nodes c.lay_term.new.nodes (reverse c.args.terms.now) c.loop-back.back c.loop-back.places.items c.push.new.self.items c.index-terms-terms.result
    c.in_ok-lay_term.field-0 c.loop-back.invariant c.in_ok-lay_term.ensures
    (get-reverse c.args.terms.now c.loop-back.back c.index-terms-terms.result c.loop-back-test.true c.index-terms-terms.is) c.in_ok-push.ensures.items

pub returns : goal.returns
returns c =
    let most = c.loop-back.auto.back-end in
    let done = c.loop-back-test.false in
    let all : c.loop-back.back ≡ length c.args.terms.now = omega arith in
    laid-turned c.args.vars c.args.nodes.now c.loop-back.nodes c.args.terms.now c.loop-back.places.items c.reverse.new.self.items
    (subst (λ n. AreLaidTerms c.args.vars c.args.nodes.now c.loop-back.nodes (reverse c.args.terms.now) n c.loop-back.places.items) all c.loop-back.invariant) c.reverse.ensures.items
