use Rattle.std.proofs.Common.{refl, ◌∙◌, subst, sym, ap, length, All}
use Rattle.std.specs.List.{flat_map}
use Rattle.std.proofs.lemmas.List.{length-replicate}
use Rattle.mars_term.specs.Clauses.{parts_of_goal}
use Rattle.mars_tree.specs.Graph.{free_leaf}
use Rattle.mars_rules.specs.LayingInside.{IsRulePart}
use Rattle.mars_rules.proofs.RuleParts.{head-parts, body-parts}
use Rattle.mars_tree.specs.declared.label.Label.TheVariants as label
use Rattle.mars_rules.specs.TermTrees.{label_of_term}
use Rattle.mars_rules.proofs.TermFacts.{label-Name}
use Rattle.mars_rules.proofs.LaidRules.{rule-laid}
use Rattle.mars_rules.proofs.laying.lay_rule.Goals as goal

pub lay_head-requires-clause-parts : goal.lay_head-requires-clause-parts
lay_head-requires-clause-parts c = head-parts c.args.rule.now c.requires

pub lay_goals-requires-clause-parts : goal.lay_goals-requires-clause-parts
lay_goals-requires-clause-parts c = subst (λ gs. All (IsRulePart c.args.rule.now.vars) (flat_map parts_of_goal gs)) (sym c.as_slice.ensures) (body-parts c.args.rule.now c.requires)

pub returns : goal.returns
returns c =
    let head = c.requires.head in
    let laid =
    rule-laid c.args.rule.now (label.Name head.0 (length head.1)) c.in_ok-nodes.nodes c.lay_head.new.nodes c.lay_goals.new.nodes c.in_ok-head.head c.in_ok-goals.goals.items c.as_slice.result.now
    (ap label_of_term head.2 ∙ label-Name head.0 head.1) (ap length c.in_ok-nodes.ensures ∙ length-replicate c.args.rule.now.vars free_leaf) c.in_ok-head.ensures c.in_ok-goals.ensures c.as_slice.ensures in
    record { template = laid.0; vars = refl; head = laid.1; goals = laid.2 }
