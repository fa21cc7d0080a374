use Rattle.std.proofs.Common.{◌≡◌, ◌++◌, ap, sym, ◌∙◌, subst, All}
use Rattle.std.proofs.lemmas.List.Elements.{All-append}
use Rattle.mars_term.specs.Clauses.{IsRule}
use Rattle.mars_rules.proofs.base.RuleBase.join.Goals as goal

pub of-requires : goal.of-requires
of-requires c =
    let whole : c.push_rules-2.new.rules.items ≡ c.args.global.now ++ c.args.local.now =
    c.in_ok-push_rules-2.ensures ∙ ap (λ rs. rs ++ c.args.local.now) (c.in_ok-push_rules.ensures ∙ ap (λ rs. rs ++ c.args.global.now) c.new-rules.ensures.items) in
    subst (All IsRule) (sym whole) (All-append IsRule c.args.global.now c.args.local.now c.requires.global c.requires.local)
