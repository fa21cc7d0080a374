use Rattle.std.proofs.Common.{sym, subst, All}
use Rattle.mars_term.specs.Clauses.{IsRule}
use Rattle.mars_rules.specs.PairedLists.{AllPaired}
use Rattle.mars_rules.specs.FlatRules.{IsFlatRule}
use Rattle.mars_rules.specs.PlacesInside.{AreFiledPlaces}
use Rattle.mars_rules.specs.BaseInside.{IsHeadKey, IsFirstKey}
use Rattle.mars_rules.proofs.base.RuleBase.of.Goals as goal

pub lay_rules-requires : goal.lay_rules-requires
lay_rules-requires c = subst (All IsRule) (sym c.deref.ensures.value) c.requires

pub head_keys-requires : goal.head_keys-requires
head_keys-requires c = subst (All IsRule) (sym c.deref-2.ensures.value) c.requires

pub first_keys-requires : goal.first_keys-requires
first_keys-requires c = subst (All IsRule) (sym c.deref-4.ensures.value) c.requires

pub invariant_of-result : goal.invariant_of-result
invariant_of-result c = record {
  rules_are = c.requires;
  flat_are = subst (λ rs. AllPaired IsFlatRule rs c.in_ok-flat.flat.items) c.deref.ensures.value c.in_ok-flat.ensures;
  keys_are = subst (λ rs. AllPaired IsFirstKey rs c.in_ok-keys.keys.items) c.deref-4.ensures.value c.in_ok-keys.ensures;
  heads_are = record {
    keys = c.in_ok-head_keys.field-0.items;
    each = subst (λ rs. AllPaired IsHeadKey rs c.in_ok-head_keys.field-0.items) c.deref-2.ensures.value c.in_ok-head_keys.ensures;
    filed = subst (λ ks. AreFiledPlaces ks c.in_ok-heads.heads) c.deref-3.ensures.value c.in_ok-heads.ensures;
  };
  firsts_are = subst (λ ks. AreFiledPlaces ks c.in_ok-firsts.firsts.entries) c.deref-5.ensures.value c.in_ok-firsts.ensures;
}
