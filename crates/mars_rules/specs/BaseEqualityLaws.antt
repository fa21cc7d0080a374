-- That the test of equality decides it, and the laws of the comparison, which the trait asks for.
use Rattle.std.specs.Prelude.{◌≡◌, refl}
use Rattle.std.proofs.Common.{ap}
use Rattle.std.specs.Bool.{Decides}
use Rattle.std.specs.Cmp.{IsEquivalence, IsPartialEquivalence, partial_equiv_from_equiv}
use Rattle.std.specs.Cmp.Lexicographic.{pointwise, pointwise_decides}
use Rattle.mars_base.proofs.Deciding.{both, joined}
use Rattle.mars_tree.specs.EqualityLaws.{equivalence_from_decides}
use Rattle.mars_term.specs.declared.clause.Version.{Version}
use Rattle.mars_term.specs.declared.clause.Version.TheVariants.{One, Two}
use Rattle.mars_term.specs.ClauseEquality.{same_rule}
use Rattle.mars_term.specs.ClauseEqualityLaws.{rule_decides}
use Rattle.mars_rules.specs.RuleLists.{RuleList}
use Rattle.mars_rules.specs.BaseEquality.{same_version, same_base}

pub version_decides : (v w : Version) → Decides (same_version v w) (v ≡ w)
version_decides One One = (λ e. refl, λ e. refl)
version_decides One Two = (λ e. cc, λ e. cc)
version_decides Two One = (λ e. cc, λ e. cc)
version_decides Two Two = (λ e. refl, λ e. refl)

same_lists : (a b : RuleList) → a.version ≡ b.version → a.rules ≡ b.rules → a ≡ b
same_lists a b e f i = record { rules = f i; version = e i }

pub base_decides : (a b : RuleList) → Decides (same_base a b) (a ≡ b)
base_decides a b = (
  λ e. let t = both (same_version a.version b.version) (pointwise same_rule a.rules b.rules) e in
      same_lists a b ((version_decides a.version b.version).0 t.0) ((pointwise_decides rule_decides a.rules b.rules).0 t.1),
  λ e. joined (same_version a.version b.version) (pointwise same_rule a.rules b.rules)
      ((version_decides a.version b.version).1 (ap (λ (l : RuleList). l.version) e)) ((pointwise_decides rule_decides a.rules b.rules).1 (ap (λ (l : RuleList). l.rules) e)),
)

pub bases_equivalence : IsEquivalence same_base
bases_equivalence = equivalence_from_decides same_base base_decides

pub bases_partial_equivalence : IsPartialEquivalence same_base
bases_partial_equivalence = partial_equiv_from_equiv bases_equivalence
