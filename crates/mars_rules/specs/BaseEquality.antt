-- When rule bases are equal.
use Rattle.std.specs.Prelude.{Bool, ◌&&◌}
use Rattle.std.specs.Cmp.Lexicographic.{pointwise}
use Rattle.mars_term.specs.declared.clause.Version.{Version}
use Rattle.mars_term.specs.contracts.clause.VersionPartialEq.TheImpl as version_eq
use Rattle.mars_term.specs.ClauseEquality.{same_rule}
use Rattle.mars_rules.specs.RuleLists.{RuleList}

-- whether two versions are one
abbrev pub same_version : Version → Version → Bool
same_version = (version_eq.ghosts).eq

-- whether two rule bases have the same version and the same rules in the same order
abbrev pub same_base : RuleList → RuleList → Bool
same_base base other = same_version base.version other.version && pointwise same_rule base.rules other.rules
