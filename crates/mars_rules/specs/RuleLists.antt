-- Rule bases as contracts see them.
use Rattle.std.specs.Prelude.{List}
use Rattle.mars_term.specs.declared.clause.Rule.{Rule}
use Rattle.mars_term.specs.declared.clause.Version.{Version}

-- rules in order, and the version by which they are read
pub record RuleList : Type 0 where
  pub rules : List Rule
  pub version : Version
