-- When goals, rules and asks are equal, and what they write into a hash.
use Rattle.std.specs.Prelude.{◌++◌, Bool, ◌&&◌, nat_eq}
use Rattle.std.specs.Option.{option_eq}
use Rattle.std.specs.Cmp.Lexicographic.{pointwise}
use Rattle.std.specs.Hash.{HashWrites, slice, option, u32, u64}
use Rattle.mars_term.specs.declared.clause.Goal.{Goal}
use Rattle.mars_term.specs.declared.clause.Rule.{Rule}
use Rattle.mars_term.specs.declared.clause.Ask.{Ask}
use Rattle.mars_term.specs.contracts.clause.GoalPartialEq.TheImpl as goal_eq
use Rattle.mars_term.specs.contracts.clause.GoalHash.TheImpl as goal_hash
use Rattle.mars_term.specs.TermEquality.{same_name, same_term, name_writes, term_writes}

-- whether two goals are one
abbrev pub same_goal : Goal → Goal → Bool
same_goal = (goal_eq.ghosts).eq

-- whether two rules are one: their heads, their bodies and how many variables they have
abbrev pub same_rule : Rule → Rule → Bool
same_rule rule other = same_term rule.head other.head && (pointwise same_goal rule.body other.body && nat_eq rule.vars other.vars)

-- whether two asks are one: how many answers are wanted, the goals, the spellings and the kept names
abbrev pub same_ask : Ask → Ask → Bool
same_ask ask other =
    option_eq nat_eq ask.most other.most
    && (pointwise same_goal ask.goals other.goals && (pointwise same_name ask.vars other.vars && pointwise same_name ask.kept other.kept))

-- what a goal writes into a hash
abbrev pub goal_writes : Goal → HashWrites
goal_writes = (goal_hash.ghosts).hash_input

-- what a rule writes into a hash
abbrev pub rule_writes : Rule → HashWrites
rule_writes rule = term_writes rule.head ++ (slice goal_writes rule.body ++ u32 rule.vars)

-- what an ask writes into a hash
abbrev pub ask_writes : Ask → HashWrites
ask_writes ask = option u64 ask.most ++ (slice goal_writes ask.goals ++ (slice name_writes ask.vars ++ slice name_writes ask.kept))
