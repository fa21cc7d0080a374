-- The limits of an input that aren't in its grammar: what is counted, and which token is one too many.
use Rattle.std.specs.Prelude.{ℕ, pos, int_lt, List, [], ◌∷◌, ◌++◌, ◌+◌, ◌==◌, ◌&&◌, ◌||◌, Option, Some, None, Bool, true, false, nat_le, nat_lt, if◌then◌else◌, is_some, position, length, reverse}
use Rattle.mars_grammar.specs.FormTable.{Event, Read, Say}
use Rattle.mars_grammar.specs.Building.{Build}
use Rattle.mars_tree.specs.declared.label.NameId.{NameId}
use Rattle.mars_forms.specs.declared.lexeme.TokenKind.{TokenKind}
use Rattle.mars_forms.specs.declared.lexeme.TokenKind.TheVariants as kind
use Rattle.mars_forms.specs.declared.symbol.FormSymbol.{FormSymbol}
use Rattle.mars_forms.specs.declared.symbol.FormSymbol.TheVariants as due
use Rattle.mars_forms.specs.declared.symbol.FormAction.{FormAction}
use Rattle.mars_clauses.specs.declared.maker.ValuedToken.{ValuedToken}
use Rattle.mars_clauses.specs.declared.counts.InputCounts.{InputCounts}
use Rattle.mars_clauses.specs.declared.counts.TheConstants.{ARITY_LIMIT, RULE_LIMIT, CLAUSE_LIMIT, SESSION_LIMIT, INPUT_COMMAND_LIMIT, SESSION_COMMAND_LIMIT}
use Rattle.mars_clauses.specs.declared.limits.InputLimit.{InputLimit}
use Rattle.mars_clauses.specs.declared.limits.InputLimit.TheVariants as limit
use Rattle.mars_clauses.specs.declared.limits.OverLimit.{OverLimit}
use Rattle.mars_clauses.specs.Short.{in_32_bits}

-- a written node: a variable, an integer, a string, a name, the `<` of a tuple, the `.` of a dot, the `#` of a kept name; the name of a head is counted where its rule begins
abbrev pub is_node : FormSymbol → TokenKind → Bool
is_node due.Goals kind.Slash = false
is_node due.Goals _ = true
is_node due.AskGoals kind.Slash = false
is_node due.AskGoals _ = true
is_node due.Term kind.Open = false
is_node due.Term _ = true
is_node due.AskTerm kind.Open = false
is_node due.AskTerm _ = true
is_node due.Tail _ = true
is_node due.AskTail _ = true
is_node _ _ = false

-- a name is among these
abbrev pub is_session_name : NameId → List NameId → Bool
is_session_name name names = is_some (position (λ other. other.0 == name.0) names)

-- `eq`, `dif`, `freeze` and `val` have two arguments, `bound`, `free` and `out` one, and in version 2 `outm` too; a built-in name's number is its place
abbrev pub is_built_in : Bool → NameId → ℕ → Bool
is_built_in two name arguments =
    (arguments == 2 && nat_lt name.0 4)
    || (arguments == 1 && ((nat_le 4 name.0 && nat_lt name.0 7) || (two && name.0 == 12)))

-- a limit, where it is passed
abbrev pub over_if : Bool → InputLimit → ℕ → Option OverLimit
over_if true l start = Some (record { limit = l; start = start })
over_if false l start = None

-- The limit that a token passes which a symbol takes, by what was counted before it. A head is over where its arguments end, and its name is the place.
abbrev pub passed : FormSymbol → ValuedToken → InputCounts → Option OverLimit
passed due.HeadRow t c = over_if (nat_le ARITY_LIMIT c.arguments) limit.Arity t.start
passed due.Row t c = over_if (nat_le ARITY_LIMIT c.arguments) limit.Arity t.start
passed due.AskRow t c = over_if (nat_le ARITY_LIMIT c.arguments) limit.Arity t.start
passed due.PutRow t c = over_if (nat_le ARITY_LIMIT c.arguments) limit.Arity t.start
passed due.RuleList t c = over_if (nat_le RULE_LIMIT c.rules) limit.Rules t.start
passed due.HeadClose t c = over_if (is_built_in c.two c.head.name c.arguments) limit.BuiltIn c.head.start
passed due.AskLimit t c = over_if (int_lt t.number (pos 0)) limit.Literal t.start
passed due.Sessions t c = over_if (nat_le SESSION_LIMIT (length c.sessions)) limit.Sessions t.start
passed due.OneName t c = over_if (c.begun && is_session_name t.name c.sessions) limit.Twice t.start
passed due.Commands t c = over_if (nat_le SESSION_COMMAND_LIMIT c.own_commands || nat_le INPUT_COMMAND_LIMIT c.commands) limit.Commands t.start
passed s t c = over_if (is_node s t.kind && nat_le CLAUSE_LIMIT c.nodes) limit.Clause t.start

-- version 2 has a first word of its own
abbrev pub starts_two : TokenKind → Bool
starts_two kind.RulesTwo = true
starts_two _ = false

-- What is counted after a token that a symbol takes, in 32 bits; the name after `session` is the session's.
abbrev pub counted : FormSymbol → ValuedToken → InputCounts → InputCounts
counted due.Input t c = record c { two = starts_two t.kind }
counted due.RuleList t c = record c { rules = in_32_bits (c.rules + 1); head = t; nodes = 1 }
counted due.Sessions t c = record c { begun = true; own_commands = 0 }
counted due.OneName t c = if c.begun then record c { begun = false; sessions = c.sessions ++ t.name ∷ [] } else c
counted due.Commands t c = record c { commands = in_32_bits (c.commands + 1); own_commands = in_32_bits (c.own_commands + 1); nodes = 0 }
counted s t c = if is_node s t.kind then record c { nodes = in_32_bits (c.nodes + 1) } else c

-- the innermost bracket is the last of those around it, which are listed backwards here
abbrev pub within : List ℕ → InputCounts → InputCounts
within [] c = record c { arguments = 0; outer = [] }
within (arguments ∷ outer) c = record c { arguments = arguments; outer = reverse outer }

-- what is counted of the arguments in open brackets after a token
abbrev pub in_brackets : TokenKind → InputCounts → InputCounts
in_brackets kind.Open c = record c { arguments = 1; outer = c.outer ++ c.arguments ∷ [] }
in_brackets kind.Less c = record c { arguments = 1; outer = c.outer ++ c.arguments ∷ [] }
in_brackets kind.Comma c = record c { arguments = in_32_bits (c.arguments + 1) }
in_brackets kind.Close c = within (reverse c.outer) c
in_brackets kind.Greater c = within (reverse c.outer) c
in_brackets _ c = c

-- with what a token is over
abbrev pub with_over : Option OverLimit → InputCounts → InputCounts
with_over over c = record c { over = over }

-- what is counted after an event
abbrev pub count_event : Event FormSymbol ValuedToken FormAction → InputCounts → InputCounts
count_event (Read s t) c = in_brackets t.kind (counted s t (with_over (passed s t c) c))
count_event (Say a) c = c

-- Counting, and the limit that the last token passes.
abbrev pub counting : Build (Event FormSymbol ValuedToken FormAction) InputCounts OverLimit
counting = record { perform = count_event; refuses = λ c. c.over }

-- nothing is counted yet
abbrev pub nothing_counted : Bool → InputCounts
nothing_counted two = record {
  two = two;
  rules = 0;
  head = record { kind = kind.Refused; start = 0; name = record { 0 = 0 }; number = pos 0 };
  sessions = [];
  begun = false;
  commands = 0;
  own_commands = 0;
  nodes = 0;
  arguments = 0;
  outer = [];
  over = None;
}
