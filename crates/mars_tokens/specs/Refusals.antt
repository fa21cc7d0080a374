-- The limits that look at tokens alone.
use Rattle.std.specs.Prelude.{ℕ, ◌+◌, ◌-◌, List, length, nat_lt, nat_le, Bool, true, false, not, Option, Some, None, if◌then◌else◌}
use Rattle.mars_forms.specs.declared.lexeme.TokenKind.{TokenKind}
use Rattle.mars_forms.specs.declared.lexeme.TokenKind.TheVariants as kind
use Rattle.mars_tokens.specs.declared.lexer.TokenRefusal.{TokenRefusal}
use Rattle.mars_tokens.specs.declared.lexer.TokenRefusal.TheVariants as refusal
use Rattle.mars_tokens.specs.declared.limits.TheConstants.{TOKEN_LIMIT, NESTING_LIMIT, STRING_LIMIT}
use Rattle.mars_tokens.specs.Strings.{string_meaning}
use Rattle.mars_tokens.specs.Integers.{is_in_range}

-- this refusal, if there is one
abbrev pub refusal_if : Bool → TokenRefusal → Option TokenRefusal
refusal_if true r = Some r
refusal_if false r = None

-- The limit that a token is over, where so many brackets are open before it: an integer is measured before its value is
-- looked at, and every kind that isn't named is measured alone.
abbrev pub over_limit : ℕ → TokenKind → List ℕ → Option TokenRefusal
over_limit depth kind.Integer text = if nat_lt TOKEN_LIMIT (length text) then Some refusal.Name else refusal_if (not (is_in_range text)) refusal.Literal
over_limit depth kind.Text text = refusal_if (nat_lt STRING_LIMIT (length (string_meaning text))) refusal.Text
over_limit depth kind.Open text = refusal_if (nat_le NESTING_LIMIT depth) refusal.Nesting
over_limit depth kind.Less text = refusal_if (nat_le NESTING_LIMIT depth) refusal.Nesting
over_limit depth _ text = refusal_if (nat_lt TOKEN_LIMIT (length text)) refusal.Name

-- how many brackets are open after a token; one that closes where none is open changes nothing
abbrev pub depth_after : ℕ → TokenKind → ℕ
depth_after depth kind.Open = depth + 1
depth_after depth kind.Less = depth + 1
depth_after depth kind.Close = depth - 1
depth_after depth kind.Greater = depth - 1
depth_after depth _ = depth
