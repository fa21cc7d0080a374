-- Which texts are read and which are refused, for any start of the grammar and any builder.
use Rattle.std.specs.Prelude.{◌≡◌, ℕ, ◌-◌, List, length, nat_lt, Bool, true, false, Option, Some, None, slice_get}
use Rattle.mars_grammar.specs.declared.Refusal.{Refusal}
use Rattle.mars_grammar.specs.declared.Refusal.TheVariants as refusal
use Rattle.mars_grammar.specs.declared.Which.{Which}
use Rattle.mars_grammar.specs.declared.Which.TheVariants.{First, Second}
use Rattle.mars_grammar.specs.FormTable.{Event, IsText}
use Rattle.mars_grammar.specs.Building.{Build, performs, Fault, Syntax, Over}
use Rattle.mars_grammar.specs.Refusing.{IsFirst, HasNoFault}
use Rattle.mars_forms.specs.declared.lexeme.TokenKind.{TokenKind}
use Rattle.mars_forms.specs.declared.lexeme.TokenKind.TheVariants as kind
use Rattle.mars_forms.specs.declared.lexeme.Lexeme.{Lexeme}
use Rattle.mars_forms.specs.declared.symbol.FormSymbol.{FormSymbol}
use Rattle.mars_forms.specs.declared.symbol.FormAction.{FormAction}
use Rattle.mars_forms.specs.Table.{forms}
use Rattle.mars_tokens.specs.declared.lexer.TokenRefusal.{TokenRefusal}
use Rattle.mars_tokens.specs.declared.lexer.TokenRefusal.TheVariants as token
use Rattle.mars_tokens.specs.Tokens.{IsTokenList}
use Rattle.mars_clauses.specs.declared.limits.InputLimit.{InputLimit}
use Rattle.mars_clauses.specs.declared.limits.InputLimit.TheVariants as limit
use Rattle.mars_clauses.specs.declared.limits.OverLimit.{OverLimit}
use Rattle.mars_read.specs.declared.error.ReadError.{ReadError}
use Rattle.mars_read.specs.declared.error.ReadError.TheVariants as error
use Rattle.mars_read.specs.declared.error.What.TheVariants as what
use Rattle.mars_read.specs.declared.error.TheConstants.{TEXT_LIMIT}

-- the refusal that looks at tokens alone, at a place
abbrev pub token_error : TokenRefusal → ℕ → ReadError
token_error token.BadByte at = error.BadByte at
token_error token.Name at = error.Limit what.Name at
token_error token.Literal at = error.Limit what.Literal at
token_error token.Nesting at = error.Limit what.Nesting at
token_error token.Text at = error.Limit what.Text at

-- the refusal of a limit that is passed, at a place
abbrev pub limit_error_at : InputLimit → ℕ → ReadError
limit_error_at limit.Arity at = error.Limit what.Arity at
limit_error_at limit.Rules at = error.Limit what.Rules at
limit_error_at limit.Clause at = error.Limit what.Clause at
limit_error_at limit.Literal at = error.Limit what.Literal at
limit_error_at limit.Sessions at = error.Limit what.Sessions at
limit_error_at limit.Commands at = error.Limit what.Commands at
limit_error_at limit.BuiltIn at = error.Builtin at
limit_error_at limit.Twice at = error.Twice at

abbrev pub limit_error : OverLimit → ReadError
limit_error over = limit_error_at over.limit over.start

-- the limit of one of two builders
abbrev pub either_limit : Which OverLimit OverLimit → OverLimit
either_limit (First over) = over
either_limit (Second over) = over

-- the refusal at a token that no text has there: its own, where it is the last token of what is refused
abbrev pub refused_error : TokenKind → Option TokenRefusal → ℕ → ReadError
refused_error kind.Refused (Some r) at = token_error r at
refused_error kind.Refused None at = error.Syntax at
refused_error _ r at = error.Syntax at

-- the refusal at a token that no text has there, or at the end of so many bytes
abbrev pub syntax_error : Option Lexeme → Option TokenRefusal → ℕ → ReadError
syntax_error (Some t) r length = refused_error t.kind r t.start
syntax_error None r length = error.Syntax length

-- the token where so many are left, none at the end
abbrev pub token_left : List Lexeme → ℕ → Option Lexeme
token_left tokens left = slice_get tokens (length tokens - left)

-- the refusal of a text of so many bytes, by what its tokens are refused for: a limit has its own place
abbrev pub text_error : {L : Type 0} → (L → OverLimit) → Refusal L → List Lexeme → Option TokenRefusal → ℕ → ReadError
text_error over (refusal.Syntax left) tokens r length = syntax_error (token_left tokens left) r length
text_error over (refusal.Limit l left) tokens r length = limit_error (over l)
text_error over refusal.NoMemory tokens r length = error.NoMemory

-- tokens with this fault are refused so
abbrev pub refusal_at : {L : Type 0} → Fault L → Refusal L
refusal_at (Syntax left) = refusal.Syntax left
refusal_at (Over l left) = refusal.Limit l left

-- too many bytes
abbrev pub is_too_long : List ℕ → Bool
is_too_long bytes = nat_lt TEXT_LIMIT (length bytes)

-- the refusal of a text that is too long, or out of memory
abbrev pub IsLongRefusal : List ℕ → ReadError → Type 0
IsLongRefusal bytes error.NoMemory = Unit {0}
IsLongRefusal bytes e = (is_too_long bytes ≡ true) × (e ≡ error.Limit what.Input TEXT_LIMIT)

module _ {V L : Type 0} (two : Bool) (start : List FormSymbol) (B : Build (Event FormSymbol Lexeme FormAction) V L) (v : V) (bytes : List ℕ) where
  -- The text is read: its tokens have no refusal, are a text of the grammar that is over no limit, and this is made of what it tells.
  pub record IsReadAs (w : V) : Type 0 where
    pub short : is_too_long bytes ≡ false
    pub lexemes : List Lexeme
    pub tokens : IsTokenList two bytes lexemes None
    pub events : List (Event FormSymbol Lexeme FormAction)
    pub text : IsText (forms two) start lexemes events
    pub within : HasNoFault (forms two) B start v lexemes
    pub made : w ≡ performs B events v

  -- the text has a first fault, and the refusal is the one at its place
  pub record HasFirstFault (over : L → OverLimit) (e : ReadError) : Type 0 where
    pub lexemes : List Lexeme
    pub refusal : Option TokenRefusal
    pub tokens : IsTokenList two bytes lexemes refusal
    pub fault : Fault L
    pub first : IsFirst (forms two) B start v lexemes fault
    pub is : e ≡ text_error over (refusal_at fault) lexemes refusal (length bytes)

  -- the refusal of a text: that of its length goes first
  abbrev pub RefusesBy : Bool → (L → OverLimit) → ReadError → Type 0
  RefusesBy true over e = e ≡ error.Limit what.Input TEXT_LIMIT
  RefusesBy false over e = HasFirstFault over e

  -- The text is refused so. Out of memory may come at any text.
  abbrev pub IsRefusedAs : (L → OverLimit) → ReadError → Type 0
  IsRefusedAs over error.NoMemory = Unit {0}
  IsRefusedAs over e = RefusesBy (is_too_long bytes) over e
