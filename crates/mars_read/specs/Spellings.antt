-- What tokens mean: the numbers of their spellings in the names of the text, or in the list of its other variables, and integers.
use Rattle.std.specs.Prelude.{ℕ, ◌-◌, ◌^◌, nat_lt, ℤ, pos, List, [], ◌∷◌, ◌++◌, length, Bool, true, false, ◌&&◌, is_some, if◌then◌else◌}
use Rattle.mars_tree.specs.declared.label.NameId.{NameId}
use Rattle.mars_tree.specs.Names.{place_of, name_number, with_text, built_in_names}
use Rattle.mars_forms.specs.declared.lexeme.TokenKind.{TokenKind}
use Rattle.mars_forms.specs.declared.lexeme.TokenKind.TheVariants as kind
use Rattle.mars_forms.specs.declared.lexeme.Lexeme.{Lexeme}
use Rattle.mars_forms.specs.declared.symbol.FormSymbol.{FormSymbol}
use Rattle.mars_forms.specs.declared.symbol.FormSymbol.TheVariants as due
use Rattle.mars_tokens.specs.Tokens.{spelling_at}
use Rattle.mars_tokens.specs.Integers.{integer_value, is_integer_text, is_in_range}
use Rattle.mars_tokens.specs.Strings.{string_meaning}
use Rattle.mars_clauses.specs.declared.maker.ValuedToken.{ValuedToken}
use Rattle.mars_clauses.specs.Short.{in_32_bits}
use Rattle.mars_read.specs.declared.spellings.TokenMeanings.{TokenMeanings}
use Rattle.mars_read.specs.NameLists.{joined_names}
use Rattle.mars_read.specs.declared.spellings.TokenRole.{TokenRole}
use Rattle.mars_read.specs.declared.spellings.TokenRole.TheVariants as role

-- A text, the names that were there before it, those that it adds, and the spellings of its other variables.
pub record Spellings : Type 0 where
  pub text : List ℕ
  pub known : List (List ℕ)
  pub added : List (List ℕ)
  pub vars : List (List ℕ)

-- nothing is read yet
abbrev pub spellings_from : List ℕ → List (List ℕ) → Spellings
spellings_from text known = record { text = text; known = known; added = []; vars = built_in_names }

-- all names: those that were there, and after them those that are added
abbrev pub all_names : Spellings → List (List ℕ)
all_names v = v.known ++ v.added

-- the names that are added with a text, which goes last where it is new
abbrev pub added_with : List ℕ → List (List ℕ) → List (List ℕ) → List (List ℕ)
added_with text known added = if is_some (place_of text (known ++ added)) then added else added ++ text ∷ []

-- names with these texts, one after the other
abbrev pub with_texts : List (List ℕ) → List (List ℕ) → List (List ℕ)
with_texts names [] = names
with_texts names (text ∷ texts) = with_texts (with_text text names) texts

-- likewise with one text, unless the names are as many as there can be
abbrev pub with_text_if_room : List ℕ → List (List ℕ) → List (List ℕ)
with_text_if_room text names = if nat_lt (length names) (2 ^ 32 - 1) then with_text text names else names

-- with a name, and with a variable that is no name
abbrev pub with_name : List ℕ → Spellings → Spellings
with_name text v = record v { added = added_with text v.known v.added }

abbrev pub with_variable_text : List ℕ → Spellings → Spellings
with_variable_text text v = record v { vars = with_text_if_room text v.vars }

-- the number of a name, and of a variable that is no name, in 32 bits
abbrev pub name_in : List ℕ → Spellings → NameId
name_in text v = record { 0 = in_32_bits (name_number text (all_names v)) }

abbrev pub variable_in : List ℕ → Spellings → NameId
variable_in text v = record { 0 = in_32_bits (name_number text v.vars) }

-- a word that the symbol takes is a name
abbrev pub takes_names : FormSymbol → Bool
takes_names due.RuleList = true
takes_names due.Goals = true
takes_names due.Term = true
takes_names due.AskGoals = true
takes_names due.AskTerm = true
takes_names due.KeptName = true
takes_names due.PutTerm = true
takes_names due.DefinedTerm = true
takes_names due.OneName = true
takes_names _ = false

-- a variable that the symbol takes is among the names: one of an ask or a keep
abbrev pub names_variables : FormSymbol → Bool
names_variables due.AskGoals = true
names_variables due.AskTerm = true
names_variables due.OneVariable = true
names_variables _ = false

-- one of two roles
abbrev pub role_if : Bool → TokenRole → TokenRole → TokenRole
role_if true a b = a
role_if false a b = b

-- the role of a token; a word that no symbol takes for a name is a word of the grammar
abbrev pub role_of : FormSymbol → TokenKind → TokenRole
role_of s kind.Variable = role_if (names_variables s) role.Name role.Variable
role_of s kind.Placed = role.Variable
role_of s kind.Integer = role.Integer
role_of s kind.Text = role.Text
role_of s kind.Arrow = role.Sign
role_of s kind.Open = role.Sign
role_of s kind.Close = role.Sign
role_of s kind.Less = role.Sign
role_of s kind.Greater = role.Sign
role_of s kind.Comma = role.Sign
role_of s kind.Dot = role.Sign
role_of s kind.Semicolon = role.Sign
role_of s kind.Slash = role.Sign
role_of s kind.Equals = role.Sign
role_of s kind.Hash = role.Sign
role_of s _ = role_if (takes_names s) role.Name role.Sign

-- a token with a number of a spelling and an integer
abbrev pub valued : Lexeme → NameId → ℤ → ValuedToken
valued t name number = record { kind = t.kind; start = t.start; name = name; number = number }

-- no spelling
abbrev pub no_name : NameId
no_name = record { 0 = 0 }

-- the number of an integer, 0 where it is none of i64
abbrev pub integer_or : List ℕ → ℤ
integer_or text = if is_integer_text text && is_in_range text then integer_value text else pos 0

-- what the string at a token means
abbrev pub meaning_at : Lexeme → Spellings → List ℕ
meaning_at t v = string_meaning (spelling_at v.text t)

-- the meaning of a token in this role
abbrev pub meaning_as : TokenRole → Lexeme → Spellings → ValuedToken
meaning_as role.Sign t v = valued t no_name (pos 0)
meaning_as role.Name t v = valued t (name_in (spelling_at v.text t) v) (pos 0)
meaning_as role.Variable t v = valued t (variable_in (spelling_at v.text t) v) (pos 0)
meaning_as role.Integer t v = valued t no_name (integer_or (spelling_at v.text t))
meaning_as role.Text t v = valued t (name_in (meaning_at t v) v) (pos 0)

-- the spellings with that of a token in this role
abbrev pub with_token_as : TokenRole → Lexeme → Spellings → Spellings
with_token_as role.Sign t v = v
with_token_as role.Name t v = with_name (spelling_at v.text t) v
with_token_as role.Variable t v = with_variable_text (spelling_at v.text t) v
with_token_as role.Integer t v = v
with_token_as role.Text t v = with_name (meaning_at t v) v

-- The meaning of a token that a symbol takes, and the spellings with it.
abbrev pub meaning_of : FormSymbol → Lexeme → Spellings → ValuedToken
meaning_of s t v = meaning_as (role_of s t.kind) t v

abbrev pub with_token : FormSymbol → Lexeme → Spellings → Spellings
with_token s t v = with_token_as (role_of s t.kind) t v

-- the code's spellings
abbrev pub spellings_of : TokenMeanings → Spellings
spellings_of m = record { text = m.bytes.now; known = m.names.known; added = m.names.added; vars = joined_names m.vars }
