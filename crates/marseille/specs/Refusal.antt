-- The line of an input that is refused.
use Rattle.std.specs.Prelude.{ℕ, List, [], ◌++◌, codes, decimal}
use Rattle.mars_read.specs.declared.error.ReadError.{ReadError}
use Rattle.mars_read.specs.declared.error.ReadError.TheVariants as error
use Rattle.mars_read.specs.declared.error.What.{What}
use Rattle.mars_read.specs.declared.error.What.TheVariants as what

-- the word of a limit
abbrev pub limit_word : What → List ℕ
limit_word what.Input = codes "input"
limit_word what.Name = codes "name"
limit_word what.Literal = codes "literal"
limit_word what.Nesting = codes "nesting"
limit_word what.Arity = codes "arity"
limit_word what.Rules = codes "rules"
limit_word what.Clause = codes "clause"
limit_word what.Sessions = codes "sessions"
limit_word what.Commands = codes "commands"
limit_word what.Text = codes "string"

-- a place after some words, to the end of the line
abbrev pub place_line : List ℕ → ℕ → List ℕ
place_line words at = words ++ decimal at ++ codes "\n"

-- the line of a refusal: its number, the word of its limit, and its place; out of memory has none
abbrev pub refusal_line : ReadError → List ℕ
refusal_line (error.BadByte at) = place_line (codes "refused E1 at ") at
refusal_line (error.Syntax at) = place_line (codes "refused E2 at ") at
refusal_line (error.Limit limit at) = codes "refused E3 " ++ limit_word limit ++ place_line (codes " at ") at
refusal_line (error.Builtin at) = place_line (codes "refused E4 at ") at
refusal_line (error.Twice at) = place_line (codes "refused E5 at ") at
refusal_line error.NoMemory = []
