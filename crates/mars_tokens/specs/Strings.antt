-- What is between the quotes of a string, and what it means.
use Rattle.std.specs.Prelude.{◌≡◌, ℕ, ◌-◌, List, [], ◌∷◌, length, take, drop, Bool, true, false, ◌==◌, if◌then◌else◌}
use Rattle.mars_tokens.specs.Bytes.{is_plain_byte, is_escaped_byte}

-- any number of plain bytes, and of bytes that a backslash escapes
pub data IsStringBody : List ℕ → Type 0 where
  empty : IsStringBody []
  plain : (b : ℕ) (rest : List ℕ) → is_plain_byte b ≡ true → IsStringBody rest → IsStringBody (b ∷ rest)
  escape : (b : ℕ) (rest : List ℕ) → is_escaped_byte b ≡ true → IsStringBody rest → IsStringBody (92 ∷ b ∷ rest)

-- what a byte means; the Bool: a backslash came just before
abbrev pub meant : Bool → ℕ → ℕ
meant true b = if b == 110 then 10 else b
meant false b = b

-- the bytes with their escapes undone, likewise
abbrev pub unescaped : Bool → List ℕ → List ℕ
unescaped escaped [] = []
unescaped true (b ∷ rest) = meant true b ∷ unescaped false rest
unescaped false (b ∷ rest) = if b == 92 then unescaped true rest else meant false b ∷ unescaped false rest

-- the bytes between the quotes
abbrev pub between_quotes : List ℕ → List ℕ
between_quotes text = take (length text - 2) (drop 1 text)

-- the meaning of a string
abbrev pub string_meaning : List ℕ → List ℕ
string_meaning text = unescaped false (between_quotes text)
