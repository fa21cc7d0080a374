-- The kind of a word: one that the grammar writes, an identifier, a variable, or neither.
use Rattle.std.specs.Prelude.{ℕ, List, [], ◌∷◌, drop, Bool, false, Option, Some, None, unwrap_or, if◌then◌else◌}
use Rattle.std.specs.List.{list_all, prefix_len}
use Rattle.std.specs.Str.{bytes_eq}
use Rattle.std.specs.Borrow.{Bor}
use Rattle.mars_forms.specs.declared.lexeme.TokenKind.{TokenKind}
use Rattle.mars_forms.specs.declared.lexeme.TokenKind.TheVariants as kind
use Rattle.mars_tokens.specs.declared.words.TheConstants.{WORDS}
use Rattle.mars_tokens.specs.Bytes.{is_letter_byte, is_digit_byte, is_prime_byte}

-- words that the code holds, without their places in memory
abbrev pub borrowed_words : List (Bor (List ℕ) × TokenKind) → List (List ℕ × TokenKind)
borrowed_words [] = []
borrowed_words (word ∷ words) = (word.0.now, word.1) ∷ borrowed_words words

-- words of a constant
abbrev pub constant_words : List (record { now : List ℕ } × TokenKind) → List (List ℕ × TokenKind)
constant_words [] = []
constant_words (word ∷ words) = (word.0.now, word.1) ∷ constant_words words

-- the kind of the first listed word that is spelled so
abbrev pub listed_kind : List (List ℕ × TokenKind) → List ℕ → Option TokenKind
listed_kind [] text = None
listed_kind (word ∷ words) text = if bytes_eq text word.0 then Some word.1 else listed_kind words text

-- an identifier is a word whose second byte is a letter
abbrev pub is_identifier_word : List ℕ → Bool
is_identifier_word [] = false
is_identifier_word (a ∷ []) = false
is_identifier_word (a ∷ b ∷ rest) = is_letter_byte b

-- a variable is a word that is one letter, then digits, then primes, each possibly none
abbrev pub is_variable_word : List ℕ → Bool
is_variable_word [] = false
is_variable_word (a ∷ rest) = list_all is_prime_byte (drop (prefix_len is_digit_byte rest) rest)

-- the kind of a word that the grammar doesn't write
abbrev pub spelled_kind : List ℕ → TokenKind
spelled_kind text = if is_identifier_word text then kind.Identifier else (if is_variable_word text then kind.Variable else kind.OddWord)

-- the kind of a word, whatever the version
abbrev pub word_kind : List ℕ → TokenKind
word_kind text = unwrap_or (listed_kind (constant_words WORDS) text) (spelled_kind text)
