-- The classes of bytes that tokens, blanks and comments are made of.
use Rattle.std.specs.Prelude.{ℕ, Bool, nat_le, not, ◌==◌, ◌&&◌, ◌||◌}

-- A to Z, a to z
abbrev pub is_letter_byte : ℕ → Bool
is_letter_byte b = (nat_le 65 b && nat_le b 90) || (nat_le 97 b && nat_le b 122)

-- 0 to 9
abbrev pub is_digit_byte : ℕ → Bool
is_digit_byte b = nat_le 48 b && nat_le b 57

-- what a word goes on with: a letter, a digit, `_` or `'`
abbrev pub is_word_byte : ℕ → Bool
is_word_byte b = is_letter_byte b || is_digit_byte b || (b == 95) || (b == 39)

-- a prime, which is `'`
abbrev pub is_prime_byte : ℕ → Bool
is_prime_byte b = b == 39

-- a space, a tab, a line feed or a carriage return
abbrev pub is_blank_byte : ℕ → Bool
is_blank_byte b = (b == 32) || (b == 9) || (b == 10) || (b == 13)

-- what a comment goes on with: any byte but a line feed
abbrev pub is_comment_byte : ℕ → Bool
is_comment_byte b = not (b == 10)

-- what a string has as it is: 32 to 126, but neither `"` nor a backslash
abbrev pub is_plain_byte : ℕ → Bool
is_plain_byte b = nat_le 32 b && nat_le b 126 && not (b == 34) && not (b == 92)

-- what may come after a backslash in a string: `"`, a backslash or n
abbrev pub is_escaped_byte : ℕ → Bool
is_escaped_byte b = (b == 34) || (b == 92) || (b == 110)
