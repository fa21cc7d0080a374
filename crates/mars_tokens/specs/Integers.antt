-- What an integer means, and which integers are of i64.
use Rattle.std.specs.Prelude.{ℕ, ℤ, List, [], ◌∷◌, drop, ◌^◌, nat_lt, nat_le, Bool, false, ◌&&◌, if◌then◌else◌}
use Rattle.std.specs.List.{list_all}
use Rattle.std.specs.Str.Parse.{starts_with_minus, digits_value, signed_digits_value}
use Rattle.mars_tokens.specs.Bytes.{is_digit_byte}

-- one digit or more
abbrev pub are_digits : List ℕ → Bool
are_digits [] = false
are_digits (d ∷ rest) = is_digit_byte d && list_all is_digit_byte rest

-- digits, or `-` directly followed by digits
abbrev pub is_integer_text : List ℕ → Bool
is_integer_text text = if starts_with_minus text then are_digits (drop 1 text) else are_digits text

-- the number that a sign, if there is one, and digits write
abbrev pub integer_value : List ℕ → ℤ
integer_value text = signed_digits_value 10 text

-- that number is at least -2^63 and less than 2^63
abbrev pub is_in_range : List ℕ → Bool
is_in_range text = if starts_with_minus text then nat_le (digits_value 10 (drop 1 text)) (2 ^ 63) else nat_lt (digits_value 10 text) (2 ^ 63)
