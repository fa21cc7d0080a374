-- Numbers as words write them.
use Rattle.std.specs.Prelude.{ℕ, List, Option, Some, None, ◌&&◌, length, nat_lt, nat_le, if◌then◌else◌}
use Rattle.std.specs.Str.{all_ascii_digits}
use Rattle.std.specs.Str.Parse.{without_leading_plus, digits_value}

-- the number that a text writes, at most `most`: one digit or more, after a plus or not; none where there is none
abbrev pub number_up_to : ℕ → List ℕ → Option ℕ
number_up_to most text =
    let digits = without_leading_plus text in
    (if nat_lt 0 (length digits) && (all_ascii_digits digits && nat_le (digits_value 10 digits) most) then Some (digits_value 10 digits) else None)
