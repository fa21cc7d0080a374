use Rattle.std.proofs.Common.{◌≡◌, take, true}
use Rattle.std.specs.List.{list_all}
use Rattle.std.specs.Str.Parse.{digits_value}
use Rattle.mars_tokens.specs.Bytes.{is_digit_byte}
use Rattle.mars_tokens.proofs.integers.magnitude.Given as goal

abbrev pub invariant-loop-d : goal.invariant-loop-d
invariant-loop-d l = (list_all is_digit_byte (take l.d-index l.digits) ≡ true) × (l.n ≡ digits_value 10 (take l.d-index l.digits))
