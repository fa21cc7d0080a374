-- Numbers in 32 bits.
use Rattle.std.specs.Prelude.{ℕ, ◌-◌, ◌^◌, min}

-- a number in 32 bits, of which the last one takes the place of all that are greater
abbrev pub in_32_bits : ℕ → ℕ
in_32_bits n = min n (2 ^ 32 - 1)
