-- What counting a fault does, and what it means that a count rose. A count is kept in a u64.
use Rattle.std.specs.Prelude.{ℕ, ◌+◌, ◌-◌, ◌^◌, ◌≤◌, min}

-- one more; the last value of a u64 stays as it is
abbrev pub risen : ℕ → ℕ
risen count = min (count + 1) (2 ^ 64 - 1)

-- the count rose by one or more, or is at the last value
abbrev pub Rose : ℕ → ℕ → Type 0
Rose before now = risen before ≤ now
