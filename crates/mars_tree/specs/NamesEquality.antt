-- When lists of names are equal, spelling by spelling, and what they write into a hash.
use Rattle.std.specs.Prelude.{ℕ, List, Bool, nat_eq}
use Rattle.std.specs.Cmp.Lexicographic.{pointwise}
use Rattle.std.specs.Hash.{HashWrites, slice, u8}

-- whether two lists of texts are one
abbrev pub same_names : List (List ℕ) → List (List ℕ) → Bool
same_names names others = pointwise (pointwise nat_eq) names others

-- how many texts there are, and then each, as a slice of bytes
abbrev pub names_writes : List (List ℕ) → HashWrites
names_writes names = slice (slice u8) names
