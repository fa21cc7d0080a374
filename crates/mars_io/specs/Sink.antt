-- What a write does to the bytes that a sink got, where the sink tells them.
use Rattle.std.specs.Prelude.{ℕ, List, take, Option}
use Rattle.std.specs.Io.KnownBytes.{Appends}
use Rattle.mars_io.specs.declared.sink.Put.{Put}
use Rattle.mars_io.specs.declared.sink.Put.TheVariants.{All, Failed}

-- a beginning of the piece was appended
abbrev pub AppendsPrefix : Option (List ℕ) → Option (List ℕ) → List ℕ → Type 0
AppendsPrefix old new piece = (n : ℕ) × Appends old new (take n piece)

-- the whole piece was appended, or at a fault a beginning of it
abbrev pub Takes : Option (List ℕ) → Option (List ℕ) → Put → List ℕ → Type 0
Takes old new All piece = Appends old new piece
Takes old new Failed piece = AppendsPrefix old new piece
