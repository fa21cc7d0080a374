-- What a read answers, and what it does to the bytes that are left, where the source tells them.
use Rattle.std.specs.Prelude.{ℕ, ◌≤◌, List, take, Option}
use Rattle.std.specs.Io.KnownBytes.{Keeps, Consumes, IsAtEnd}
use Rattle.mars_io.specs.declared.source.Taken.{Taken}
use Rattle.mars_io.specs.declared.source.Taken.TheVariants.{Got, End, Failed}

-- a read that gives bytes gives one at least, and no more than there is room for
abbrev pub GotAtMost : Taken → ℕ → Type 0
GotAtMost (Got n) room = (1 ≤ n) × (n ≤ room)
GotAtMost End room = Unit {0}
GotAtMost Failed room = Unit {0}

-- the bytes that a read gives are the next ones; at the end none is left; a fault takes none
abbrev pub Gives : Option (List ℕ) → Option (List ℕ) → Taken → List ℕ → Type 0
Gives old new (Got n) into = Consumes old new (take n into)
Gives old new End into = Keeps old new × IsAtEnd new
Gives old new Failed into = Keeps old new
