-- What contracts see of the sources and of the sink in memory, and what a read and a write do to them.
use Rattle.std.specs.Prelude.{◌≡◌, ℕ, ◌-◌, ◌≤◌, min, Bool, true, false, ◌==◌, List, [], ◌++◌, length, take, drop}
use Rattle.std.specs.List.{list_any}
use Rattle.mars_base.specs.Faults.{risen}
use Rattle.mars_io.specs.declared.source.Taken.{Taken}
use Rattle.mars_io.specs.declared.source.Taken.TheVariants as taken
use Rattle.mars_io.specs.declared.sink.Put.{Put}
use Rattle.mars_io.specs.declared.sink.Put.TheVariants as put

-- the bytes that a source has left, the most that a read gives, the numbers of the calls that fail, the number of the
-- next call, and how many faults there were
pub record Giver : Type 0 where
  pub left : List ℕ
  pub most : ℕ
  pub failing : List ℕ
  pub call : ℕ
  pub faults : ℕ

-- the bytes that a sink got, the room that it has for more, the numbers of the calls that fail, the number of the next
-- call, and how many faults there were
pub record Keeper : Type 0 where
  pub got : List ℕ
  pub room : ℕ
  pub failing : List ℕ
  pub call : ℕ
  pub faults : ℕ

-- whether the call of a number fails
abbrev pub is_listed : List ℕ → ℕ → Bool
is_listed failing call = list_any (λ c. c == call) failing

-- a read gives as many bytes as are left, as a read gives at most and as there is room for; the end comes where none is
-- left; a call that is listed is a fault, takes nothing and counts one. Calls are counted as faults are
abbrev pub Reads : Giver → Giver → Taken → List ℕ → Type 0
Reads old new (taken.Got n) into = (is_listed old.failing old.call ≡ false) × (n ≡ min (min (length old.left) old.most) (length into)) × (take n into ≡ take n old.left)
    × (new ≡ record { left = drop n old.left; most = old.most; failing = old.failing; call = risen old.call; faults = old.faults })
Reads old new taken.End into = (is_listed old.failing old.call ≡ false) × (old.left ≡ [])
    × (new ≡ record { left = []; most = old.most; failing = old.failing; call = risen old.call; faults = old.faults })
Reads old new taken.Failed into = (is_listed old.failing old.call ≡ true)
    × (new ≡ record { left = old.left; most = old.most; failing = old.failing; call = risen old.call; faults = risen old.faults })

-- the same of a source that never fails, and gives as much as there is room for
abbrev pub ReadsAll : List ℕ → List ℕ → Taken → List ℕ → Type 0
ReadsAll old new (taken.Got n) into = (n ≡ min (length old) (length into)) × (take n into ≡ take n old) × (new ≡ drop n old)
ReadsAll old new taken.End into = (old ≡ []) × (new ≡ [])
ReadsAll old new taken.Failed into = ⊥

-- a write keeps a whole piece where there is room; it fails exactly at a call that is listed and at a piece that is larger
-- than the room, keeps nothing then, and counts one fault
abbrev pub Writes : Keeper → Keeper → Put → List ℕ → Type 0
Writes old new put.All piece = (is_listed old.failing old.call ≡ false) × (length piece ≤ old.room)
    × (new ≡ record { got = old.got ++ piece; room = old.room - length piece; failing = old.failing; call = risen old.call; faults = old.faults })
Writes old new put.Failed piece = (is_listed old.failing old.call ≡ false → length piece ≤ old.room → ⊥)
    × (new ≡ record { got = old.got; room = old.room; failing = old.failing; call = risen old.call; faults = risen old.faults })
