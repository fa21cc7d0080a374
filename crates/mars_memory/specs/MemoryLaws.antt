-- How long a memory can be undone to a mark.
use Rattle.std.specs.Prelude.{◌≡◌}
use Rattle.mars_goals.specs.declared.choice.MachineMark.{MachineMark}
use Rattle.mars_memory.specs.Memory.{MemoryParts, memory_undone, IsMemoryMark, IsLaterMemory}

-- a mark leads to the same state after parts were added to
abbrev pub MemoryMarkKept : Type 0
MemoryMarkKept = (old new : MemoryParts) (mark : MachineMark) → IsLaterMemory old new → IsMemoryMark old mark
    → IsMemoryMark new mark × (memory_undone new mark ≡ memory_undone old mark)

-- what was added to twice was added to
abbrev pub LaterMemoryFollows : Type 0
LaterMemoryFollows = (a b c : MemoryParts) → IsLaterMemory a b → IsLaterMemory b c → IsLaterMemory a c
