-- Inside: the nodes of places as they are kept, each with the round in which it came.
use Rattle.std.specs.Prelude.{ℕ, ◌≤◌, List, length, map, take, All, Option, Some, None, if◌then◌else◌, ◌==◌}
use Rattle.mars_store.specs.declared.registers.Slot.{Slot}

-- the node of a place, where it came in this round
abbrev pub held_in : ℕ → Slot → Option ℕ
held_in round slot = if slot.round == round then Some slot.node else None

-- the nodes of the first places
abbrev pub registers_in : ℕ → ℕ → List Slot → List (Option ℕ)
registers_in round len slots = map (held_in round) (take len slots)

-- there are so many slots at least, and none was filled after this round
pub record AreSlots (round len : ℕ) (slots : List Slot) : Type 0 where
  pub room : len ≤ length slots
  pub past : All (λ (slot : Slot). slot.round ≤ round) slots
