use Rattle.std.proofs.Common.{◌≡◌, ℕ, length, slice_get, Some}
use Rattle.mars_rows.specs.IndexInside.{Pair, IsMade}
use Rattle.mars_rows.proofs.index.entries_of.Given as goal

abbrev pub invariant-loop-head : goal.invariant-loop-head
invariant-loop-head l = record {
  count : length l.entries.items ≡ l.head-index;
  each : (k : ℕ) (entry : Pair) → slice_get l.entries.items k ≡ Some entry → (head : ℕ) × (slice_get l.heads k ≡ Some head) × IsMade l.graph l.parts l.names head entry.0.items.items entry.1.items;
}
