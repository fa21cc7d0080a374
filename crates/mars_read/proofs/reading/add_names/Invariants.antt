use Rattle.std.proofs.Common.{◌≡◌, ◌≤◌, ◌+◌, length, map, drop}
use Rattle.mars_read.specs.Spellings.{with_texts}
use Rattle.mars_read.specs.ReadTree.{KeepsNames}
use Rattle.mars_read.proofs.reading.add_names.Given as goal

abbrev pub invariant-loop-text : goal.invariant-loop-text
invariant-loop-text l = record {
  texts : with_texts l.fn.names (map (λ text. text.items) l.texts) ≡ with_texts l.names (map (λ text. text.items) (drop l.text-index l.texts));
  kept : KeepsNames l.fn.names l.names;
  few : length l.names ≤ length l.fn.names + l.text-index;
}
