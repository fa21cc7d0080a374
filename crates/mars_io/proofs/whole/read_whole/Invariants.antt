use Rattle.std.proofs.Common.{◌≡◌, ◌≤◌, ◌+◌, ◌-◌, vec_len}
use Rattle.std.specs.Io.KnownBytes.{Consumes}
use Rattle.mars_io.specs.declared.whole.TheConstants.{CHUNK}
use Rattle.mars_io.proofs.whole.read_whole.Given as goal

abbrev pub invariant-turns : goal.invariant-turns
invariant-turns g l = record {
  chunk : vec_len l.chunk ≡ CHUNK;
  within : vec_len l.bytes ≤ l.limit + 1;
  later : g.S.Source.faults l.fn.source ≤ g.S.Source.faults l.source;
  consumed : Consumes (g.S.Source.left l.fn.source) (g.S.Source.left l.source) l.bytes.items;
}

abbrev pub decreases-turns : goal.decreases-turns
decreases-turns g l = l.limit + 1 - vec_len l.bytes
