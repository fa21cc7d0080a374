-- What was undone was only added to since.
use Rattle.std.proofs.Common.{◌≡◌, ℕ, ◌≤◌, length, take, ap, arith}
use Rattle.std.proofs.lemmas.List.{length-take-le}
use Rattle.mars_store.specs.System.{System, IsMark, Grows, undone}
use Rattle.mars_store.specs.declared.mark.Mark.{Mark}
use Rattle.mars_watch.specs.Lined.{Lined, line_undone, IsLaterLine}
use Rattle.mars_watch.proofs.CallerLemmas.{line-twice}
use Rattle.mars_dif.specs.Kept.{Kept, keeper_undone, IsKeeperMark, IsAfter}
use Rattle.mars_dif.specs.declared.mark.Mark.{Mark as KeeperMark}
use Rattle.mars_frozen.specs.Freezing.{FrozenPairs, frozen_undone, IsFrozenMark, IsLaterFrozen}
use Rattle.mars_frozen.specs.declared.mark.Mark.{Mark as FrozenMark}
use Rattle.mars_goals.specs.declared.choice.MachineMark.{MachineMark}
use Rattle.mars_memory.specs.Memory.{MemoryParts, memory_undone, IsMemoryMark, IsLaterMemory}

undone-grows : (s : System) (m : Mark) → IsMark s m → Grows (undone s m) s
undone-grows s m k =
    let nodes : length (take m.nodes s.nodes) ≡ m.nodes = length-take-le m.nodes s.nodes k.nodes in
    let bound : length (take m.bound s.bound) ≡ m.bound = length-take-le m.bound s.bound k.bound in
    record {
      more_nodes = omega (arith, nodes, k.nodes);
      nodes = ap (λ n. take n s.nodes) nodes;
      more_bound = omega (arith, bound, k.bound);
      bound = ap (λ n. take n s.bound) bound;
    }

line-undone-later : {X : Type 0} (line : Lined X) (mark : ℕ) → mark ≤ length line.past → IsLaterLine (line_undone line mark) line
line-undone-later line mark h =
    let size : length (line_undone line mark).past ≡ mark = (line-twice line mark mark (omega arith) h).1 in
    record { more = omega (arith, size, h); undone = ap (line_undone line) size }

keeper-undone-later : (kept : Kept) (mark : KeeperMark) → IsKeeperMark kept mark → IsAfter (keeper_undone kept mark) kept
keeper-undone-later kept mark m =
    let size : length (take mark.watches kept.watches) ≡ mark.watches = length-take-le mark.watches kept.watches m.watches in
    record {
      difs = line-undone-later kept.difs mark.changes m.difs;
      numbers = line-undone-later kept.numbers mark.changes m.numbers;
      more = omega (arith, size, m.watches);
      watches = ap (λ n. take n kept.watches) size;
    }

frozen-undone-later : (frozen : FrozenPairs) (mark : FrozenMark) → IsFrozenMark frozen mark → IsLaterFrozen (frozen_undone frozen mark) frozen
frozen-undone-later frozen mark m =
    let size : length (take mark.watches frozen.watches) ≡ mark.watches = length-take-le mark.watches frozen.watches m.watches in
    record {
      pairs = line-undone-later frozen.pairs mark.changes m.pairs;
      numbers = line-undone-later frozen.numbers mark.changes m.numbers;
      more = omega (arith, size, m.watches);
      watches = ap (λ n. take n frozen.watches) size;
    }

pub memory-undone-later : (m : MemoryParts) (mark : MachineMark) → IsMemoryMark m mark → IsLaterMemory (memory_undone m mark) m
memory-undone-later m mark k =
    let size : length (take mark.lists m.lists) ≡ mark.lists = length-take-le mark.lists m.lists k.lists in
    record {
      system = undone-grows m.system mark.store k.store;
      difs = keeper-undone-later m.difs mark.inequations k.inequations;
      frozen = frozen-undone-later m.frozen mark.frozen k.frozen;
      more = omega (arith, size, k.lists);
      lists = ap (λ n. take n m.lists) size;
    }
