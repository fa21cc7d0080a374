-- States of a memory, and how they are undone.
use Rattle.std.proofs.Common.{◌≡◌, ℕ, ◌≤◌, List, length, take, ap, ◌∙◌, sym, arith}
use Rattle.std.proofs.lemmas.List.{take-take, take_all}
use Rattle.mars_goals.specs.declared.cells.Pending.{Pending}
use Rattle.mars_store.proofs.CallerLemmas.{mark_kept, grows-refl, grows-trans}
use Rattle.mars_dif.proofs.CallerLemmas.{mark_kept as difs-kept, after-then, after-same}
use Rattle.mars_frozen.proofs.CallerLemmas.{mark_kept as frozen-kept, later_follows, later-all}
use Rattle.mars_memory.specs.Memory.{MemoryParts, memory_undone, IsLaterMemory}
use Rattle.mars_memory.specs.MemoryLaws.{MemoryMarkKept, LaterMemoryFollows}

-- memories are the same where their parts are
pub same-memory : (a b : MemoryParts) → a.system ≡ b.system → a.difs ≡ b.difs → a.frozen ≡ b.frozen → a.lists ≡ b.lists → a ≡ b
same-memory a b s d f l = λ i. record { system = s i; difs = d i; frozen = f i; lists = l i }

-- the first lists are those of before
lists-front : (size : ℕ) (old new : List (List Pending)) → size ≤ length old → take (length old) new ≡ old → take size new ≡ take size old
lists-front size old new h e = sym (take-take size (length old) new h) ∙ ap (take size) e

pub memory_mark_kept : MemoryMarkKept
memory_mark_kept old new mark later m =
    let s = mark_kept old.system new.system mark.store later.system m.store in
    let d = difs-kept old.difs new.difs mark.inequations later.difs m.inequations in
    let f = frozen-kept old.frozen new.frozen mark.frozen later.frozen m.frozen in (
      record { store = s.0; inequations = d.0; frozen = f.0; some = m.some; lists = omega (arith, m.lists, later.more) },
      same-memory (memory_undone new mark) (memory_undone old mark) s.1 d.1 f.1 (lists-front mark.lists old.lists new.lists m.lists later.lists),
    )

pub later_memory_follows : LaterMemoryFollows
later_memory_follows a b c f g = record {
  system = grows-trans a.system b.system c.system f.system g.system;
  difs = after-then a.difs b.difs c.difs f.difs g.difs;
  frozen = later_follows a.frozen b.frozen c.frozen f.frozen g.frozen;
  more = omega (arith, f.more, g.more);
  lists = lists-front (length a.lists) b.lists c.lists f.more g.lists ∙ f.lists;
}

pub later-memory : (m : MemoryParts) → IsLaterMemory m m
later-memory m = record {
  system = grows-refl m.system;
  difs = after-same m.difs;
  frozen = later-all m.frozen;
  more = omega arith;
  lists = take_all (length m.lists) m.lists (omega arith);
}
