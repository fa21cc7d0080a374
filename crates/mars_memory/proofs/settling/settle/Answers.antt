use Rattle.std.proofs.Common.{subst, refl, Some, None}
use Rattle.mars_dif.specs.Kept.{IsRechecked}
use Rattle.mars_frozen.specs.Freezing.{AreWoken, CanWake, waiting_pairs}
use Rattle.mars_memory.specs.Memory.{MemoryParts}
use Rattle.mars_memory.specs.Found.{IsAlternativeSettled}
use Rattle.mars_memory.specs.ListsInside.{ArePushed, node_calls}
use Rattle.mars_memory.proofs.Settled.{settled_none, settled_some}
use Rattle.mars_memory.proofs.Quiet.{quiet_settled}
use Rattle.mars_memory.proofs.settling.settle.Goals as goal

-- src/settling.rt:17:9
pub returns-then-not-branch : goal.returns-then-not-branch
returns-then-not-branch c =
    let old : MemoryParts = record { system = c.memory.inside.store; difs = c.memory.inside.inequations; frozen = c.memory.inside.frozen; lists = c.memory.inside.lists } in
    let new : MemoryParts = record { system = c.recheck.new.store; difs = c.recheck.new.self; frozen = c.memory.inside.frozen; lists = c.memory.inside.lists } in
    subst (λ m. IsAlternativeSettled m c.args.list new None) c.memory.view_is
    (settled_none old new c.args.list c.recheck.ensures.store c.recheck.ensures.after refl refl
    (λ added is. subst (IsRechecked old.system added) c.if-not-branch.true (c.in_ok-recheck.ensures.fine added is)))

-- src/settling.rt:12:1
pub returns : goal.returns
returns c =
    let old : MemoryParts = record { system = c.memory.inside.store; difs = c.memory.inside.inequations; frozen = c.memory.inside.frozen; lists = c.memory.inside.lists } in
    let new : MemoryParts = record { system = c.recheck.new.store; difs = c.recheck.new.self; frozen = c.wake.new.self; lists = c.push_calls.new.lists } in
    subst (λ m. IsAlternativeSettled m c.args.list new (Some c.in_ok-list.list)) c.memory.view_is
    (settled_some old new c.args.list c.in_ok-list.list c.in_ok-woken.woken.items c.recheck.ensures.store c.recheck.ensures.after c.wake.ensures.after
    (subst (λ goals. ArePushed old.lists new.lists (node_calls goals) c.args.list c.in_ok-list.list) c.deref.ensures.value c.in_ok-list.ensures)
    (λ added is. subst (IsRechecked old.system added) c.if-not-branch.false (c.in_ok-recheck.ensures.fine added is))
    c.in_ok-recheck.ensures.current
    (subst (λ s. AreWoken s (waiting_pairs old.frozen) c.in_ok-woken.woken.items (waiting_pairs new.frozen)) c.recheck.ensures.store c.in_ok-woken.ensures.woken)
    (subst (λ s. CanWake new.frozen s) c.recheck.ensures.store c.in_ok-woken.ensures.ready))

-- src/settling.rt:29:9
pub returns-then-is_quiet : goal.returns-then-is_quiet
returns-then-is_quiet c =
    let quiet = c.is_quiet.ensures c.if-is_quiet.true in
    quiet_settled c.args.memory.now c.args.list c.requires.inside quiet.0 quiet.1
