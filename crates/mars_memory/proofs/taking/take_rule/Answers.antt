use Rattle.std.proofs.Common.{◌<◌, length, subst, sym, ap, None}
use Rattle.mars_matching.specs.Matched.{IsMatched}
use Rattle.mars_memory.specs.Memory.{MemoryParts}
use Rattle.mars_memory.specs.Found.{IsTaken}
use Rattle.mars_memory.proofs.Marks.{memory_mark_kept, later_memory_follows}
use Rattle.mars_memory.proofs.Trying.{call_in, taken_none, taken_some, taken_undone, written_has, written_later}
use Rattle.mars_memory.proofs.taking.take_rule.Goals as goal

pub match_head-requires-clause-goal_in : goal.match_head-requires-clause-goal_in
match_head-requires-clause-goal_in c =
    let has = c.requires.held.has in
    subst (λ (m : MemoryParts). c.args.node < length m.system.nodes) (sym c.memory.view_is) (call_in has.asked c.args.memory.now has.groups c.args.node c.args.rest has.parent has.call has.others has.is_call).denotes.inside

pub returns-then-not-branch : goal.returns-then-not-branch
returns-then-not-branch c =
    let old : MemoryParts = record { system = c.memory.inside.store; difs = c.memory.inside.inequations; frozen = c.memory.inside.frozen; lists = c.memory.inside.lists } in
    let new : MemoryParts = record { system = c.match_head.new.store; difs = c.memory.inside.inequations; frozen = c.memory.inside.frozen; lists = c.memory.inside.lists } in
    let none = rw c.if-not-branch.true at c.in_ok-match_head.ensures.fine in
    subst (λ m. IsTaken m c.args.node c.args.rest c.args.depth c.args.flat.now new None) c.memory.view_is
    (taken_none old new c.args.node c.args.rest c.args.depth c.args.flat.now (ap (λ s. record { system = s; difs = c.memory.inside.inequations; frozen = c.memory.inside.frozen; lists = c.memory.inside.lists }) none.0) none.1)

pub settle-requires : goal.settle-requires
settle-requires c =
    let old : MemoryParts = c.args.memory.now in
    let mid : MemoryParts = record { system = c.match_head.new.store; difs = c.memory.inside.inequations; frozen = c.memory.inside.frozen; lists = c.memory.inside.lists } in
    let is = c.memory.view_is in
    let fine = rw c.if-not-branch.false at c.in_ok-match_head.ensures.fine in
    let matched = subst (λ (m : MemoryParts). IsMatched c.args.flat.now.template m.system mid.system c.args.node c.match_head.new.registers) is fine in
    let difs = ap (λ (m : MemoryParts). m.difs) is in
    let frozen = ap (λ (m : MemoryParts). m.frozen) is in
    let lists = ap (λ (m : MemoryParts). m.lists) is in
    written_has old mid c.write_body.new.memory c.args.node c.args.rest c.args.depth c.in_ok-list.list c.args.flat.now c.match_head.new.registers c.write_body.new.registers matched difs frozen lists c.in_ok-list.ensures c.requires.held c.requires.rule

pub undo_to-requires : goal.undo_to-requires
undo_to-requires c =
    let old : MemoryParts = c.args.memory.now in
    let mid : MemoryParts = record { system = c.match_head.new.store; difs = c.memory.inside.inequations; frozen = c.memory.inside.frozen; lists = c.memory.inside.lists } in
    let is = c.memory.view_is in
    let fine = rw c.if-not-branch.false at c.in_ok-match_head.ensures.fine in
    let matched = subst (λ (m : MemoryParts). IsMatched c.args.flat.now.template m.system mid.system c.args.node c.match_head.new.registers) is fine in
    let difs = ap (λ (m : MemoryParts). m.difs) is in
    let frozen = ap (λ (m : MemoryParts). m.frozen) is in
    let lists = ap (λ (m : MemoryParts). m.lists) is in
    let settled = rw c.in-None.is at c.in_ok-found.ensures in
    (memory_mark_kept old c.settle.new.memory c.mark-mark.result (later_memory_follows old c.write_body.new.memory c.settle.new.memory
    (written_later old mid c.write_body.new.memory c.args.node c.args.rest c.args.depth c.in_ok-list.list c.args.flat.now c.match_head.new.registers c.write_body.new.registers matched difs frozen lists c.in_ok-list.ensures) settled.0) c.mark-mark.ensures.made).0

pub returns-in-Some : goal.returns-in-Some
returns-in-Some c =
    let old : MemoryParts = c.args.memory.now in
    let mid : MemoryParts = record { system = c.match_head.new.store; difs = c.memory.inside.inequations; frozen = c.memory.inside.frozen; lists = c.memory.inside.lists } in
    let is = c.memory.view_is in
    let fine = rw c.if-not-branch.false at c.in_ok-match_head.ensures.fine in
    let matched = subst (λ (m : MemoryParts). IsMatched c.args.flat.now.template m.system mid.system c.args.node c.match_head.new.registers) is fine in
    let difs = ap (λ (m : MemoryParts). m.difs) is in
    let frozen = ap (λ (m : MemoryParts). m.frozen) is in
    let lists = ap (λ (m : MemoryParts). m.lists) is in
    taken_some old mid c.write_body.new.memory c.args.node c.args.rest c.args.depth c.in_ok-list.list c.args.flat.now c.match_head.new.registers c.write_body.new.registers matched difs frozen lists c.in_ok-list.ensures c.settle.new.memory c.in-Some.found (rw c.in-Some.is at c.in_ok-found.ensures)

pub returns-in-None : goal.returns-in-None
returns-in-None c =
    let old : MemoryParts = c.args.memory.now in
    let mid : MemoryParts = record { system = c.match_head.new.store; difs = c.memory.inside.inequations; frozen = c.memory.inside.frozen; lists = c.memory.inside.lists } in
    let is = c.memory.view_is in
    let fine = rw c.if-not-branch.false at c.in_ok-match_head.ensures.fine in
    let matched = subst (λ (m : MemoryParts). IsMatched c.args.flat.now.template m.system mid.system c.args.node c.match_head.new.registers) is fine in
    let difs = ap (λ (m : MemoryParts). m.difs) is in
    let frozen = ap (λ (m : MemoryParts). m.frozen) is in
    let lists = ap (λ (m : MemoryParts). m.lists) is in
    taken_undone old mid c.write_body.new.memory c.args.node c.args.rest c.args.depth c.in_ok-list.list c.args.flat.now c.match_head.new.registers c.write_body.new.registers matched difs frozen lists c.in_ok-list.ensures c.settle.new.memory c.undo_to.new.self c.mark-mark.result (rw c.in-None.is at c.in_ok-found.ensures)
    c.mark-mark.ensures.made c.mark-mark.ensures.back c.undo_to.ensures
