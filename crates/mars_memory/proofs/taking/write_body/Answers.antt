use Rattle.std.proofs.Common.{All, subst, sym, refl}
use Rattle.mars_rules.specs.TakenRules.{HasGoalNode}
use Rattle.mars_rules.proofs.Taken.{built-nodes}
use Rattle.mars_memory.specs.Memory.{MemoryParts}
use Rattle.mars_memory.specs.ListsInside.{ArePushed, pendings_of}
use Rattle.mars_memory.specs.TakingInside.{IsBodyWritten}
use Rattle.mars_memory.proofs.taking.write_body.Goals as goal

pub push_body-requires-clause-nodes : goal.push_body-requires-clause-nodes
push_body-requires-clause-nodes c =
    let nodes = (built-nodes c.memory.inside.store c.build_body.new.store c.requires.rule.rule c.args.flat.now c.args.registers.now c.build_body.new.registers
    c.requires.rule.is_flat c.in_ok-build_body.ensures.ok).1 in
    subst (λ goals. All (HasGoalNode c.build_body.new.registers) goals) (sym c.deref.ensures.value) nodes

pub returns : goal.returns
returns c =
    let old : MemoryParts = record { system = c.memory.inside.store; difs = c.memory.inside.inequations; frozen = c.memory.inside.frozen; lists = c.memory.inside.lists } in
    let new : MemoryParts = record { system = c.build_body.new.store; difs = c.memory.inside.inequations; frozen = c.memory.inside.frozen; lists = c.push_body.new.lists } in
    let done : IsBodyWritten old new c.args.flat.now c.args.rest c.args.depth c.args.registers.now c.build_body.new.registers c.in_ok-list.list = record {
      built = c.in_ok-build_body.ensures.ok;
      pushed = subst (λ goals. ArePushed c.memory.inside.lists c.push_body.new.lists (pendings_of c.build_body.new.registers c.args.depth goals) c.args.rest c.in_ok-list.list) c.deref.ensures.value
          c.in_ok-list.ensures;
      difs = refl;
      frozen = refl;
    } in
    subst (λ m. IsBodyWritten m new c.args.flat.now c.args.rest c.args.depth c.args.registers.now c.build_body.new.registers c.in_ok-list.list) c.memory.view_is done
