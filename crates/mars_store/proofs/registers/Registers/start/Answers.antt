use Rattle.std.proofs.Common.{arith}
use Rattle.mars_store.proofs.Registered.{none-held, grown-past, grown-room}
use Rattle.mars_store.proofs.registers.Registers.start.Goals as goal
use Rattle.mars_store.proofs.registers.Registers.start.Goals.{then-len-count+in_ok-grow, else-len-count}

pub returns : goal.returns
returns c = elim c.if-len-count.branch [
  | then-len-count+in_ok-grow w ↦
      let put = w.in_ok-grow.ensures.ok in
      let round = c.next_round-self-inside.result in
      let slots = w.grow.new.slots.items in
      rw w.self-inside-is (none-held round c.args.count slots (grown-room c.args.count c.next_round-self-inside.new.slots.items slots put)
      (grown-past round c.args.count c.next_round-self-inside.new.slots.items slots c.next_round-self-inside.ensures.some c.next_round-self-inside.ensures.past put))
  | else-len-count w ↦
      rw w.self-inside-is (none-held c.next_round-self-inside.result c.args.count c.next_round-self-inside.new.slots.items (omega (arith, w.if-len-count.false, c.len.ensures)) c.next_round-self-inside.ensures.past)
]
