use Rattle.std.proofs.Common.{◌<◌, length, All, subst, sym, arith}
use Rattle.mars_base.proofs.ListFacts.{All-from_gets}
use Rattle.mars_rows.proofs.Chosen.{chosen_member}
use Rattle.mars_rows.proofs.index.entry_of.Goals as goal

pub numbers_at-requires : goal.numbers_at-requires
numbers_at-requires c =
    let made = c.in_ok-made.made in
    subst (All (λ n. n < length c.args.names.now)) (sym c.deref.ensures.value)
    (All-from_gets (λ n. n < length c.args.names.now) made.nodes.items (λ k n e.
    let lt = (chosen_member c.args.graph.now c.args.parts.now c.args.names.now c.args.head made.nodes.items made.key.items.items c.requires.parted c.in_ok-made.ensures k n e).within in
    omega (arith, lt, c.requires.names)))
