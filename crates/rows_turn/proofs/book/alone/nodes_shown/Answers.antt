use Rattle.mars_table.specs.declared.entry.Call.TheVariants as call
use Rattle.mars_table.specs.declared.entry.Reply.TheVariants as reply
use Rattle.rows_turn.proofs.HeldLemmas.{held_called}
use Rattle.rows_turn.proofs.book.alone.nodes_shown.Goals as goal

-- a pass that is shown a tree keeps its pins
pub returns-clause-pins : goal.returns-clause-pins
returns-clause-pins g c = held_called c.args.pass.now c.show.new.pass (call.Show c.args.handle) (reply.Shown c.in_ok-tree.tree) c.in_ok-tree.ensures.called
