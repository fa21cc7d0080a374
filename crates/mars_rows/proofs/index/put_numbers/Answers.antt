use Rattle.mars_rows.proofs.PutNumbers.{none_put}
use Rattle.mars_rows.proofs.index.put_numbers.Goals as goal

pub loop-place-init : goal.loop-place-init
loop-place-init c = none_put c.args.nodes.now c.args.rows.now c.args.numbers.now.items
