use Rattle.mars_first.proofs.Placing.{has_row}
use Rattle.mars_first.proofs.component.number_of.Goals as goal

pub returns : goal.returns
returns c =
    let n = c.in_ok-number.ensures in
    has_row c.args.rows.now.keys c.insert_full.new.self.keys c.args.row n.stored.0 c.in_ok-number.number n.stored.1 n.stored.2 n.keys n.unique
