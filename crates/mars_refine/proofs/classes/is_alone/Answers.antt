use Rattle.std.proofs.lemmas.Bool.{eqb-true, eq-eqb}
use Rattle.mars_refine.proofs.Moving.{alone_reads}
use Rattle.mars_refine.proofs.classes.is_alone.Goals as goal

pub returns : goal.returns
returns c =
    let a = alone_reads _ _ _ _ _ c.requires.parted.spans c.args.node c.get-class.result c.index-span.result.now c.requires.node_in c.get-class.ensures c.index-span.ensures in
    (λ is. a.0 (eqb-true _ 1 is), λ alone. eq-eqb _ 1 (a.1 alone))
