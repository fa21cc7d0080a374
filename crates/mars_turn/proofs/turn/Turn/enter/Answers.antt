use Rattle.std.proofs.Common.{◌∷◌, ◌∙◌, ap, sym}
use Rattle.std.specs.Prelude.{Some}
use Rattle.atomic_table.specs.Table.{rest}
use Rattle.mars_turn.proofs.Knowing.{inside_knows, inside_counts}
use Rattle.mars_turn.proofs.turn.Turn.enter.Goals as goal

pub exchange-value-requires : goal.exchange-value-requires
exchange-value-requires g c =
    let (y, held, enters) = c.take.ensures.taken in (
      c.take.ensures.of ∙ c.requires.of,
      (Some y, held ∙ ap (λ cs. (0, Some y) ∷ cs) (sym (ap rest held))),
    )

pub invariant_of-pass-clause-knows : goal.invariant_of-pass-clause-knows
invariant_of-pass-clause-knows g c =
    let p = c.args.pass.now in
    let (y, held, enters) = c.take.ensures.taken in
    rw (ap (λ m. m.0) c.exchange-value.ensures.3, enters.view) (inside_knows g.V.Listed.by p.seat.me.0 p.knows p.counts (g.V.Listed.list y))

pub invariant_of-pass-clause-counts : goal.invariant_of-pass-clause-counts
invariant_of-pass-clause-counts g c =
    let p = c.args.pass.now in
    let (y, held, enters) = c.take.ensures.taken in
    rw (ap (λ m. m.0) c.exchange-value.ensures.3, enters.view) (inside_counts g.V.Listed.by p.seat.me.0 p.knows p.counts (g.V.Listed.list y))
