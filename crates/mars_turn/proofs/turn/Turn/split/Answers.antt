use Rattle.std.proofs.Common.{◌≡◌, ◌∙◌, ap, arith, subst, ◌<◌, ◌^◌}
use Rattle.std.specs.Prelude.{Some}
use Rattle.mars_turn.specs.Views.{passes_known}
use Rattle.mars_turn.proofs.Splits.{split}
use Rattle.mars_turn.proofs.Knowing.{after_split_knows, after_split_counts}
use Rattle.mars_turn.proofs.turn.Turn.split.Goals as goal

pub split_seat-seat-requires : goal.split_seat-seat-requires
split_seat-seat-requires g c =
    let sized = c.args.self.now.sized in
    let p = c.args.first.now in
    let v = p.seat.me.0 in
    let known : v.made ≡ Some c.unwrap-count.result = p.maker ∙ c.unwrap-count.ensures in (
      c.requires.of,
      omega (arith, sized.0),
      split g.V.Listed.list g.V.Listed.fixed g.V.Listed.by (g.V.Listed.fixed c.args.self.now.table.shared.key.value) p.seat.id v c.unwrap-count.result p.live known (subst (λ made. passes_known made < 2 ^ 32) known c.requires.opening.1),
    )

pub invariant_of-first-clause-knows : goal.invariant_of-first-clause-knows
invariant_of-first-clause-knows g c =
    let p = c.args.first.now in
    let me = ap (λ m. m.0) c.split_seat-seat.ensures.2 in
    rw me (after_split_knows g.V.Listed.by p.seat.me.0 p.knows p.counts c.unwrap-count.result (p.maker ∙ c.unwrap-count.ensures))

pub invariant_of-first-clause-counts : goal.invariant_of-first-clause-counts
invariant_of-first-clause-counts g c =
    let p = c.args.first.now in
    let me = ap (λ m. m.0) c.split_seat-seat.ensures.2 in
    rw me (after_split_counts g.V.Listed.by p.seat.me.0 p.knows p.counts c.unwrap-count.result (p.maker ∙ c.unwrap-count.ensures))
