use Rattle.std.proofs.Common.{◌≡◌, ◌∙◌, sym, refl, subst}
use Rattle.std.specs.Prelude.{Some}
use Rattle.mars_turn.proofs.Closes.{closes, Facts}
use Rattle.mars_turn.proofs.turn.Turn.close.Goals as goal

pub unwrap-requires : goal.unwrap-requires
unwrap-requires g c =
    let p = c.args.pass in
    let (y, is, facts) = closes g.V.Listed.list g.V.Listed.fixed g.V.Listed.by (g.V.Listed.fixed c.args.self.table.shared.key.value) p.seat.id p.seat.me.0 _ _ p.live c.requires.complete c.close_with-closed.ensures.values.2 c.take-value.result c.take-value.ensures.value in
    rw is refl

pub returns : goal.returns
returns g c =
    let p = c.args.pass in
    let (y, is, facts) = closes g.V.Listed.list g.V.Listed.fixed g.V.Listed.by (g.V.Listed.fixed c.args.self.table.shared.key.value) p.seat.id p.seat.me.0 _ _ p.live c.requires.complete c.close_with-closed.ensures.values.2 c.take-value.result c.take-value.ensures.value in
    let got : Some y ≡ Some c.unwrap.result = sym is ∙ c.unwrap.ensures in
    let same : y ≡ c.unwrap.result = cc in
    let f = subst (Facts g.V.Listed.list g.V.Listed.fixed g.V.Listed.by (g.V.Listed.fixed c.args.self.table.shared.key.value) p.seat.me.0) same facts in
    record { fixed = f.fixed_is; seen = f.seen_first; own = f.mine_all; ended = f.ended_all; no_others = f.only }
