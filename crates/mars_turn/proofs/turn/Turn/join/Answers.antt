use Rattle.std.proofs.Common.{◌≡◌, [], ◌∷◌, ◌∙◌, ap, arith, Bool, true, false, is_some, ℕ, List}
use Rattle.std.specs.Prelude.{Option, None, if◌then◌else◌}
use Rattle.mars_turn.specs.Steps.{joined_view}
use Rattle.mars_turn.proofs.Joins.{join, look}
use Rattle.mars_turn.proofs.turn.Turn.join.Goals as goal

carries_none : {A X : Type 0} (entered : Option X) (inside : Bool) (cs : List (ℕ × Option A)) → entered ≡ None → is_some entered ≡ inside → cs ≡ (if inside then (0, None) ∷ [] else []) → cs ≡ []
carries_none entered true cs out placed carries = absurd cc
carries_none entered false cs out placed carries = carries

pub join_seat-requires : goal.join_seat-requires
join_seat-requires g c =
    let sized = c.args.self.now.sized in
    let p = c.args.into in
    let q = c.args.from in (
      c.requires.of.1,
      c.requires.of.0,
      carries_none q.seat.me.0.entered q.inside q.seat.me.1 c.requires.outside.0 q.placed q.carries,
      omega (arith, sized.0),
      join g.V.Listed.list g.V.Listed.fixed g.V.Listed.by (g.V.Listed.fixed c.args.self.now.table.shared.key.value) p.seat.id p.seat.me.0 q.seat.id q.seat.me.0 p.live q.live c.requires.outside.1 c.requires.outside.0,
    )

pub load-requires : goal.load-requires
load-requires g c =
    let sized = c.args.self.now.sized in
    let p = c.args.into in
    let q = c.args.from in
    let e = c.join_seat.ensures in
    let both = joined_view p.seat.me.0 q.seat.me.0 in
    let me : c.join_seat.new.seat.me ≡ (both, []) = e.2 ∙ ap (λ cs. (both, cs)) (carries_none p.seat.me.0.entered p.inside p.seat.me.1 c.requires.outside.1 p.placed p.carries) in (
      e.0 ∙ c.requires.of.1,
      omega (arith, sized.0),
      rw (me, sized.1) (look g.V.Listed.list g.V.Listed.fixed g.V.Listed.by (g.V.Listed.fixed c.args.self.now.table.shared.key.value) c.join_seat.new.seat.id both p.live),
    )
