use Rattle.std.proofs.Common.{List, sym, subst, arith}
use Rattle.mars_table.specs.TableSeen.{TableSeen, uncalled}
use Rattle.mars_session.specs.SessionSeen.{SessionSeen}
use Rattle.mars_replay.specs.WorldInside.{IsKeptWorld}
use Rattle.mars_replay.proofs.Kept.{world_with, started_kept}
use Rattle.mars_replay.proofs.world.World.new.Goals as goal

pub invariant_of-result : goal.invariant_of-result
invariant_of-result c =
    let few = c.requires.few in
    subst (λ (t : TableSeen). IsKeptWorld (world_with t c.in_ok-sessions.sessions.items)) (sym c.new-table.ensures)
    (subst (λ (l : List SessionSeen). IsKeptWorld (world_with (uncalled c.args.options.rows) l)) (sym c.in_ok-sessions.ensures) (started_kept c.args.input.now c.args.options (omega (arith, few))))
