use Rattle.std.proofs.Common.{rules, List, ap, ◌∙◌, subst}
use Rattle.std.specs.List.{list_any}
use Rattle.mars_session.specs.SessionSeen.{SessionSeen}
use Rattle.mars_replay.specs.WorldSeen.{WorldSeen}
use Rattle.mars_replay.specs.WorldRuns.{ClosesWorld}
use Rattle.mars_replay.proofs.Kept.{world_with, closes_world}
use Rattle.mars_replay.proofs.world.World.close.Goals as goal

pub returns : goal.returns
returns c =
    let w = world_with c.self.inside.table c.self.inside.sessions.items in
    subst (λ (x : WorldSeen). ClosesWorld x c.into_history.result.items c.push_last_line.new.text.items c.any_cut.result) c.self.view_is
    (closes_world w c.last_sweep.new.table c.last_count.new.table c.len-who.result c.in_ok-gone.gone c.in_ok-rows.rows c.in_ok-rows.pins c.into_history.result.items c.push_texts.new.text.items c.push_last_line.new.text.items c.any_cut.result
    (search rules) c.in_ok-gone.ensures c.in_ok-rows.ensures c.into_history.ensures.list (search rules) c.in_ok-push_last_line.ensures (c.any_cut.ensures ∙ ap (λ (l : List SessionSeen). list_any (λ (s : SessionSeen). s.cut) l) c.as_slice-2.ensures.value))
