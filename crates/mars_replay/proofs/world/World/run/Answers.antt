use Rattle.std.proofs.lemmas.Result.{IfOk-weaker}
use Rattle.mars_replay.proofs.Kept.{world_runs, gives_of}
use Rattle.mars_replay.proofs.world.World.run.Goals as goal

pub returns-clause-runs : goal.returns-clause-runs
returns-clause-runs c =
    IfOk-weaker c.close.result _ _ (λ ran h. world_runs c.args.self c.run_in_order.new.self c.run_all.new.self c.args.order.now ran.history.items ran.text.items ran.cut c.run_in_order.ensures c.run_all.ensures h) c.close.ensures

pub returns-clause-gives : goal.returns-clause-gives
returns-clause-gives c =
    IfOk-weaker c.close.result _ _ (λ ran h. λ input options before a. gives_of input options before c.args.order.now c.args.self ran.history.items ran.text.items ran.cut a
    (world_runs c.args.self c.run_in_order.new.self c.run_all.new.self c.args.order.now ran.history.items ran.text.items ran.cut c.run_in_order.ensures c.run_all.ensures h)) c.close.ensures
