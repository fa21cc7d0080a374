use Rattle.std.proofs.Common.{ℕ, List, [], ◌++◌}
use Rattle.std.proofs.lemmas.Result.{IfOk-weaker}
use Rattle.mars_script.specs.declared.script.Input.{Input}
use Rattle.mars_script.specs.declared.words.Options.{Options}
use Rattle.mars_session.specs.declared.ran.Ran.{Ran}
use Rattle.mars_replay.specs.WorldSeen.{input_world, AreWorldEvents}
use Rattle.mars_replay.specs.WorldRuns.{GivesRunOf}
use Rattle.marseille.specs.Ran.{IsRunInOrder}
use Rattle.marseille.proofs.Runs.{run_in_order, names_in_world}
use Rattle.marseille.proofs.running.run_in_order.Goals as goal

pub run-requires : goal.run-requires
run-requires c = names_in_world c.args.input.now c.args.options c.args.order.now c.in_ok-world.world c.in_ok-world.ensures c.requires.named

pub returns : goal.returns
returns c =
    IfOk-weaker c.run.result
    (λ (ran : Ran). (input : Input) (options : Options) (before : List ℕ) → AreWorldEvents before (input_world input options) c.in_ok-world.world → GivesRunOf input options (before ++ c.args.order.now) ran.history.items ran.text.items ran.cut)
    (λ (ran : Ran). IsRunInOrder c.args.input.now c.args.options c.args.order.now ran.cut ran.history.items ran.text.items)
    (λ ran gives. run_in_order c.args.input.now c.args.options c.args.order.now ran.cut ran.history.items ran.text.items (gives c.args.input.now c.args.options [] c.in_ok-world.ensures))
    c.run.ensures.gives
