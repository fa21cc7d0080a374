use Rattle.std.proofs.Common.{◌≡◌, drop}
use Rattle.mars_grammar.specs.FormTable.{said_events}
use Rattle.mars_grammar.specs.Building.{performs}
use Rattle.mars_grammar.proofs.machine.say_all.Given as goal

abbrev pub invariant-loop-action : goal.invariant-loop-action
invariant-loop-action g l = performs g.B.Builder.build (said_events l.actions) (g.B.Builder.view l.fn.builder) ≡ performs g.B.Builder.build (said_events (drop l.action-index l.actions)) (g.B.Builder.view l.builder)
