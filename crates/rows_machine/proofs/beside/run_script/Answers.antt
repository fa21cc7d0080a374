use Rattle.std.proofs.Common.{All, List, sym, subst}
use Rattle.std.proofs.lemmas.List.Elements.{All-get_or}
use Rattle.mars_script.specs.declared.script.Command.{Command}
use Rattle.mars_scripts.specs.WellFormed.{IsWellFormedCommand}
use Rattle.rows_machine.proofs.beside.run_script.Goals as goal

pub run_command-requires : goal.run_command-requires
run_command-requires c =
    subst IsWellFormedCommand (sym c.command-item.is) (All-get_or IsWellFormedCommand c.as_slice-command-items.result.now c.loop-command.command-index c.command-item.result c.loop-command-test.true
    (subst (λ (items : List Command). All IsWellFormedCommand items) (sym c.as_slice-command-items.ensures) c.requires.commands))
