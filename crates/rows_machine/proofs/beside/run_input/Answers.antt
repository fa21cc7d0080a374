use Rattle.std.proofs.Common.{All, List, sym, subst}
use Rattle.std.proofs.lemmas.List.Elements.{All-get_or}
use Rattle.mars_script.specs.declared.script.Script.{Script}
use Rattle.mars_scripts.specs.WellFormed.{IsWellFormedScript}
use Rattle.rows_machine.proofs.beside.run_input.Goals as goal

pub run_script-requires : goal.run_script-requires
run_script-requires c =
    subst IsWellFormedScript (sym c.script-item.is) (All-get_or IsWellFormedScript c.as_slice-script-items.result.now c.loop-script.script-index c.script-item.result c.loop-script-test.true
    (subst (λ (items : List Script). All IsWellFormedScript items) (sym c.as_slice-script-items.ensures) c.requires.sessions))
