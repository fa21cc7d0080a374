use Rattle.std.proofs.Common.{refl}
use Rattle.mars_forms.specs.declared.table.TheConstants.{INPUT}
use Rattle.mars_read.specs.Refused.{either_limit}
use Rattle.mars_read.specs.ReadInput.{input_begins}
use Rattle.mars_read.proofs.OneInput.{HasOneValue, IsReadOrRefused, of-each, input-same, input-either}
use Rattle.mars_read.proofs.laws.one_input.Goals as goal

pub returns-clause-input : goal.returns-clause-input
returns-clause-input c =
    input-same (of-each HasOneValue
    (λ w x bytes. c.one_reading.ensures.value INPUT.now (input_begins bytes) w x bytes refl)
    (λ w x bytes. c.one_reading-2.ensures.value INPUT.now (input_begins bytes) w x bytes refl))

pub returns-clause-either : goal.returns-clause-either
returns-clause-either c =
    input-either (of-each IsReadOrRefused
    (λ w bytes e. c.one_reading.ensures.either INPUT.now (input_begins bytes) w bytes either_limit e)
    (λ w bytes e. c.one_reading-2.ensures.either INPUT.now (input_begins bytes) w bytes either_limit e))
