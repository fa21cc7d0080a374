use Rattle.std.proofs.Common.{◌≤◌, sym, subst, length}
use Rattle.std.proofs.lemmas.Result.{IfOk-weaker, IfErr-weaker}
use Rattle.mars_script.specs.declared.script.Input.{Input}
use Rattle.mars_scripts.specs.WellFormed.{IsWellFormedInput}
use Rattle.mars_scripts.specs.Sizes.{nodes_put}
use Rattle.mars_read.specs.declared.error.ReadError.{ReadError}
use Rattle.mars_read.specs.Spellings.{all_names}
use Rattle.mars_read.specs.ReadInput.{IsInputOf, IsReadInput, IsNoInputText, IsNoInput}
use Rattle.mars_read.proofs.Readings.{short-text}
use Rattle.mars_read.proofs.InputsMade.{input-well_formed, input-small, input-few_sessions}
use Rattle.mars_read.proofs.inputs.read_input.Goals as goal

pub returns-clause-read : goal.returns-clause-read
returns-clause-read c =
    IfOk-weaker c.input_of_version.result (IsInputOf c.has_version_two-two.result c.args.bytes.now) (IsReadInput c.args.bytes.now)
    (λ (input : Input) is. record { two = c.has_version_two-two.result; version = c.has_version_two-two.ensures; value = is.value; read = is.read; input_is = is.input_is }) c.input_of_version.ensures.read

pub returns-clause-well_formed : goal.returns-clause-well_formed
returns-clause-well_formed c =
    IfOk-weaker c.input_of_version.result (IsInputOf c.has_version_two-two.result c.args.bytes.now) IsWellFormedInput
    (λ (input : Input) is. subst (λ (i : Input). IsWellFormedInput i) (sym is.input_is)
    (input-well_formed c.has_version_two-two.result c.args.bytes.now is.value is.read c.inputs_are_well_formed.ensures (short-text c.args.bytes.now is.read.short) (all_names is.value.0))) c.input_of_version.ensures.read

pub returns-clause-small : goal.returns-clause-small
returns-clause-small c =
    IfOk-weaker c.input_of_version.result (IsInputOf c.has_version_two-two.result c.args.bytes.now) (λ (i : Input). nodes_put i ≤ length c.args.bytes.now)
    (λ (input : Input) is. subst (λ (i : Input). nodes_put i ≤ length c.args.bytes.now) (sym is.input_is)
    (input-small c.has_version_two-two.result c.args.bytes.now is.value is.read c.inputs_are_small.ensures (all_names is.value.0))) c.input_of_version.ensures.read

pub returns-clause-few : goal.returns-clause-few
returns-clause-few c =
    IfOk-weaker c.input_of_version.result (IsInputOf c.has_version_two-two.result c.args.bytes.now) (λ (i : Input). length i.sessions ≤ length c.args.bytes.now)
    (λ (input : Input) is. subst (λ (i : Input). length i.sessions ≤ length c.args.bytes.now) (sym is.input_is)
    (input-few_sessions c.has_version_two-two.result c.args.bytes.now is.value is.read c.inputs_have_few_sessions.ensures (all_names is.value.0))) c.input_of_version.ensures.read

pub returns-clause-names : goal.returns-clause-names
returns-clause-names c = c.input_of_version.ensures.names

pub returns-clause-refused : goal.returns-clause-refused
returns-clause-refused c =
    IfErr-weaker c.input_of_version.result (IsNoInputText c.has_version_two-two.result c.args.bytes.now) (IsNoInput c.args.bytes.now)
    (λ (e : ReadError) refused. record { two = c.has_version_two-two.result; version = c.has_version_two-two.ensures; refused = refused }) c.input_of_version.ensures.refused
