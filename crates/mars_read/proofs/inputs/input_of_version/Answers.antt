use Rattle.std.proofs.Common.{◌∙◌, ◌++◌, List, ℕ, ap, map, false}
use Rattle.std.proofs.lemmas.Result.{err_from_is_err_and}
use Rattle.mars_tree.specs.Names.{built_in_names}
use Rattle.mars_grammar.specs.Building.{both}
use Rattle.mars_forms.specs.declared.table.TheConstants.{INPUT}
use Rattle.mars_clauses.specs.Limits.{counting, nothing_counted}
use Rattle.mars_script.specs.declared.script.Input.{Input}
use Rattle.mars_scripts.specs.Scripts.{scripts_making, nothing_told, input_told}
use Rattle.mars_scripts.specs.Told.{scripts_of}
use Rattle.mars_read.specs.Spellings.{all_names, with_texts}
use Rattle.mars_read.specs.Refused.{either_limit}
use Rattle.mars_read.specs.ReadInput.{input_building, input_begins}
use Rattle.mars_read.proofs.Refusals.{long-refuses}
use Rattle.mars_read.proofs.Readings.{names-read}
use Rattle.mars_read.proofs.InputsMade.{few-input_names}
use Rattle.mars_read.proofs.inputs.input_of_version.Goals as goal

pub add_names-requires : goal.add_names-requires
add_names-requires c =
    let made = c.in_ok-parts.ensures.made in
    few-input_names c.args.two c.args.bytes.now made.value made.read c.new-names.result c.new-names.ensures (c.as_slice.result.now) (λ text. text.items) (ap (map (λ text. text.items)) c.as_slice.ensures.keys ∙ made.added)

pub returns-clause-read : goal.returns-clause-read
returns-clause-read c =
    let made = c.in_ok-parts.ensures.made in
    let names = c.in_ok-add_names.ensures.ok ∙ ap (λ texts. with_texts c.new-names.result (map (λ text. text.items) texts)) c.as_slice.ensures.keys ∙ ap (with_texts c.new-names.result) made.added
    ∙ ap (λ known. with_texts known made.value.0.added) c.new-names.ensures ∙ names-read c.args.two INPUT.now (both counting scripts_making) c.args.bytes.now built_in_names (nothing_counted false, nothing_told) made.value made.read in
    record {
      value = made.value;
      read = made.read;
      input_is = c.finish.ensures ∙ ap (λ texts. input_told texts (scripts_of c.in_ok-parts.parts.scripts)) names ∙ ap (input_told (all_names made.value.0)) made.told;
    }

pub returns-clause-names : goal.returns-clause-names
returns-clause-names c =
    let kept = c.in_ok-add_names.ensures.kept in
    (kept.0, ap (λ (i : Input). i.names) c.finish.ensures ∙ kept.1 ∙ ap (λ (old : List (List ℕ)). old ++ kept.0) c.new-names.ensures)

pub returns-in_err-tokens-clause-refused : goal.returns-in_err-tokens-clause-refused
returns-in_err-tokens-clause-refused c =
    let p = err_from_is_err_and c.from_residual.result c.from_residual.ensures.1 in
    rw (p.1, p.2) (record { refused = long-refuses c.args.two INPUT.now input_building (input_begins c.args.bytes.now) c.args.bytes.now either_limit c.in_err-tokens.field-0.0 c.in_err-tokens.ensures.refused })

pub returns-in_err-parts-clause-refused : goal.returns-in_err-parts-clause-refused
returns-in_err-parts-clause-refused c =
    let p = err_from_is_err_and c.from_residual-in_err-parts.result c.from_residual-in_err-parts.ensures.1 in
    rw (p.1, p.2) c.in_err-parts.ensures.refused

pub returns-in_err-add_names-clause-refused : goal.returns-in_err-add_names-clause-refused
returns-in_err-add_names-clause-refused c =
    let p = err_from_is_err_and c.from_residual-in_err-add_names.result c.from_residual-in_err-add_names.ensures.1 in
    rw (p.1, p.2) (record { refused = tt })
