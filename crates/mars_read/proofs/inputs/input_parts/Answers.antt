use Rattle.std.proofs.Common.{◌∙◌, List, ap, sym, subst, refl, false, length}
use Rattle.mars_forms.specs.declared.lexeme.Lexeme.{Lexeme}
use Rattle.mars_forms.specs.declared.table.TheConstants.{INPUT}
use Rattle.mars_tree.specs.Names.{built_in_names}
use Rattle.mars_tokens.specs.Tokens.{IsTokenList}
use Rattle.mars_clauses.specs.Limits.{nothing_counted}
use Rattle.mars_scripts.specs.Scripts.{nothing_told}
use Rattle.mars_scripts.specs.Told.{scripts_of}
use Rattle.mars_read.specs.Spellings.{spellings_of, spellings_from}
use Rattle.mars_read.specs.Refused.{IsRefusedAs, either_limit, text_error}
use Rattle.mars_read.specs.ReadInput.{InputValue, input_building, input_begins}
use Rattle.mars_read.proofs.Refusals.{machine-refuses}
use Rattle.mars_read.proofs.Readings.{machine-reads}
use Rattle.mars_read.proofs.InputsMade.{input-begins-parts}
use Rattle.mars_read.proofs.inputs.input_parts.Goals as goal

pub returns-in-Err-clause-refused : goal.returns-in-Err-clause-refused
returns-in-Err-clause-refused c =
    let spelt = c.new.ensures ∙ ap (spellings_from c.args.bytes.now) c.requires.names in
    let begins = input-begins-parts (spellings_of c.new.result) (spellings_from c.args.bytes.now built_in_names) c.new-2.result (nothing_counted false) (scripts_of c.new-3.result) nothing_told spelt c.new-2.ensures c.new-3.ensures in
    let tokens = subst (λ (ts : List Lexeme). IsTokenList c.args.two c.args.bytes.now ts c.args.tokens.now.refusal) (sym c.deref.ensures.value) c.requires.tokens in
    let is = c.text_error.ensures ∙ ap (λ ts. text_error either_limit c.in-Err.refusal ts c.args.tokens.now.refusal (length c.args.bytes.now)) (sym c.deref.ensures.value) in
    record {
      refused = subst (λ (v : InputValue). IsRefusedAs c.args.two INPUT.now input_building v c.args.bytes.now either_limit c.text_error.result) begins
          (machine-refuses c.args.two INPUT.now input_building (spellings_of c.new.result, (c.new-2.result, scripts_of c.new-3.result)) c.args.bytes.now either_limit c.deref.result.now c.args.tokens.now.refusal c.in-Err.refusal c.text_error.result
          c.requires.short tokens c.in-Err.ensures.refused is);
    }

pub returns-clause-made : goal.returns-clause-made
returns-clause-made c =
    let spelt = c.new.ensures ∙ ap (spellings_from c.args.bytes.now) c.requires.names in
    let begins = input-begins-parts (spellings_of c.new.result) (spellings_from c.args.bytes.now built_in_names) c.new-2.result (nothing_counted false) (scripts_of c.new-3.result) nothing_told spelt c.new-2.ensures c.new-3.ensures in
    let tokens = subst (λ (ts : List Lexeme). IsTokenList c.args.two c.args.bytes.now ts c.args.tokens.now.refusal) (sym c.deref.ensures.value) c.requires.tokens in
    let told = c.tell_input.new.told in
    let made : InputValue = (spellings_of told.meanings, (told.maker.first, scripts_of told.maker.second)) in
    record {
      value = made;
      read = machine-reads c.args.two INPUT.now input_building c.args.bytes.now c.deref.result.now c.args.tokens.now.refusal (spellings_of c.new.result, (c.new-2.result, scripts_of c.new-3.result)) (input_begins c.args.bytes.now) made
          begins c.requires.short tokens c.in_default.ensures.made c.in_default.ensures.within;
      added = c.into_added-added.ensures;
      told = refl;
    }
