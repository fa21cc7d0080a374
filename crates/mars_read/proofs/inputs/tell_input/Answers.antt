use Rattle.std.proofs.Common.{sym, subst, Bool, IfErr, OnOk}
use Rattle.mars_grammar.specs.Refusing.{IsMade, HasNoFault, IsRefused}
use Rattle.mars_forms.specs.Table.{forms}
use Rattle.mars_forms.specs.declared.table.TheConstants.{INPUT}
use Rattle.mars_scripts.specs.Told.{scripts_of}
use Rattle.mars_read.specs.Spellings.{spellings_of}
use Rattle.mars_read.specs.ReadInput.{input_building}
use Rattle.mars_read.proofs.inputs.tell_input.Goals as goal

pub returns-then-two-clause-made : goal.returns-then-two-clause-made
returns-then-two-clause-made c =
    subst (λ (b : Bool). OnOk c.parse_input_two.result (IsMade (forms b) input_building INPUT.now (spellings_of c.args.told.now.meanings, (c.args.told.now.maker.first, scripts_of c.args.told.now.maker.second)) c.args.tokens.now (spellings_of c.parse_input_two.new.builder.meanings, (c.parse_input_two.new.builder.maker.first, scripts_of c.parse_input_two.new.builder.maker.second)))) (sym c.if-two.true) c.parse_input_two.ensures.made

pub returns-then-two-clause-within : goal.returns-then-two-clause-within
returns-then-two-clause-within c =
    subst (λ (b : Bool). OnOk c.parse_input_two.result (HasNoFault (forms b) input_building INPUT.now (spellings_of c.args.told.now.meanings, (c.args.told.now.maker.first, scripts_of c.args.told.now.maker.second)) c.args.tokens.now)) (sym c.if-two.true) c.parse_input_two.ensures.within

pub returns-then-two-clause-refused : goal.returns-then-two-clause-refused
returns-then-two-clause-refused c =
    subst (λ (b : Bool). IfErr c.parse_input_two.result (λ e. IsRefused (forms b) input_building INPUT.now (spellings_of c.args.told.now.meanings, (c.args.told.now.maker.first, scripts_of c.args.told.now.maker.second)) c.args.tokens.now e)) (sym c.if-two.true) c.parse_input_two.ensures.refused

pub returns-else-two-clause-made : goal.returns-else-two-clause-made
returns-else-two-clause-made c =
    subst (λ (b : Bool). OnOk c.parse_input_one.result (IsMade (forms b) input_building INPUT.now (spellings_of c.args.told.now.meanings, (c.args.told.now.maker.first, scripts_of c.args.told.now.maker.second)) c.args.tokens.now (spellings_of c.parse_input_one.new.builder.meanings, (c.parse_input_one.new.builder.maker.first, scripts_of c.parse_input_one.new.builder.maker.second)))) (sym c.if-two.false) c.parse_input_one.ensures.made

pub returns-else-two-clause-within : goal.returns-else-two-clause-within
returns-else-two-clause-within c =
    subst (λ (b : Bool). OnOk c.parse_input_one.result (HasNoFault (forms b) input_building INPUT.now (spellings_of c.args.told.now.meanings, (c.args.told.now.maker.first, scripts_of c.args.told.now.maker.second)) c.args.tokens.now)) (sym c.if-two.false) c.parse_input_one.ensures.within

pub returns-else-two-clause-refused : goal.returns-else-two-clause-refused
returns-else-two-clause-refused c =
    subst (λ (b : Bool). IfErr c.parse_input_one.result (λ e. IsRefused (forms b) input_building INPUT.now (spellings_of c.args.told.now.meanings, (c.args.told.now.maker.first, scripts_of c.args.told.now.maker.second)) c.args.tokens.now e)) (sym c.if-two.false) c.parse_input_one.ensures.refused
