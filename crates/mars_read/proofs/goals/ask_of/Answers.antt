use Rattle.std.proofs.Common.{◌∙◌, ap, sym, subst, map, length, true, arith}
use Rattle.std.proofs.lemmas.List.{length-map}
use Rattle.mars_grammar.specs.Building.{both}
use Rattle.mars_forms.specs.declared.table.TheConstants.{GOALS}
use Rattle.mars_clauses.specs.Limits.{counting, nothing_counted}
use Rattle.mars_clauses.specs.Lists.{Clauses, clauses, clauses_from}
use Rattle.mars_read.specs.Spellings.{with_texts}
use Rattle.mars_read.specs.ReadGoals.{IsAskOf}
use Rattle.mars_read.proofs.Readings.{names-read, few-names}
use Rattle.mars_read.proofs.GoalsMade.{ask-read}
use Rattle.mars_read.proofs.goals.ask_of.Goals as goal

pub add_names-requires : goal.add_names-requires
add_names-requires c =
    let made = c.in_ok-parts.ensures.made in
    let few = few-names true GOALS.now (both counting clauses) c.args.bytes.now c.args.names.now (nothing_counted true, clauses_from true) made.value made.read in
    let texts = ap (map (λ text. text.items)) c.as_slice.ensures.keys ∙ made.added in
    omega (arith, few, c.requires, ap length texts, length-map c.as_slice.result.now (λ text. text.items))

pub whole_ask-requires : goal.whole_ask-requires
whole_ask-requires c =
    let made = c.in_ok-parts.ensures.made in
    let is = ask-read c.args.bytes.now c.args.names.now made.value made.read in
    (is.0, subst (λ (v : Clauses). IsAskOf v is.0) (sym made.clauses) is.1)

pub returns-clause-read : goal.returns-clause-read
returns-clause-read c =
    let made = c.in_ok-parts.ensures.made in
    let old = c.args.names.now in
    record {
      value = made.value;
      read = made.read;
      names = c.in_ok-add_names.ensures.ok ∙ ap (λ texts. with_texts old (map (λ text. text.items) texts)) c.as_slice.ensures.keys ∙ ap (with_texts old) made.added
          ∙ names-read true GOALS.now (both counting clauses) c.args.bytes.now old (nothing_counted true, clauses_from true) made.value made.read;
      ask_is = subst (λ (v : Clauses). IsAskOf v c.in_ok-whole_ask.field-0) made.clauses c.in_ok-whole_ask.ensures;
    }
