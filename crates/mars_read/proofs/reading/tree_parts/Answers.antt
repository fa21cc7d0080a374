use Rattle.std.proofs.Common.{◌∙◌, List, ap, sym, subst, refl, true, length}
use Rattle.mars_forms.specs.declared.lexeme.Lexeme.{Lexeme}
use Rattle.mars_forms.specs.declared.table.TheConstants.{TREE}
use Rattle.mars_tokens.specs.Tokens.{IsTokenList}
use Rattle.mars_read.specs.Spellings.{spellings_of, spellings_from}
use Rattle.mars_scripts.specs.Trees.{no_tree}
use Rattle.mars_read.specs.Refused.{IsRefusedAs, either_limit, text_error}
use Rattle.mars_read.specs.ReadTree.{TreeValue, tree_building, tree_begins}
use Rattle.mars_clauses.specs.Limits.{nothing_counted}
use Rattle.mars_read.proofs.Refusals.{machine-refuses}
use Rattle.mars_read.proofs.Readings.{machine-reads}
use Rattle.mars_read.proofs.TreesMade.{begins-parts}
use Rattle.mars_read.proofs.reading.tree_parts.Goals as goal

pub returns-in-Err-clause-refused : goal.returns-in-Err-clause-refused
returns-in-Err-clause-refused c =
    let begins = begins-parts (spellings_of c.new.result) (spellings_from c.args.bytes.now c.args.known.now) c.new-2.result (nothing_counted true) c.new-3.result no_tree c.new.ensures c.new-2.ensures c.new-3.ensures in
    let tokens = subst (λ (ts : List Lexeme). IsTokenList true c.args.bytes.now ts c.args.tokens.now.refusal) (sym c.deref.ensures.value) c.requires.tokens in
    let is = c.text_error.ensures ∙ ap (λ ts. text_error either_limit c.in-Err.refusal ts c.args.tokens.now.refusal (length c.args.bytes.now)) (sym c.deref.ensures.value) in
    subst (λ (v : TreeValue). IsRefusedAs true TREE.now tree_building v c.args.bytes.now either_limit c.text_error.result) begins
    (machine-refuses true TREE.now tree_building (spellings_of c.new.result, (c.new-2.result, c.new-3.result)) c.args.bytes.now either_limit c.deref.result.now c.args.tokens.now.refusal c.in-Err.refusal c.text_error.result
    c.requires.short tokens c.in-Err.ensures.refused is)

pub returns-clause-made : goal.returns-clause-made
returns-clause-made c =
    let begins = begins-parts (spellings_of c.new.result) (spellings_from c.args.bytes.now c.args.known.now) c.new-2.result (nothing_counted true) c.new-3.result no_tree c.new.ensures c.new-2.ensures c.new-3.ensures in
    let tokens = subst (λ (ts : List Lexeme). IsTokenList true c.args.bytes.now ts c.args.tokens.now.refusal) (sym c.deref.ensures.value) c.requires.tokens in
    record {
      value = (spellings_of c.parse_tree.new.builder.meanings, (c.parse_tree.new.builder.maker.first, c.parse_tree.new.builder.maker.second));
      read = machine-reads true TREE.now tree_building c.args.bytes.now c.deref.result.now c.args.tokens.now.refusal (spellings_of c.new.result, (c.new-2.result, c.new-3.result)) (tree_begins c.args.bytes.now c.args.known.now)
          (spellings_of c.parse_tree.new.builder.meanings, (c.parse_tree.new.builder.maker.first, c.parse_tree.new.builder.maker.second)) begins c.requires.short tokens c.in_default.ensures.made c.in_default.ensures.within;
      added = c.into_added-added.ensures;
      graph = refl;
    }
