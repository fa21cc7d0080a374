use Rattle.std.proofs.Common.{sym, ap, ◌∙◌}
use Rattle.std.proofs.lemmas.Bool.{false≢true}
use Rattle.mars_script.proofs.Exact.{says_once}
use Rattle.mars_script.specs.Words.{texts_of}
use Rattle.marseille.proofs.words.take_said.Goals as goal

pub returns-then-options : goal.returns-then-options
returns-then-options c = (
  (c.args.said, c.requires),
  λ are.
      let run = are.2 in
      let same = says_once (texts_of c.args.words.now) c.args.said run.said c.requires run.words in
      false≢true (sym (ap (λ w. w.options.log) same ∙ ap (λ o. o.log) run.options_are ∙ run.no_log) ∙ c.if-options.true),
)
