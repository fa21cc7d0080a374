use Rattle.std.proofs.Common.{rules}
use Rattle.mars_term.proofs.RowLemmas.{dots-push}
use Rattle.mars_term.proofs.copying.join_dots.Goals as goal

pub loop-first-preserved : goal.loop-first-preserved
loop-first-preserved c = search (dots-push, rules)
