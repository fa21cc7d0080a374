use Rattle.mars_script.proofs.KindLemmas.{after_strip}
use Rattle.mars_script.proofs.kinds.value_after.Goals as goal

pub returns : goal.returns
returns c = after_strip c.args.beginning.now c.args.word.now c.strip_prefix.result c.strip_prefix.ensures.cases
