use Rattle.std.proofs.Common.{◌∙◌}
use Rattle.mars_script.proofs.KindLemmas.{unequal, kind_last}
use Rattle.mars_script.proofs.kinds.kind_of.Goals as goal

pub returns-else-is_word-4 : goal.returns-else-is_word-4
returns-else-is_word-4 c =
    c.kind_of_value.ensures ∙ kind_last c.args.word.now
    (unequal _ c.args.word.now _ c.is_word.ensures c.if-is_word.false)
    (unequal _ c.args.word.now _ c.is_word-else-is_word.ensures c.if-is_word-2.false)
    (unequal _ c.args.word.now _ c.is_word-else-is_word-2.ensures c.if-is_word-3.false)
    (unequal _ c.args.word.now _ c.is_word-else-is_word-3.ensures c.if-is_word-4.false)
