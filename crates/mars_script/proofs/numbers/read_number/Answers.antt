use Rattle.std.proofs.Common.{rules}
use Rattle.mars_script.proofs.NumberLemmas.{number_read, number_unread}
use Rattle.mars_script.proofs.numbers.read_number.Goals as goal

pub returns-in-Ok-clause-number : goal.returns-in-Ok-clause-number
returns-in-Ok-clause-number c = number_read c.args.most c.in-Ok.number c.args.word.now c.parse.result c.parse.ensures.value.0 c.in-Ok.is c.if-number-most.true

pub returns-in_default-2-clause-number : goal.returns-in_default-2-clause-number
returns-in_default-2-clause-number c = number_unread c.args.most c.args.word.now c.parse.result c.in_default.field-0 c.parse.ensures.value.0 c.in_default.is (search (c.ranges.most, rules))
