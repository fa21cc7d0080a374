use Rattle.std.specs.Bool.{one_answer}
use Rattle.mars_tree.specs.NamesEquality.{same_names}
use Rattle.mars_tree.specs.EqualityLaws.{names_decide}
use Rattle.mars_tree.proofs.names.equality.NamesPartialEq.eq.Goals as goal

pub returns-then-len-clause-value : goal.returns-then-len-clause-value
returns-then-len-clause-value c =
    one_answer c.agree.result (same_names c.args.self.now c.args.other.now) c.agree.ensures (names_decide c.args.self.now c.args.other.now)
