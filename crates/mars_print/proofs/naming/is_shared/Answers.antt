use Rattle.std.proofs.Common.{nat_lt, ◌∙◌, arith}
use Rattle.std.proofs.lemmas.Bool.{le-ltb}
use Rattle.mars_tree.specs.Graph.{kids_of}
use Rattle.mars_print.specs.Text.{references}
use Rattle.mars_print.proofs.Counts.{shared_is, shared_without}
use Rattle.mars_print.proofs.naming.is_shared.Goals as goal

pub returns-then-arity-gt0 : goal.returns-then-arity-gt0
returns-then-arity-gt0 c = shared_is (kids_of c.args.canon.now.nodes c.args.node) c.args.count (references c.args.canon.now c.args.node) c.requires.counted (omega (arith, c.arity.ensures))

pub returns-else-arity-gt0 : goal.returns-else-arity-gt0
returns-else-arity-gt0 c = le-ltb 0 c.arity.result (omega arith) ∙ shared_without (kids_of c.args.canon.now.nodes c.args.node) (nat_lt 1 (references c.args.canon.now c.args.node)) (omega (arith, c.arity.ensures))
