use Rattle.std.proofs.Common.{arith}
use Rattle.mars_session.proofs.OneForm.{past_free}
use Rattle.mars_session.proofs.forms.form_of.Goals as goal

pub returns-else-root-len : goal.returns-else-root-len
returns-else-root-len c = past_free c.args.graph.now c.args.root (omega (arith, c.if-root-len.false, c.len.ensures.len))
