use Rattle.std.proofs.Common.{length, arith}
use Rattle.mars_term.specs.Parts.{parts_of}
use Rattle.mars_children.proofs.Existing.{write_term}
use Rattle.mars_children.proofs.laws.terms_written.Goals as goal

pub returns : goal.returns
returns c = λ e vars first count known term over s sound r. write_term e vars first count known (length (parts_of term)) term (omega arith) over s sound r
