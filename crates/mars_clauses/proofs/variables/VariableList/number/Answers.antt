use Rattle.std.proofs.Common.{◌∙◌, ap}
use Rattle.mars_clauses.specs.Short.{in_32_bits}
use Rattle.mars_clauses.specs.Terms.{number_of}
use Rattle.mars_clauses.proofs.variables.VariableList.number.Goals as goal

pub returns-clause-number : goal.returns-clause-number
returns-clause-number c = c.short_number.ensures ∙ ap in_32_bits (c.in_ok-place.ensures.index ∙ ap (number_of c.args.name) c.self.view_is)
