use Rattle.std.proofs.Common.{refl, lit≤}
use denote.Hole.Carrier.{hidden}
use Rattle.mars_term.specs.declared.term.Term.TheBlock.{hidden-the_row-Term-0, hidden-the_row-Term-1}
use Rattle.mars_term.specs.Examples.{applied, name_of_number}
use Rattle.mars_term.proofs.laws.term_examples.Goals as goal

pub returns : goal.returns
unfolding applied name_of_number hidden-the_row-Term-0 hidden-the_row-Term-1 hidden
returns c = record { vars = refl; kept = refl; numbered = (lit≤ tt, (lit≤ tt, (lit≤ tt, refl))) }
