use Rattle.mars_term.proofs.PartLemmas.{parts-Name, parts-Tup, parts-Dot}
use Rattle.mars_term.proofs.laws.parts_of_terms.Goals as goal

pub returns : goal.returns
returns c = record { name = parts-Name; tuple = parts-Tup; dot = parts-Dot }
