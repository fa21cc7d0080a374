use Rattle.mars_session.proofs.TogetherLemmas.{together_they_are_whole}
use Rattle.mars_session.proofs.laws.together_they_are_whole.Goals as goal

pub returns : goal.returns
returns c = together_they_are_whole
