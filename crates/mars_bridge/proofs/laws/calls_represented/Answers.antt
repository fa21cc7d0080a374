use Rattle.mars_bridge.proofs.Matched.{called_by, refused_unsolvable}
use Rattle.mars_bridge.proofs.laws.calls_represented.Goals as goal

pub returns-clause-matched : goal.returns-clause-matched
returns-clause-matched c = λ e old mid new vars r scoped sound call node uses st rule flat is fl before after m b.
    called_by e old vars r scoped call node uses st rule flat is fl mid new sound before after m b

pub returns-clause-refused : goal.returns-clause-refused
returns-clause-refused c = refused_unsolvable
