use Rattle.mars_back.proofs.Back.{read_back}
use Rattle.mars_back.proofs.laws.texts_read_back.Goals as goal

pub returns : goal.returns
returns c = read_back c.one_value.ensures c.same_beginning.ensures
