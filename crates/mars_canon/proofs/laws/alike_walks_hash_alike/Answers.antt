use Rattle.mars_canon.proofs.Forms.{alike_walks_hash_alike}
use Rattle.mars_canon.proofs.laws.alike_walks_hash_alike.Goals as goal

pub returns : goal.returns
returns c = alike_walks_hash_alike
