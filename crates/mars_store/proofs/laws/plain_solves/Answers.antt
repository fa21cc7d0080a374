use Rattle.mars_store.proofs.Plain.{plain_solves, free_unforced}
use Rattle.mars_store.proofs.laws.plain_solves.Goals as goal

pub returns : goal.returns
returns c = record { solves = plain_solves; unforced = free_unforced }
