use Rattle.mars_store.proofs.Growing.{older_solved, larger_solved, trees_stay}
use Rattle.mars_store.proofs.laws.older_solved.Goals as goal

pub returns : goal.returns
returns c = record { older = older_solved; larger = larger_solved; trees = trees_stay }
