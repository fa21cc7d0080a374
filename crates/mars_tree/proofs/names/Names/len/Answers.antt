use Rattle.std.proofs.Common.{subst, List, ℕ}
use Rattle.mars_tree.specs.Names.{AreDistinct}
use Rattle.mars_tree.proofs.names.Names.len.Goals as goal

pub returns-clause-distinct : goal.returns-clause-distinct
returns-clause-distinct c = subst (λ (names : List (List ℕ)). AreDistinct names) c.self.view_is c.self.invariant.distinct
