use Rattle.std.proofs.Common.{◌≡◌, List, ℕ, subst, Contains, MatchOption, Some, slice_get}
use Rattle.mars_val.proofs.Working.{found-place}
use Rattle.mars_val.proofs.terms.Terms.find.Goals as goal

pub returns : goal.returns
returns c =
    subst (λ (xs : List ℕ). MatchOption c.get_index_of.result (Contains xs c.args.node → ⊥) (λ place. slice_get xs place ≡ Some c.args.node)) c.self.view_is
    (found-place c.self.inside.met.keys c.args.node c.get_index_of.result c.get_index_of.ensures.index)
