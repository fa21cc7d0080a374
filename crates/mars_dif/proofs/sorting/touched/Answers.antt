use Rattle.std.proofs.Common.{Contains, eqb, subst, sym}
use Rattle.std.proofs.lemmas.List.Sorted.{Contains-permutation}
use Rattle.std.proofs.lemmas.List.Kept.{Contains-dedup_nat}
use Rattle.std.proofs.lemmas.List.Filters.{dedup_is}
use Rattle.mars_dif.proofs.sorting.touched.Goals as goal

pub returns : goal.returns
returns c place number h k =
    let all : Contains c.sort_unstable.new.self.items number =
    Contains-permutation c.gather_bound.new.gathered.items c.sort_unstable.new.self.items number c.sort_unstable.ensures.permutation (c.in_ok-gather_bound.ensures place number h k) in
    subst (λ xs. Contains xs number) (sym (dedup_is eqb c.sort_unstable.new.self.items c.dedup.new.self.items c.dedup.ensures.filtered)) (Contains-dedup_nat c.sort_unstable.new.self.items number all)
