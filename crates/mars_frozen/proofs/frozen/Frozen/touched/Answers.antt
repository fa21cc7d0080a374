use Rattle.std.proofs.Common.{ℕ, ◌<◌, ◌≤◌, List, length, drop, get_or, Contains, subst, sym, ap, ◌∙◌}
use Rattle.mars_watch.specs.Gathered.{AreRising, AreGathered}
use Rattle.mars_frozen.specs.Freezing.{FrozenPairs}
use Rattle.mars_watch.proofs.CallerLemmas.{ascending-rises}
use Rattle.mars_frozen.proofs.Filing.{all-touched}
use Rattle.mars_frozen.proofs.frozen.Frozen.touched.Goals as goal

pub add_unfiled-requires : goal.add_unfiled-requires
add_unfiled-requires c =
    let s = c.args.self.now in
    subst AreRising (sym (c.now.ensures ∙ ap (λ (f : FrozenPairs). f.numbers.now) c.self.view_is)) (ascending-rises 0 s.numbers.now (length s.numbers.past) c.requires.filed.ascending)

pub returns : goal.returns
returns c =
    let i = c.self.inside in
    let all : List ℕ = c.add_unfiled.new.touched.items in
    let gathered : List ℕ = c.gather_bound.new.gathered.items in
    let added = subst (λ xs. (place : ℕ) → place < length xs → i.filed ≤ get_or xs place 0 → Contains all (get_or xs place 0)) c.now.ensures c.in_ok-add_unfiled.ensures.added in
    all-touched c.args.self.now c.args.store.now gathered all c.requires
    (subst (λ (f : FrozenPairs). AreGathered f.watches (drop f.seen c.args.store.now.bound) gathered) c.self.view_is c.in_ok-gather_bound.ensures) c.add_unfiled.ensures.kept
    (subst (λ (f : FrozenPairs). (place : ℕ) → place < length f.numbers.now → f.filed ≤ get_or f.numbers.now place 0 → Contains all (get_or f.numbers.now place 0)) c.self.view_is added)
