use Rattle.std.proofs.Common.{◌≡◌, ◌<◌, ℕ, List, length, subst, sym, arith, MatchOption, All}
use Rattle.mars_first.specs.StagesInside.{AreOwn, NeverDiffer}
use Rattle.mars_first.specs.ComponentInside.{IsNarrowedTo}
use Rattle.mars_first.proofs.Linking.{read_at}
use Rattle.mars_first.proofs.Ending.{comes_start, comes_more, comes_within, narrows_less, decided, start_in, one_alike}
use Rattle.mars_first.proofs.narrowing.first_place.Goals as goal

pub narrowing-init : goal.narrowing-init
narrowing-init c =
    let n : c.len-count.result ≡ length c.args.component.now.places.numbers.items = omega arith in
    comes_start c.args.component.now c.in_ok-candidates.candidates.items (subst (λ (m : ℕ). AreOwn m c.in_ok-candidates.candidates.items) n c.in_ok-candidates.ensures) c.requires.some

pub narrowed-requires-clause-candidates_in : goal.narrowed-requires-clause-candidates_in
narrowed-requires-clause-candidates_in c =
    let comp = c.args.component.now in
    subst (All (λ x. x < length comp.places.numbers.items)) (sym c.deref.ensures.value) (comes_within comp c.in_ok-candidates.candidates.items c.narrowing.candidates.items c.narrowing.invariant)

pub narrowing-preserved : goal.narrowing-preserved
narrowing-preserved c =
    let comp = c.args.component.now in
    let told = subst (λ o. MatchOption o (NeverDiffer comp.places c.deref.result.now) (λ left. IsNarrowedTo comp c.deref.result.now left.items)) c.in-Some.is c.in_ok-found.ensures in
    comes_more comp c.in_ok-candidates.candidates.items c.narrowing.candidates.items c.in-Some.left.items c.narrowing.invariant (subst (λ (xs : List ℕ). IsNarrowedTo comp xs c.in-Some.left.items) c.deref.ensures.value told)

pub narrowing-smaller : goal.narrowing-smaller
narrowing-smaller c =
    let comp = c.args.component.now in
    let told = subst (λ o. MatchOption o (NeverDiffer comp.places c.deref.result.now) (λ left. IsNarrowedTo comp c.deref.result.now left.items)) c.in-Some.is c.in_ok-found.ensures in
    narrows_less comp c.narrowing.candidates.items c.in-Some.left.items (subst (λ (xs : List ℕ). IsNarrowedTo comp xs c.in-Some.left.items) c.deref.ensures.value told)

pub returns-in-None-clause-narrows : goal.returns-in-None-clause-narrows
returns-in-None-clause-narrows c =
    let comp = c.args.component.now in
    let n : c.len-count.result ≡ length comp.places.numbers.items = omega arith in
    let told = subst (λ o. MatchOption o (NeverDiffer comp.places c.deref.result.now) (λ left. IsNarrowedTo comp c.deref.result.now left.items)) c.in-None.is c.in_ok-found.ensures in
    let xs = c.narrowing.candidates.items in
    decided comp c.in_ok-candidates.candidates.items xs c.index.result.now (subst (λ (m : ℕ). AreOwn m c.in_ok-candidates.candidates.items) n c.in_ok-candidates.ensures) c.narrowing.invariant (subst (NeverDiffer comp.places) c.deref.ensures.value told)
    (read_at xs 0 c.index.result.now c.narrowing.invariant.some c.index.ensures)

pub returns-in-None-clause-within : goal.returns-in-None-clause-within
returns-in-None-clause-within c =
    let xs = c.narrowing.candidates.items in
    start_in c.args.component.now c.in_ok-candidates.candidates.items xs c.index.result.now c.narrowing.invariant (read_at xs 0 c.index.result.now c.narrowing.invariant.some c.index.ensures)

pub returns-clause-narrows : goal.returns-clause-narrows
returns-clause-narrows c =
    let comp = c.args.component.now in
    let n : c.len-count.result ≡ length comp.places.numbers.items = omega arith in
    let xs = c.narrowing.candidates.items in
    decided comp c.in_ok-candidates.candidates.items xs c.index-2.result.now (subst (λ (m : ℕ). AreOwn m c.in_ok-candidates.candidates.items) n c.in_ok-candidates.ensures) c.narrowing.invariant (one_alike comp xs (omega arith))
    (read_at xs 0 c.index-2.result.now c.narrowing.invariant.some c.index-2.ensures)

pub returns-clause-within : goal.returns-clause-within
returns-clause-within c =
    let xs = c.narrowing.candidates.items in
    start_in c.args.component.now c.in_ok-candidates.candidates.items xs c.index-2.result.now c.narrowing.invariant (read_at xs 0 c.index-2.result.now c.narrowing.invariant.some c.index-2.ensures)
