use Rattle.std.proofs.Common.{◌≡◌, ℕ, zero, suc, ◌<◌, ◌&&◌, true, false, cond, nat_eq, List, [], ◌∷◌, slice_get, get_or, Some, refl, sym, ap, ◌∙◌, arith, eq-eqb}
use Rattle.std.specs.List.{remove}
use Rattle.std.proofs.lemmas.Bool.{false≢true}
use Rattle.std.proofs.lemmas.Option.{same_Some, slice_get-get_or}
use Rattle.mars_base.proofs.ListFacts.{get-Contains}
use Rattle.mars_rows.specs.RowsObject.{without_first}
use Rattle.mars_rows.proofs.store.pin_place.Goals as goal

-- the first that matches goes
first_at : (who h : ℕ) (pins : List (ℕ × ℕ)) (i : ℕ) (pin : ℕ × ℕ) → slice_get pins i ≡ Some pin → (nat_eq pin.0 who && nat_eq pin.1 h) ≡ true →
    ((k : ℕ) (other : ℕ × ℕ) → k < i → slice_get pins k ≡ Some other → (nat_eq other.0 who && nat_eq other.1 h) ≡ false) → without_first who h pins ≡ remove pins i
first_at who h [] i pin e is before = cc
first_at who h (p ∷ pins) zero pin e is before =
    ap (λ b. cond b pins (p ∷ without_first who h pins)) (ap (λ (x : ℕ × ℕ). nat_eq x.0 who && nat_eq x.1 h) (same_Some p pin e) ∙ is)
first_at who h (p ∷ pins) (suc i) pin e is before =
    ap (λ b. cond b pins (p ∷ without_first who h pins)) (before 0 p (omega arith) refl)
    ∙ ap (λ ps. p ∷ ps) (first_at who h pins i pin e is (λ k other lt. before (suc k) other (omega (arith, lt))))

pub returns-then-pins-place-2-clause-first : goal.returns-then-pins-place-2-clause-first
returns-then-pins-place-2-clause-first c =
    let pins = c.args.pins.now in
    let pin : ℕ × ℕ = get_or pins c.loop-place.place (0, 0) in
    let who : nat_eq pin.0 c.args.who ≡ true = eq-eqb pin.0 c.args.who c.if-pins-place.true in
    let id : nat_eq pin.1 c.args.id ≡ true = eq-eqb pin.1 c.args.id c.if-pins-place-2.true in
    first_at c.args.who c.args.id pins c.loop-place.place pin (slice_get-get_or pins c.loop-place.place (0, 0) c.loop-place-test.true)
    (ap (λ b. b && nat_eq pin.1 c.args.id) who ∙ id) c.loop-place.invariant

pub unreachable-requires : goal.unreachable-requires
unreachable-requires c =
    let p = get-Contains c.args.pins.now (c.args.who, c.args.id) c.requires in
    let no : (nat_eq c.args.who c.args.who && nat_eq c.args.id c.args.id) ≡ false = c.loop-place.invariant p.0 (c.args.who, c.args.id) (omega (arith, p.1, c.loop-place-test.false)) p.2 in
    let yes : (nat_eq c.args.who c.args.who && nat_eq c.args.id c.args.id) ≡ true = ap (λ b. b && nat_eq c.args.id c.args.id) (eq-eqb c.args.who c.args.who refl) ∙ eq-eqb c.args.id c.args.id refl in
    false≢true (sym no ∙ yes)
