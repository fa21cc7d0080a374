use Rattle.std.proofs.Common.{◌≡◌, ◌&&◌, true, false, nat_eq, refl, sym, ap, ◌∙◌, arith, eq-eqb}
use Rattle.std.proofs.lemmas.Bool.{false≢true}
use Rattle.mars_base.proofs.ListFacts.{get-Contains}
use Rattle.mars_rows.proofs.store.has_pin.Goals as goal

pub returns : goal.returns
returns c = (
  λ yes. absurd (false≢true yes),
  λ there.
      let p = get-Contains c.args.pins.now (c.args.who, c.args.id) there in
      let no : (nat_eq c.args.who c.args.who && nat_eq c.args.id c.args.id) ≡ false = c.loop-place.invariant p.0 (c.args.who, c.args.id) (omega (arith, p.1, c.loop-place-test.false)) p.2 in
      let yes : (nat_eq c.args.who c.args.who && nat_eq c.args.id c.args.id) ≡ true = ap (λ b. b && nat_eq c.args.id c.args.id) (eq-eqb c.args.who c.args.who refl) ∙ eq-eqb c.args.id c.args.id refl in
      absurd (false≢true (sym no ∙ yes)),
)
