use Rattle.std.proofs.Common.{◌≡◌, ◌∙◌, sym, arith, get_or, true}
use Rattle.std.proofs.lemmas.List.Folds.{list_all_more}
use Rattle.mars_tokens.specs.Bytes.{is_digit_byte}
use Rattle.mars_tokens.proofs.Prefixes.{and-both}
use Rattle.mars_tokens.proofs.Numbers.{number-more, number-over}
use Rattle.mars_tokens.proofs.integers.magnitude.Goals as goal

pub returns-in_err-checked_mul-clause-none : goal.returns-in_err-checked_mul-clause-none
returns-in_err-checked_mul-clause-none c = rw c.from_residual.ensures (λ all.
    number-over c.args.digits.now c.loop-d.d-index c.loop-d.n (omega (arith, c.loop-d-test.true)) c.loop-d.invariant.1 (sym c.is_digit.ensures ∙ c.if-not-is_digit.false)
    (omega (arith, c.in_err-checked_mul.ensures)))

pub returns-in_err-n-clause-none : goal.returns-in_err-n-clause-none
returns-in_err-n-clause-none c = rw c.from_residual-in_err-n.ensures (λ all.
    number-over c.args.digits.now c.loop-d.d-index c.loop-d.n (omega (arith, c.loop-d-test.true)) c.loop-d.invariant.1 (sym c.is_digit.ensures ∙ c.if-not-is_digit.false)
    (omega (arith, c.in_err-n.ensures, c.in_ok-checked_mul.ensures)))

pub loop-d-preserved : goal.loop-d-preserved
loop-d-preserved c =
    let digit : is_digit_byte (get_or c.args.digits.now c.loop-d.d-index 0) ≡ true = sym c.is_digit.ensures ∙ c.if-not-is_digit.false in (
      list_all_more is_digit_byte c.args.digits.now c.loop-d.d-index 0 (omega (arith, c.loop-d-test.true)) ∙ and-both _ _ c.loop-d.invariant.0 digit,
      omega (arith, c.in_ok-n.ensures, c.in_ok-checked_mul.ensures, number-more c.args.digits.now c.loop-d.d-index c.loop-d.n (omega (arith, c.loop-d-test.true)) c.loop-d.invariant.1 digit),
    )
