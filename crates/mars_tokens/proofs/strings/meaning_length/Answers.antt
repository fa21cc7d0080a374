use Rattle.std.proofs.Common.{arith}
use Rattle.mars_tokens.proofs.Meanings.{meaning-step}
use Rattle.mars_tokens.proofs.strings.meaning_length.Goals as goal
use Rattle.mars_tokens.proofs.strings.meaning_length.Goals.{else-not-escaped-via-then-not-escaped+else-b-eq92, else-not-escaped-via-else-not-escaped}

pub loop-b-preserved : goal.loop-b-preserved
loop-b-preserved c = elim c.else-not-escaped.branch [
  | else-not-escaped-via-then-not-escaped+else-b-eq92 w ↦ meaning-step c.loop-b.escaped c.between_quotes-inside.result.now c.loop-b.b-index c.loop-b.n (omega (arith, c.loop-b-test.true)) (λ e. w.if-b-eq92.false) c.loop-b.invariant.0 c.loop-b.invariant.1
  | else-not-escaped-via-else-not-escaped w ↦ meaning-step c.loop-b.escaped c.between_quotes-inside.result.now c.loop-b.b-index c.loop-b.n (omega (arith, c.loop-b-test.true)) (λ e. absurd (let f = w.if-not-escaped.false in cc)) c.loop-b.invariant.0 c.loop-b.invariant.1
]
