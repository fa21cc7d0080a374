use Rattle.std.proofs.Common.{arith, inl, inr}
use Rattle.std.proofs.lemmas.Option.{slice_get_cases}
use Rattle.bench.proofs.rules.calls.template_of.Goals as goal

pub returns : goal.returns
returns c =
    let within = c.requires in
    elim (slice_get_cases c.args.base.now.rules c.args.rule).1 [
      | inl (written, w, there, same) ↦ (c.flat.ensures written there).template
      | inr (w, none) ↦ absurd (omega arith)
    ]
