use Rattle.std.proofs.Common.{ap, sym, ◌∙◌}
use Rattle.mars_grammar.specs.MachineInside.{state, token_run}
use Rattle.mars_grammar.proofs.First.{first-law, made-law, within-law}
use Rattle.mars_grammar.proofs.Moving.{steps-yes, steps-no, closes-yes, closes-no, token_run-on, token_run-over, token_run-none, token_run-closed}
use Rattle.mars_grammar.proofs.machine.parse.Goals as goal

pub returns-then-not-branch-clause-refused : goal.returns-then-not-branch-clause-refused
returns-then-not-branch-clause-refused g c = first-law _ _ g.met.G.Grammar.passes _ _ _ c.requires _ _ (c.loop-next.invariant
    ∙ token_run-none _ _ _ _ _ (state c.loop-next.mode c.loop-next.due (g.B.Builder.view c.loop-next.builder)) c.in-Some.ensures.cases.0 (steps-no _ _ _ _ _ c.if-not-branch.true c.in_ok-advance.ensures))

pub returns-in-Some-refuses-clause-refused : goal.returns-in-Some-refuses-clause-refused
returns-in-Some-refuses-clause-refused g c = first-law _ _ g.met.G.Grammar.passes _ _ _ c.requires _ _ (c.loop-next.invariant
    ∙ token_run-over _ _ _ _ _ (state c.loop-next.mode c.loop-next.due (g.B.Builder.view c.loop-next.builder)) c.in-Some.ensures.cases.0 _ _
    (steps-yes _ _ _ _ _ c.if-not-branch.false c.in_ok-advance.ensures) (sym c.in-Some-refuses.ensures))

pub loop-next-preserved : goal.loop-next-preserved
loop-next-preserved g c = c.loop-next.invariant
    ∙ token_run-on _ _ _ _ _ (state c.loop-next.mode c.loop-next.due (g.B.Builder.view c.loop-next.builder)) c.in-Some.ensures.cases.0 _
    (steps-yes _ _ _ _ _ c.if-not-branch.false c.in_ok-advance.ensures) (sym c.in_default-refuses.ensures)
    ∙ ap (λ m. token_run g.G.Grammar.table g.B.Builder.build c.in-Some.after.now (state m c.advance.new.due (g.B.Builder.view c.advance.new.builder)))
    (ap (λ u. g.G.Grammar.table.pass u c.loop-next.mode) (sym c.kind.ensures) ∙ sym c.pass-mode.ensures)

pub returns-then-branch-clause-made : goal.returns-then-branch-clause-made
returns-then-branch-clause-made g c = made-law _ _ g.met.G.Grammar.passes _ _ _ c.requires _ _ (c.loop-next.invariant
    ∙ token_run-closed _ _ _ (state c.loop-next.mode c.loop-next.due (g.B.Builder.view c.loop-next.builder)) _ c.in_default.ensures.cases (closes-yes _ _ _ c.if-branch.true c.in_ok-close.ensures))

pub returns-then-branch-clause-within : goal.returns-then-branch-clause-within
returns-then-branch-clause-within g c = within-law _ _ g.met.G.Grammar.passes _ _ _ c.requires _ _ (c.loop-next.invariant
    ∙ token_run-closed _ _ _ (state c.loop-next.mode c.loop-next.due (g.B.Builder.view c.loop-next.builder)) _ c.in_default.ensures.cases (closes-yes _ _ _ c.if-branch.true c.in_ok-close.ensures))

pub returns-clause-refused : goal.returns-clause-refused
returns-clause-refused g c = first-law _ _ g.met.G.Grammar.passes _ _ _ c.requires _ _ (c.loop-next.invariant
    ∙ token_run-closed _ _ _ (state c.loop-next.mode c.loop-next.due (g.B.Builder.view c.loop-next.builder)) _ c.in_default.ensures.cases (closes-no _ _ _ c.if-branch.false c.in_ok-close.ensures))
