use Rattle.std.proofs.Common.{◌≡◌, [], sym, ◌∙◌}
use Rattle.mars_grammar.proofs.Moving.{token_step-taken, token_step-left, token_step-none, token_step-empty, takes-as}
use Rattle.mars_grammar.proofs.machine.advance.Goals as goal

pub returns-in-Some-takes : goal.returns-in-Some-takes
returns-in-Some-takes g c = c.loop-symbol.invariant ∙ token_step-taken _ _ _ _ _ _ _ _ c.in-Some.ensures _ c.push.new.self _ (takes-as (λ u. g.G.Grammar.table.takes c.in-Some.symbol u) c.kind.ensures (sym c.in-Some-takes.ensures)) c.in_ok-push.ensures c.in_ok-read.ensures

pub returns-in_default-leaves_in : goal.returns-in_default-leaves_in
returns-in_default-leaves_in g c = c.loop-symbol.invariant ∙ token_step-none _ _ _ _ _ _ _ _ c.in-Some.ensures (takes-as (λ u. g.G.Grammar.table.takes c.in-Some.symbol u) c.kind.ensures (sym c.in_default-takes.ensures)) (sym c.in_default-leaves_in.ensures)

pub loop-symbol-preserved : goal.loop-symbol-preserved
loop-symbol-preserved g c = c.loop-symbol.invariant ∙ token_step-left _ _ _ _ _ _ _ _ c.in-Some.ensures _ _ (takes-as (λ u. g.G.Grammar.table.takes c.in-Some.symbol u) c.kind.ensures (sym c.in_default-takes.ensures)) (sym c.in-Some-leaves_in.ensures) c.in_ok-say_all.ensures

pub returns : goal.returns
returns g c = let none : c.loop-symbol.due ≡ [] = c.in_default.ensures in c.loop-symbol.invariant ∙ token_step-empty _ _ _ _ _ _ none
