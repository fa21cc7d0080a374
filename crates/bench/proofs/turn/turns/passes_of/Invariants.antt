use Rattle.std.proofs.Common.{◌≡◌, ◌+◌}
use Rattle.std.specs.Prelude.{All, Some}
use Rattle.mars_turn.specs.Passes.{pass_view, turn_id, MayEnter}
use Rattle.bench.proofs.turn.turns.passes_of.Given as goal

abbrev pub invariant-loop : goal.invariant-loop
invariant-loop l = record {
  opening : MayEnter (turn_id l.fn.turn) l.opening;
  number : (pass_view l.opening).number ≡ 0;
  made : (pass_view l.opening).made ≡ Some (l.counter + 1);
  passes : All (λ p. MayEnter (turn_id l.fn.turn) p) l.passes.items;
}
