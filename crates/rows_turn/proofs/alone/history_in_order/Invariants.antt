use Rattle.mars_turn.specs.Passes.{turn_id, MayEnter}
use Rattle.rows_turn.proofs.alone.history_in_order.Given as goal

abbrev pub invariant-loop-word : goal.invariant-loop-word
invariant-loop-word g l = record {
  opening : MayEnter (turn_id l.turn) l.opening;
  one : MayEnter (turn_id l.turn) l.one;
  two : MayEnter (turn_id l.turn) l.two;
}
