use Rattle.std.proofs.Common.{◌≡◌, ◌+◌}
use Rattle.std.specs.Prelude.{All, Some}
use Rattle.mars_book.specs.Books.{IsPassOf}
use Rattle.bench.proofs.book.calls.passes_of.Given as goal

abbrev pub invariant-loop : goal.invariant-loop
invariant-loop l = record {
  opening : IsPassOf l.fn.book l.opening;
  number : l.opening.view.number ≡ 0;
  made : l.opening.view.made ≡ Some (l.counter + 1);
  passes : All (λ p. IsPassOf l.fn.book p) l.passes.items;
}
