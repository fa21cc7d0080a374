use Rattle.mars_book.specs.Books.{IsPassOf}
use Rattle.bench.proofs.book.calls.make_calls.Given as goal

abbrev pub invariant-loop : goal.invariant-loop
invariant-loop g l = IsPassOf l.fn.book l.pass
