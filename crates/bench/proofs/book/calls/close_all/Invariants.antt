use Rattle.std.proofs.Common.{vec_len}
use Rattle.std.specs.Prelude.{All}
use Rattle.mars_book.specs.Books.{IsPassOf}
use Rattle.bench.proofs.book.calls.close_all.Given as goal

abbrev pub invariant-loop-pass : goal.invariant-loop-pass
invariant-loop-pass l = record {
  all : IsPassOf l.fn.book l.all;
  passes : All (λ p. IsPassOf l.fn.book p) l.passes.items;
}

abbrev pub decreases-loop-pass : goal.decreases-loop-pass
decreases-loop-pass l = vec_len l.passes
