-- Which passes are a book's.
use Rattle.std.specs.Prelude.{◌≡◌}
use Rattle.mars_turn.specs.Passes.{turn_id}
use Rattle.mars_book.specs.declared.book.Book.{Book}
use Rattle.mars_book.specs.PassSeen.{PassSeen}

-- the pass is of the book's turn, and knows its row limit
pub record IsPassOf (book : Book) (pass : PassSeen) : Type 0 where
  pub turn : pass.turn ≡ turn_id book.turn
  pub limit : pass.view.fixed ≡ book.cap
