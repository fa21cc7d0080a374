-- A job at its pass of the book, before, between and after its events.
use Rattle.std.specs.Prelude.{◌≡◌}
use Rattle.mars_table.specs.declared.entry.Entry.{Entry}
use Rattle.mars_book.specs.declared.book.Book.{Book}
use Rattle.mars_book.specs.PassSeen.{PassSeen}
use Rattle.mars_book.specs.Books.{IsPassOf}
use Rattle.mars_book.specs.Stays.{SamePass}
use Rattle.mars_gate.specs.Jobs.{JobSeen, MatchesEntries}

module _ {J : Type 0} (job : J → JobSeen) (lacks : J → Entry → Type 0) (later : J → J → Type 0) where
  -- the pass is the book's and has the job's number; its entries are the job's
  pub record IsWorker (book : Book) (j : J) (pass : PassSeen) : Type 0 where
    pub of : IsPassOf book pass
    pub number : pass.view.number ≡ (job j).number
    pub entries : MatchesEntries (lacks j) (job j) pass.view.mine

  -- the same job at the same pass, after some events
  pub record KeepsWork (book : Book) (j : J) (pass : PassSeen) (j' : J) (pass' : PassSeen) : Type 0 where
    pub worker : IsWorker book j' pass'
    pub number : (job j').number ≡ (job j).number
    pub goes : later j j'
    pub same : SamePass pass pass'

  -- the same, after its last event
  pub record EndsWork (done : J → Type 0) (book : Book) (j : J) (pass : PassSeen) (j' : J) (pass' : PassSeen) : Type 0 where
    pub keeps : KeepsWork book j pass j' pass'
    pub ended : done j'
