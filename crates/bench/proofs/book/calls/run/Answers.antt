use Rattle.std.proofs.Common.{rules, ◌++◌, length, drop}
use Rattle.std.proofs.lemmas.List.Elements.{All-append, All-take, All-drop}
use Rattle.mars_book.specs.PassSeen.{PassSeen}
use Rattle.mars_book.specs.Books.{IsPassOf}
use Rattle.bench.proofs.book.calls.run.Goals as goal

-- the passes that were lent are of the book, and so are any that weren't
pub close_all-entries-requires-clause-passes : goal.close_all-entries-requires-clause-passes
close_all-entries-requires-clause-passes g c =
    let Of = λ (p : PassSeen). IsPassOf c.in_ok-book.book p in
    let new = c.run_calls.new.passes in
    let old = c.in_ok-passes.passes.items in
    let rest = drop (length new) old in
    All-take Of c.in_ok-passes.passes.len (new ++ rest) (All-append Of new rest c.run_calls.ensures (All-drop Of (length new) old (search rules)))
