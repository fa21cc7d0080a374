-- How a pass's fields are seen.
use Rattle.mars_turn.specs.Passes.{pass_view, turn_of}
use Rattle.mars_book.specs.declared.book_pass.BookPass.TheInside.{Inside}
use Rattle.mars_book.specs.PassSeen.{PassSeen, KnowsHistory}

abbrev pub seen_pass : Inside → PassSeen
seen_pass p = record { turn = turn_of p.pass; view = pass_view p.pass }

abbrev pub IsKnowing : Inside → Type 0
IsKnowing p = KnowsHistory (pass_view p.pass)
