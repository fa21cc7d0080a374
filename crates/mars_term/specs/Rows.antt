-- Rows of dots.
use Rattle.std.specs.Prelude.{List, [], ◌∷◌}
use Rattle.mars_term.specs.declared.term.Term.{Term, Dot}

-- the row of dots of these terms, which ends with a last one
abbrev pub dots : List Term → Term → Term
dots [] last = last
dots (first ∷ firsts) last = Dot first (dots firsts last)
