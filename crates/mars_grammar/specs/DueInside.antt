-- How the code keeps what is due: the rest of the innermost row, and those around it, the outermost first.
use Rattle.std.specs.Prelude.{List, [], ◌∷◌, ◌++◌, reverse}
use Rattle.std.specs.Borrow.{Bor}

-- what rows have, one after the other
abbrev pub in_rows : {S : Type 0} → List (Bor (List S)) → List S
in_rows [] = []
in_rows (row ∷ rows) = row.now ++ in_rows rows

abbrev pub due_in : {S : Type 0} → List S → List (Bor (List S)) → List S
due_in row outer = row ++ in_rows (reverse outer)
