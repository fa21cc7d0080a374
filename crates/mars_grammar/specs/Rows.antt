-- Tables that are written as data: each symbol with its rows. A row is what its first token must be, and what is due after it.
use Rattle.std.specs.Prelude.{List, [], ◌∷◌, Option, Some, None, Bool, true, false, option_map}
use Rattle.std.specs.Option.{option_copied}
use Rattle.std.specs.Borrow.{Bor}

-- the rows of one symbol
abbrev pub RowList : Type 0 → Type 0 → Type 0
RowList O S = List (O × List S)

-- a symbol, what a builder is told where it is left out, if it can be, and its rows
pub record FormEntry (S O A : Type 0) : Type 0 where
  pub symbol : S
  pub leaves : Option (List A)
  pub rows : RowList O S

-- rows that the code holds, without their places in memory
abbrev pub borrowed_rows : {O S : Type 0} → List (O × Bor (List S)) → RowList O S
borrowed_rows [] = []
borrowed_rows (r ∷ rows) = (r.0, r.1.now) ∷ borrowed_rows rows

-- an entry that the code holds, likewise
abbrev pub borrowed_entry : {S O A : Type 0} → S × Option (Bor (List A)) × Bor (List (O × Bor (List S))) → FormEntry S O A
borrowed_entry e = record { symbol = e.0; leaves = option_copied e.1; rows = borrowed_rows e.2.now }

-- rows of a constant
abbrev pub constant_rows : {O S : Type 0} → List (O × record { now : List S }) → RowList O S
constant_rows [] = []
constant_rows (r ∷ rows) = (r.0, r.1.now) ∷ constant_rows rows

-- what a constant has for a symbol that is left out
abbrev pub constant_leaves : {A : Type 0} → Option (record { now : List A }) → Option (List A)
constant_leaves told = option_map (λ actions. actions.now) told

-- entries of a constant
abbrev pub constant_entries : {S O A : Type 0} → List (S × Option (record { now : List A }) × record { now : List (O × record { now : List S }) }) → List (FormEntry S O A)
constant_entries [] = []
constant_entries (e ∷ es) = record { symbol = e.0; leaves = constant_leaves e.1; rows = constant_rows e.2.now } ∷ constant_entries es

-- the rows of an entry, if there is one
abbrev pub rows_at : {S O A : Type 0} → Option (FormEntry S O A) → RowList O S
rows_at None = []
rows_at (Some e) = e.rows

-- what is told where an entry's symbol is left out
abbrev pub leaves_at : {S O A : Type 0} → Option (FormEntry S O A) → Option (List A)
leaves_at None = None
leaves_at (Some e) = e.leaves

-- this form where the trigger is the token, else a later one
abbrev pub form_if : {S : Type 0} → Bool → List S → Option (List S) → Option (List S)
form_if true form later = Some form
form_if false form later = later

-- what is due after the token, by the first row whose trigger it is
abbrev pub first_row : {O S : Type 0} → (O → Bool) → RowList O S → Option (List S)
first_row fires [] = None
first_row fires (r ∷ rows) = form_if (fires r.0) r.1 (first_row fires rows)
