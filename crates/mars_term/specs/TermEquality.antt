-- When terms are equal, part by part, and what a term writes into a hash.
use Rattle.std.specs.Prelude.{pos, List, [], ◌∷◌, ◌++◌, length, Bool, true, false, ◌&&◌, nat_eq}
use Rattle.std.specs.Ordering.{int_eq}
use Rattle.std.specs.Hash.{HashWrites, isize, usize, u32, i64}
use Rattle.mars_tree.specs.declared.label.NameId.{NameId}
use Rattle.mars_tree.specs.contracts.label.NameIdPartialEq.TheImpl as name_eq
use Rattle.mars_tree.specs.contracts.label.NameIdHash.TheImpl as name_hash
use Rattle.mars_term.specs.declared.term.Term.{Term, Term-F, Var, Int, Name', Tup', Dot', Kept, Str, Row_of-Term, end_of-Term, more_of-Term, items-the_row-Term, out-Term}
use Rattle.mars_term.specs.declared.term.Term.TheOpen as one

-- whether two names are one
abbrev pub same_name : NameId → NameId → Bool
same_name = (name_eq.ghosts).eq

-- what a name writes into a hash
abbrev pub name_writes : NameId → HashWrites
name_writes = (name_hash.ghosts).hash_input

abbrev mutual
  -- whether a term is this one, of which the outermost layer is given
  pub same_layer : Term → Term-F Term → Bool
  same_layer (Var number) (one.Var other) = nat_eq number other
  same_layer (Int number) (one.Int other) = int_eq number other
  same_layer (Name' name shape row) (one.Name other others) = same_name name other && same_row row others
  same_layer (Tup' shape row) (one.Tup others) = same_row row others
  same_layer (Dot' before left between right) (one.Dot first rest) = same_row left (first ∷ []) && same_row right (rest ∷ [])
  same_layer (Kept number) (one.Kept other) = nat_eq number other
  same_layer (Str name) (one.Str other) = same_name name other
  same_layer _ _ = false

  -- whether the terms of a row are these, one by one
  pub same_row : {n : _} → Row_of-Term n → List Term → Bool
  same_row end_of-Term [] = true
  same_row (more_of-Term term row) (other ∷ others) = same_layer term (out-Term other) && same_row row others
  same_row _ _ = false

-- whether two terms are one
abbrev pub same_term : Term → Term → Bool
same_term term other = same_layer term (out-Term other)

abbrev mutual
  -- what a term writes into a hash: the place of its variant, and then what it holds, with the length of a list before it
  pub term_writes : Term → HashWrites
  term_writes (Var number) = isize (pos 0) ++ u32 number
  term_writes (Int number) = isize (pos 1) ++ i64 number
  term_writes (Name' name shape row) = isize (pos 2) ++ (name_writes name ++ (usize (length (items-the_row-Term _ row)) ++ row_writes row))
  term_writes (Tup' shape row) = isize (pos 3) ++ (usize (length (items-the_row-Term _ row)) ++ row_writes row)
  term_writes (Dot' before left between right) = isize (pos 4) ++ (row_writes left ++ row_writes right)
  term_writes (Kept number) = isize (pos 5) ++ u32 number
  term_writes (Str name) = isize (pos 6) ++ name_writes name

  -- what the terms of a row write, one after another
  pub row_writes : {n : _} → Row_of-Term n → HashWrites
  row_writes end_of-Term = []
  row_writes (more_of-Term term row) = term_writes term ++ row_writes row
