-- The parts of a term, by those of its arguments.
use Rattle.std.specs.Prelude.{◌≡◌, List, ◌∷◌, ◌++◌}
use Rattle.std.specs.List.{flat_map}
use Rattle.mars_tree.specs.declared.label.NameId.{NameId}
use Rattle.mars_term.specs.declared.term.Term.{Term, Name, Tup, Dot}
use Rattle.mars_term.specs.Parts.{parts_of}

-- what the parts of names, tuples and dots are; all other terms have themselves alone
pub record PartsOfTerms : Type 0 where
  pub name : (name : NameId) (terms : List Term) → parts_of (Name name terms) ≡ Name name terms ∷ flat_map parts_of terms
  pub tuple : (terms : List Term) → parts_of (Tup terms) ≡ Tup terms ∷ flat_map parts_of terms
  pub dot : (left right : Term) → parts_of (Dot left right) ≡ Dot left right ∷ (parts_of left ++ parts_of right)
