-- The parts of a term, by those of its arguments.
use Rattle.std.proofs.Common.{◌≡◌, List, ◌∷◌, ◌++◌, refl, ap, ◌∙◌}
use Rattle.std.specs.List.{flat_map}
use Rattle.std.proofs.Common.{append-nil}
use mathlib.Core.Former.{Count}
use Rattle.mars_tree.specs.declared.label.NameId.{NameId}
use Rattle.mars_term.specs.declared.term.Term.{Term, Name, Name', Tup, Tup', Dot, Row_of-Term, end_of-Term, more_of-Term, items-the_row-Term, items_hidden-the_row-Term-0}
use Rattle.mars_term.specs.declared.term.Term.TheBlock.{shape-the_row-Term-1, hidden-the_row-Term-1}
use denote.Hole.Carrier.{hidden}
use Rattle.mars_term.specs.Parts.{parts_of, parts_of_row}

row_parts : (n : _) (row : Row_of-Term n) → parts_of_row row ≡ flat_map parts_of (items-the_row-Term n row)
row_parts n end_of-Term = refl
row_parts n (more_of-Term term row) = ap (λ (ps : List Term). parts_of term ++ ps) (row_parts _ row)

abbrev row_of : Term → (n : Count) × Row_of-Term n
row_of (Name' name shape row) = (_, row)
row_of (Tup' shape row) = (_, row)
row_of _ = (_, end_of-Term)

pub parts-Name : (name : NameId) (terms : List Term) → parts_of (Name name terms) ≡ Name name terms ∷ flat_map parts_of terms
parts-Name name terms =
    let row = row_of (Name name terms) in
    ap (λ (ps : List Term). Name name terms ∷ ps) (row_parts row.0 row.1 ∙ ap (flat_map parts_of) (items_hidden-the_row-Term-0 terms))

pub parts-Tup : (terms : List Term) → parts_of (Tup terms) ≡ Tup terms ∷ flat_map parts_of terms
parts-Tup terms =
    let row = row_of (Tup terms) in
    ap (λ (ps : List Term). Tup terms ∷ ps) (row_parts row.0 row.1 ∙ ap (flat_map parts_of) (items_hidden-the_row-Term-0 terms))

pub parts-Dot : (left right : Term) → parts_of (Dot left right) ≡ Dot left right ∷ (parts_of left ++ parts_of right)
unfolding shape-the_row-Term-1 hidden-the_row-Term-1 hidden
parts-Dot left right i = Dot left right ∷ (append-nil (parts_of left) i ++ append-nil (parts_of right) i)
