-- The spellings of names, as a list without doubles: a name's number is the place of its spelling.
use Rattle.std.specs.Prelude.{ℕ, List, [], ◌∷◌, ◌++◌, length, slice_index_or, Option, position, unwrap_or, is_some, nat_eq, if◌then◌else◌, map}
use Rattle.std.specs.Cmp.Lexicographic.{pointwise}
use Rattle.mars_tree.specs.declared.label.NameId.{NameId}
use Rattle.mars_tree.specs.declared.names.TheConstants.{BUILT_IN}
pub use Rattle.mars_base.specs.Lists.{AreDistinct}

-- the spellings that every list begins with
unfoldable pub built_in_names : List (List ℕ)
built_in_names = map (λ name. name.now) BUILT_IN

-- the place of a text among the names
abbrev pub place_of : List ℕ → List (List ℕ) → Option ℕ
place_of text names = position (λ name. pointwise nat_eq text name) names

-- the number of a text: its place, or the next one where it is new
abbrev pub name_number : List ℕ → List (List ℕ) → ℕ
name_number text names = unwrap_or (place_of text names) (length names)

-- the names with a text, which goes last where it is new
abbrev pub with_text : List ℕ → List (List ℕ) → List (List ℕ)
with_text text names = if is_some (place_of text names) then names else names ++ text ∷ []

-- the spelling of a name, nothing where it has none
abbrev pub spelling : List (List ℕ) → NameId → List ℕ
spelling names id = slice_index_or names id.0 []
