-- What a word may be, where an option may come.
use Rattle.std.specs.Prelude.{ℕ, List, [], ◌∷◌, Bool, Option, Some, None, nat_eq, if◌then◌else◌, codes}
use Rattle.std.specs.Cmp.Lexicographic.{pointwise}
use Rattle.mars_script.specs.declared.kinds.Kind.{Kind}
use Rattle.mars_script.specs.declared.kinds.Kind.TheVariants as kind
use Rattle.mars_script.specs.declared.words.TheConstants.{MOST_STEPS, MOST_ROWS, LAST_SESSION}
use Rattle.mars_script.specs.Written.{number_up_to}

-- what comes after a beginning, none where the text has another one
abbrev pub after : List ℕ → List ℕ → Option (List ℕ)
after [] text = Some text
after (byte ∷ bytes) [] = None
after (byte ∷ bytes) (other ∷ text) = if nat_eq byte other then after bytes text else None

-- a text that is none of the options alone
abbrev pub kind_of_value : List ℕ → Kind
kind_of_value text =
    elim (after (codes "--steps=") text) [
      | Some value ↦ elim (number_up_to MOST_STEPS value) [ Some number ↦ kind.StepsAre number | None ↦ kind.Other ]
      | None ↦ elim (after (codes "--rows=") text) [
        | Some value ↦ elim (number_up_to MOST_ROWS value) [ Some number ↦ kind.RowsAre number | None ↦ kind.Other ]
        | None ↦ elim (number_up_to LAST_SESSION text) [ Some number ↦ kind.Number number | None ↦ kind.Other ]
      ]
    ]

-- what a text is
abbrev pub kind_of : List ℕ → Kind
kind_of text =
    if pointwise nat_eq text (codes "--steps") then kind.Steps
    else (if pointwise nat_eq text (codes "--rows") then kind.Rows
    else (if pointwise nat_eq text (codes "--log") then kind.Log
    else (if pointwise nat_eq text (codes "--") then kind.End else kind_of_value text)))
