-- The lines that sessions write. Each ends with a line feed.
use Rattle.std.specs.Prelude.{ℕ, ◌+◌, List, [], ◌∷◌, ◌++◌, codes, decimal, Option, Some, None}
use Rattle.mars_tree.specs.declared.label.NameId.{NameId}
use Rattle.mars_tree.specs.Graph.{Node}
use Rattle.mars_tree.specs.Names.{spelling}
use Rattle.mars_canon.specs.Canon.{Rooted}
use Rattle.mars_print.specs.Text.{text, string_body}
use Rattle.mars_print.specs.Items.{answer_text}
use Rattle.mars_machine.specs.declared.ending.Ending.{Ending}
use Rattle.mars_machine.specs.declared.ending.Ending.TheVariants.{End, Enough, Stopped}
use Rattle.mars_machine.specs.declared.stepped.Stepped.{Stepped}
use Rattle.mars_machine.specs.declared.stepped.Stepped.TheVariants.{Went, Said, SaidText, Answered, Ended}

-- the first line of a session
abbrev pub heading_line : List (List ℕ) → NameId → List ℕ
heading_line names name = codes "session " ++ spelling names name ++ codes "\n"

-- the one line of a session that ran out of memory, after those of the commands before
abbrev pub memory_line : List ℕ
memory_line = codes "memory\n"

-- refusals
abbrev pub name_taken_line : List ℕ
name_taken_line = codes "name taken\n"

abbrev pub no_name_line : List ℕ
no_name_line = codes "no name\n"

abbrev pub no_answer_line : List ℕ
no_answer_line = codes "no answer\n"

abbrev pub no_variable_line : List ℕ
no_variable_line = codes "no variable\n"

abbrev pub not_ground_line : List ℕ
not_ground_line = codes "not ground\n"

abbrev pub too_large_line : ℕ → List ℕ
too_large_line count = codes "too large " ++ decimal count ++ codes "\n"

-- whether two names have one tree
abbrev pub same_yes_line : List ℕ
same_yes_line = codes "same yes\n"

abbrev pub same_no_line : List ℕ
same_no_line = codes "same no\n"

-- what the table replied
abbrev pub kept_line : List (List ℕ) → NameId → ℕ → List ℕ
kept_line names name h = codes "kept " ++ spelling names name ++ codes " #" ++ decimal h ++ codes "\n"

abbrev pub full_line : ℕ → ℕ → ℕ → List ℕ
full_line rows fresh cap = codes "full " ++ decimal rows ++ codes " + " ++ decimal fresh ++ codes " > " ++ decimal cap ++ codes "\n"

abbrev pub pinned_line : List (List ℕ) → NameId → ℕ → List ℕ
pinned_line names name h = codes "pinned " ++ spelling names name ++ codes " #" ++ decimal h ++ codes "\n"

abbrev pub shown_line : List (List ℕ) → NameId → List Node → List ℕ
shown_line names name tree = codes "shown " ++ spelling names name ++ codes " = " ++ text names (record { nodes = tree; roots = 0 ∷ [] }) ++ codes "\n"

abbrev pub dropped_line : List (List ℕ) → NameId → List ℕ
dropped_line names name = codes "dropped " ++ spelling names name ++ codes "\n"

abbrev pub swept_line : ℕ → List ℕ
swept_line gone = codes "swept " ++ decimal gone ++ codes "\n"

abbrev pub rows_line : ℕ → ℕ → List ℕ
rows_line rows pins = codes "rows " ++ decimal rows ++ codes ", pins " ++ decimal pins ++ codes "\n"

-- the last line of all, with what the two closing calls counted
abbrev pub last_line : ℕ → ℕ → ℕ → List ℕ
last_line gone rows pins = codes "swept " ++ decimal gone ++ codes ", rows " ++ decimal rows ++ codes ", pins " ++ decimal pins ++ codes "\n"

-- the line of an ask's answer of this number, over the spellings of the ask's variables
abbrev pub answer_line : List (List ℕ) → ℕ → List NameId → Rooted → ℕ → ℕ → List ℕ
answer_line names number vars c difs frozen = codes "answer " ++ decimal number ++ codes ": " ++ answer_text names c vars difs frozen ++ codes "\n"

-- what a step of an ask tells, with so many answers before it: a step that says nothing writes nothing
abbrev pub told_line : List (List ℕ) → List NameId → ℕ → Stepped → List ℕ
told_line names vars count Went = []
told_line names vars count (Said c) = codes "out " ++ text names c ++ codes "\n"
told_line names vars count (SaidText string) = codes "outm " ++ string_body (spelling names string) ++ codes "\n"
told_line names vars count (Answered a) = answer_line names (count + 1) vars a.canon a.difs a.frozen
told_line names vars count Ended = []

-- the answer that it gives
abbrev pub told_answer : Stepped → Option Rooted
told_answer Went = None
told_answer (Said c) = None
told_answer (SaidText string) = None
told_answer (Answered a) = Some a.canon
told_answer Ended = None

-- the last line of an ask, after so many steps: what it begins with, and the number
abbrev pub ending_codes : Ending → List ℕ
ending_codes End = codes "end "
ending_codes Enough = codes "enough "
ending_codes Stopped = codes "stopped "

abbrev pub ending_line : Ending → ℕ → List ℕ
ending_line ending steps = ending_codes ending ++ decimal steps ++ codes "\n"
