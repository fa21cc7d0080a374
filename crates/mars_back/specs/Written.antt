-- What the text of a canonical graph writes: a term for each reference, and an equation for each definition.
use Rattle.std.specs.Prelude.{◌≡◌, ◌<◌, ◌≤◌, ◌^◌, ◌||◌, ◌&&◌, ◌==◌, ℕ, ℤ, zero, suc, pos, negsuc, List, [], ◌∷◌, Bool, true, false, Option, Some, None, length, map, max}
use Rattle.std.specs.List.{flat_map, range_with_len, list_all}
use Rattle.mars_tree.specs.declared.label.NameId.{NameId}
use Rattle.mars_tree.specs.declared.label.Label.{Label}
use Rattle.mars_tree.specs.declared.label.Label.TheVariants.{Name, Int, Dot, Tup, Str}
use Rattle.mars_tree.specs.Graph.{label_of, kids_of}
use Rattle.mars_tree.specs.Names.{spelling}
use Rattle.mars_canon.specs.Canon.{Rooted}
use Rattle.mars_forms.specs.Table.{is_name}
use Rattle.mars_tokens.specs.declared.limits.TheConstants.{TOKEN_LIMIT, STRING_LIMIT}
use Rattle.mars_tokens.specs.Bytes.{is_letter_byte, is_word_byte, is_plain_byte}
use Rattle.mars_tokens.specs.Words.{word_kind}
use Rattle.mars_clauses.specs.declared.counts.TheConstants.{ARITY_LIMIT}
use Rattle.mars_graphs.specs.Systems.{Side, variable, labelled, Sides, no_sides, next_side, side_row, Equation, EquationSystem}
use Rattle.mars_print.specs.Text.{name_of, kids_shown}

-- which variable a name is, by its number
abbrev pub Naming : Type 0
Naming = ℕ → NameId

-- the number itself
abbrev pub by_number : Naming
by_number number = record { 0 = number }

-- a variable where there is a name, else a term
abbrev pub named_or_side : Naming → Option ℕ → Side → Side
named_or_side naming (Some number) side = variable (naming number)
named_or_side naming None side = side

-- a label over terms; a free leaf always has a name, so its body is never written
abbrev pub body_side_over : Naming → Option Label → List Side → Side
body_side_over naming None sides = variable (naming 0)
body_side_over naming (Some l) sides = labelled l (side_row sides)

-- the term of a reference, down to so many nodes below it
abbrev pub side_to : ℕ → Naming → Rooted → ℕ → Side
side_to zero naming c n = variable (naming 0)
side_to (suc depth) naming c n = named_or_side naming (name_of c n) (body_side_over naming (label_of c.nodes n) (map (side_to depth naming c) (kids_shown c n)))

-- the term of a reference: one node more than there are is deep enough, as for the reference's text
unfoldable pub reference_side : Naming → Rooted → ℕ → Side
reference_side naming c n = side_to (suc (length c.nodes)) naming c n

-- the term of a body
abbrev pub body_side : Naming → Rooted → ℕ → Side
body_side naming c n = body_side_over naming (label_of c.nodes n) (map (reference_side naming c) (kids_of c.nodes n))

-- a node's equation, where it is named and no free leaf
abbrev pub equation_over : Naming → Option ℕ → Option Label → Side → List Equation
equation_over naming None label side = []
equation_over naming (Some number) None side = []
equation_over naming (Some number) (Some label) side = record { variable = naming number; side = side } ∷ []

abbrev pub node_equations : Naming → Rooted → ℕ → List Equation
node_equations naming c n = equation_over naming (name_of c n) (label_of c.nodes n) (body_side naming c n)

-- the equations of the first nodes
abbrev pub equations_up_to : Naming → Rooted → ℕ → List Equation
equations_up_to naming c count = flat_map (node_equations naming c) (range_with_len 0 count)

-- the system that the text of a graph with this root writes
abbrev pub written_system : Naming → Rooted → ℕ → EquationSystem
written_system naming c root = record { side = reference_side naming c root; equations = equations_up_to naming c (length c.nodes) }

-- how many brackets are open at once in the text of a term, at most; the Bool: a dot is written in brackets
abbrev mutual
  pub brackets_open : Bool → Side → ℕ
  brackets_open b (variable x) = 0
  brackets_open b (labelled (Name name arity) no_sides) = 0
  brackets_open b (labelled (Name name arity) (next_side first sides)) = suc (row_brackets (next_side first sides))
  brackets_open b (labelled (Int value) sides) = 0
  brackets_open b (labelled (Str text) sides) = 0
  brackets_open b (labelled (Tup arity) sides) = suc (row_brackets sides)
  brackets_open true (labelled Dot sides) = suc (dot_brackets sides)
  brackets_open false (labelled Dot sides) = dot_brackets sides

  -- likewise in a row of terms
  pub row_brackets : Sides → ℕ
  row_brackets no_sides = 0
  row_brackets (next_side side sides) = max (brackets_open false side) (row_brackets sides)

  -- likewise in both sides of a dot, of which the first may be in brackets
  pub dot_brackets : Sides → ℕ
  dot_brackets no_sides = 0
  dot_brackets (next_side side sides) = max (brackets_open true side) (row_brackets sides)

-- a letter, then letters, digits, `_` and `'`
abbrev pub is_word_text : List ℕ → Bool
is_word_text [] = false
is_word_text (b ∷ rest) = is_letter_byte b && list_all is_word_byte rest

-- a spelling that version 2 takes for a name
pub record IsNameText (text : List ℕ) : Type 0 where
  pub word : is_word_text text ≡ true
  pub name : is_name true (word_kind text) ≡ true
  pub short : length text ≤ TOKEN_LIMIT

-- what a string can mean: bytes that are printed, and line feeds
abbrev pub is_string_byte : ℕ → Bool
is_string_byte b = is_plain_byte b || (b == 34) || (b == 92) || (b == 10)

pub record IsStringMeaning (bytes : List ℕ) : Type 0 where
  pub printed : list_all is_string_byte bytes ≡ true
  pub short : length bytes ≤ STRING_LIMIT

-- an integer of i64
abbrev pub FitsInteger : ℤ → Type 0
FitsInteger (pos n) = n < 2 ^ 63
FitsInteger (negsuc n) = n < 2 ^ 63

-- a label such as a tree can write
abbrev pub IsWritable : List (List ℕ) → Option Label → Type 0
IsWritable names None = Unit {0}
IsWritable names (Some (Name name arity)) = (name.0 < length names) × IsNameText (spelling names name) × (arity ≤ ARITY_LIMIT)
IsWritable names (Some (Int value)) = FitsInteger value
IsWritable names (Some Dot) = Unit {0}
IsWritable names (Some (Tup arity)) = (0 < arity) × (arity ≤ ARITY_LIMIT)
IsWritable names (Some (Str text)) = (text.0 < length names) × IsStringMeaning (spelling names text)
