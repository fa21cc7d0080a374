-- The text of a system in its smallest parts: tokens with the symbols that take them, blanks, and what is told where a symbol is left out.
use Rattle.std.specs.Prelude.{◌+◌, ℕ, List, [], ◌∷◌, ◌++◌, Bool, true, false, Option, Some, None, length, codes}
use Rattle.std.specs.Fmt.{signed_decimal}
use Rattle.mars_tree.specs.declared.label.Label.TheVariants as label
use Rattle.mars_tree.specs.Names.{spelling, with_text, name_number}
use Rattle.mars_grammar.specs.FormTable.{Event, Read, Say}
use Rattle.mars_forms.specs.declared.lexeme.TokenKind.{TokenKind}
use Rattle.mars_forms.specs.declared.lexeme.TokenKind.TheVariants as kind
use Rattle.mars_forms.specs.declared.lexeme.Lexeme.{Lexeme}
use Rattle.mars_forms.specs.declared.symbol.FormSymbol.{FormSymbol}
use Rattle.mars_forms.specs.declared.symbol.FormSymbol.TheVariants as due
use Rattle.mars_forms.specs.declared.symbol.FormAction.{FormAction}
use Rattle.mars_forms.specs.declared.symbol.FormAction.TheVariants as action
use Rattle.mars_tokens.specs.Words.{word_kind}
use Rattle.mars_tokens.specs.Tokens.{lexeme_at}
use Rattle.mars_graphs.specs.declared.maker.Head.TheVariants as head
use Rattle.mars_graphs.specs.Systems.{Side, variable, labelled, Sides, no_sides, next_side, Equation, EquationSystem}
use Rattle.mars_graphs.specs.Steps.{TreeStep, Variable, Leaf, Open, Equate}
use Rattle.mars_scripts.specs.Trees.{action_told, step_before}
use Rattle.mars_print.specs.Text.{name_text, quoted}
use Rattle.mars_back.specs.Written.{Naming}

-- A part: a token of this kind that the symbol takes, with its bytes and the step that it tells; a blank; or a symbol that is left out, which tells an action.
pub data TextPart : Type 0 where
  Token : FormSymbol → TokenKind → List ℕ → Option TreeStep → TextPart
  Blank : TextPart
  Left : FormSymbol → FormAction → TextPart

-- a sign, which tells nothing
abbrev pub sign : FormSymbol → TokenKind → ℕ → TextPart
sign s k byte = Token s k (byte ∷ []) None

-- the symbol that takes the dot after a first side: in a definition it depends on that side
abbrev pub dot_symbol : FormSymbol → Side → FormSymbol
dot_symbol due.DefinedTerm (variable x) = due.OneDot
dot_symbol due.DefinedTerm (labelled label.Dot sides) = due.BracketTail
dot_symbol _ side = due.PutTail

-- the dot
abbrev pub dot_part : FormSymbol → TextPart
dot_part s = Token s kind.Dot (46 ∷ []) (Some (Open head.Dot))

-- the parts of a term, before others; the symbol takes its first token, and the Bool: a dot is written in brackets
abbrev mutual
  pub side_parts : List (List ℕ) → FormSymbol → Bool → Side → List TextPart → List TextPart
  side_parts names s b (variable x) rest = Token s kind.Placed (name_text x.0) (Some (Variable x)) ∷ rest
  side_parts names s b (labelled (label.Name name arity) no_sides) rest = Token s (word_kind (spelling names name)) (spelling names name) (Some (Open (head.Name name))) ∷ Left due.Apply action.Apply ∷ rest
  side_parts names s b (labelled (label.Name name arity) (next_side first sides)) rest =
      Token s (word_kind (spelling names name)) (spelling names name) (Some (Open (head.Name name))) ∷ sign due.PutArguments kind.Open 40
      ∷ side_parts names due.PutTerm false first (row_parts names sides (sign due.OneClose kind.Close 41 ∷ Left due.Apply action.Apply ∷ rest))
  side_parts names s b (labelled (label.Int value) sides) rest = Token s kind.Integer (signed_decimal value) (Some (Leaf (label.Int value))) ∷ rest
  side_parts names s b (labelled (label.Str text) sides) rest = Token s kind.Text (quoted (spelling names text)) (Some (Leaf (label.Str text))) ∷ rest
  side_parts names s b (labelled (label.Tup arity) no_sides) rest = Token s kind.Less (60 ∷ []) (Some (Open head.Tuple)) ∷ sign due.OneGreater kind.Greater 62 ∷ Left due.Apply action.Apply ∷ rest
  side_parts names s b (labelled (label.Tup arity) (next_side first sides)) rest =
      Token s kind.Less (60 ∷ []) (Some (Open head.Tuple)) ∷ side_parts names due.PutTerm false first (row_parts names sides (sign due.OneGreater kind.Greater 62 ∷ Left due.Apply action.Apply ∷ rest))
  side_parts names s true (labelled label.Dot sides) rest = sign s kind.Open 40 ∷ dot_parts names due.PutTerm sides (sign due.OneClose kind.Close 41 ∷ rest)
  side_parts names s false (labelled label.Dot sides) rest = dot_parts names s sides rest

  -- the parts of both sides of a dot
  pub dot_parts : List (List ℕ) → FormSymbol → Sides → List TextPart → List TextPart
  dot_parts names s no_sides rest = rest
  dot_parts names s (next_side first no_sides) rest = rest
  dot_parts names s (next_side first (next_side second sides)) rest =
      side_parts names s true first (dot_part (dot_symbol s first) ∷ side_parts names due.PutTerm false second (Left due.Pair action.Pair ∷ rest))

  -- the parts of further terms, each after a comma
  pub row_parts : List (List ℕ) → Sides → List TextPart → List TextPart
  row_parts names no_sides rest = rest
  row_parts names (next_side side sides) rest = sign due.PutRow kind.Comma 44 ∷ side_parts names due.PutTerm false side (row_parts names sides rest)

-- the parts of an equation
abbrev pub equation_parts : List (List ℕ) → Equation → List TextPart → List TextPart
equation_parts names e rest =
    Token due.Definition kind.Placed (name_text e.variable.0) (Some (Equate e.variable)) ∷ Blank ∷ sign due.OneEquals kind.Equals 61 ∷ Blank
    ∷ side_parts names due.DefinedTerm false e.side (Left due.Define action.Define ∷ rest)

-- further equations, each after a comma and a blank
abbrev pub more_parts : List (List ℕ) → List Equation → List TextPart
more_parts names [] = []
more_parts names (e ∷ equations) = sign due.MoreDefinitions kind.Comma 44 ∷ Blank ∷ equation_parts names e (more_parts names equations)

-- `where` and the equations, if there are any
abbrev pub where_parts : List (List ℕ) → List Equation → List TextPart
where_parts names [] = []
where_parts names (e ∷ equations) = Blank ∷ Token due.Definitions kind.Where (codes "where") None ∷ Blank ∷ equation_parts names e (more_parts names equations)

-- the parts of a system
abbrev pub system_parts : List (List ℕ) → EquationSystem → List TextPart
system_parts names system = side_parts names due.PutTerm false system.side (where_parts names system.equations)

-- the bytes of a part, and of all
abbrev pub part_text : TextPart → List ℕ
part_text (Token s k text step) = text
part_text Blank = 32 ∷ []
part_text (Left s a) = []

abbrev pub parts_text : List TextPart → List ℕ
parts_text [] = []
parts_text (part ∷ parts) = part_text part ++ parts_text parts

-- the tokens of parts, from a place on
abbrev pub part_lexemes : ℕ → List TextPart → List Lexeme
part_lexemes at [] = []
part_lexemes at (Token s k text step ∷ parts) = lexeme_at k at (at + length text) ∷ part_lexemes (at + length text) parts
part_lexemes at (Blank ∷ parts) = part_lexemes (at + 1) parts
part_lexemes at (Left s a ∷ parts) = part_lexemes at parts

-- what they tell
abbrev pub part_events : ℕ → List TextPart → List (Event FormSymbol Lexeme FormAction)
part_events at [] = []
part_events at (Token s k text step ∷ parts) = Read s (lexeme_at k at (at + length text)) ∷ part_events (at + length text) parts
part_events at (Blank ∷ parts) = part_events (at + 1) parts
part_events at (Left s a ∷ parts) = Say a ∷ part_events at parts

-- a step whose variable is that of its number
abbrev pub step_named : Naming → Option TreeStep → Option TreeStep
step_named naming (Some (Variable x)) = Some (Variable (naming x.0))
step_named naming (Some (Equate x)) = Some (Equate (naming x.0))
step_named naming step = step

-- the steps of parts
abbrev pub part_steps : Naming → List TextPart → List TreeStep
part_steps naming [] = []
part_steps naming (Token s k text step ∷ parts) = step_before (step_named naming step) (part_steps naming parts)
part_steps naming (Blank ∷ parts) = part_steps naming parts
part_steps naming (Left s a ∷ parts) = step_before (action_told a) (part_steps naming parts)

-- the spellings of variables after a token that tells this
abbrev pub variables_with : Option TreeStep → List ℕ → List (List ℕ) → List (List ℕ)
variables_with (Some (Variable x)) text vars = with_text text vars
variables_with (Some (Equate x)) text vars = with_text text vars
variables_with _ text vars = vars

abbrev pub variables_after : List TextPart → List (List ℕ) → List (List ℕ)
variables_after [] vars = vars
variables_after (Token s k text step ∷ parts) vars = variables_after parts (variables_with step text vars)
variables_after (Blank ∷ parts) vars = variables_after parts vars
variables_after (Left s a ∷ parts) vars = variables_after parts vars

-- the variable with the number of a name's spelling in a list
abbrev pub named_in : List (List ℕ) → Naming
named_in vars number = record { 0 = name_number (name_text number) vars }
