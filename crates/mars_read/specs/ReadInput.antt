-- What reading the text of an input gives.
use Rattle.std.specs.Prelude.{◌≡◌, ◌≤◌, ℕ, List, length, map, Bool, false}
use Rattle.mars_grammar.specs.declared.Which.{Which}
use Rattle.mars_grammar.specs.FormTable.{Event, Derives}
use Rattle.mars_grammar.specs.Building.{Build, both, performs}
use Rattle.mars_tree.specs.Names.{built_in_names}
use Rattle.mars_forms.specs.declared.lexeme.Lexeme.{Lexeme}
use Rattle.mars_forms.specs.declared.symbol.FormSymbol.{FormSymbol}
use Rattle.mars_forms.specs.declared.symbol.FormAction.{FormAction}
use Rattle.mars_forms.specs.declared.symbol.FormMode.{FormMode}
use Rattle.mars_forms.specs.Table.{forms}
use Rattle.mars_forms.specs.declared.table.TheConstants.{INPUT, TREE}
use Rattle.mars_tokens.specs.Tokens.{IsOfVersion}
use Rattle.mars_clauses.specs.declared.counts.InputCounts.{InputCounts}
use Rattle.mars_clauses.specs.declared.limits.OverLimit.{OverLimit}
use Rattle.mars_clauses.specs.Limits.{counting, nothing_counted}
use Rattle.mars_script.specs.declared.script.Input.{Input}
use Rattle.mars_scripts.specs.Scripts.{Scripts, scripts_making, nothing_told, input_told, put_told}
use Rattle.mars_scripts.specs.Sizes.{nodes_of_command}
use Rattle.mars_graphs.specs.Making.{nothing_made}
use Rattle.mars_scripts.specs.Told.{scripts_of}
use Rattle.mars_read.specs.declared.error.ReadError.{ReadError}
use Rattle.mars_read.specs.declared.inputs.InputParts.{InputParts}
use Rattle.mars_read.specs.Spellings.{Spellings, spellings_from, all_names}
use Rattle.mars_read.specs.Spelled.{spelled_out, events_told}
use Rattle.mars_read.specs.Refused.{IsReadAs, IsRefusedAs, either_limit}

-- what is made of the text of an input: names, counts, and what is told
abbrev pub InputValue : Type 0
InputValue = Spellings × (InputCounts × Scripts)

abbrev pub input_building : Build (Event FormSymbol Lexeme FormAction) InputValue (Which OverLimit OverLimit)
input_building = spelled_out (both counting scripts_making)

-- the beginning of it: an input has names of its own, the built-in ones at first
abbrev pub input_begins : List ℕ → InputValue
input_begins bytes = (spellings_from bytes built_in_names, (nothing_counted false, nothing_told))

-- the text is read as an input of version 2, or of version 1, and this is made of it
abbrev pub IsInputText : Bool → List ℕ → InputValue → Type 0
IsInputText two bytes w = IsReadAs two INPUT.now input_building (input_begins bytes) bytes w

-- the text is refused so, as an input of version 2, or of version 1
pub record IsNoInputText (two : Bool) (bytes : List ℕ) (e : ReadError) : Type 0 where
  pub refused : IsRefusedAs two INPUT.now input_building (input_begins bytes) bytes either_limit e

-- the input that a text says as one of version 2, or of version 1
pub record IsInputOf (two : Bool) (bytes : List ℕ) (input : Input) : Type 0 where
  pub value : InputValue
  pub read : IsInputText two bytes value
  pub input_is : input ≡ input_told (all_names value.0) value.1.1

-- A text of an input, and the input that it says: that of the text's version.
pub record IsReadInput (bytes : List ℕ) (input : Input) : Type 0 where
  pub two : Bool
  pub version : IsOfVersion two bytes
  pub value : InputValue
  pub read : IsInputText two bytes value
  pub input_is : input ≡ input_told (all_names value.0) value.1.1

-- The text is refused so, as an input of its version.
pub record IsNoInput (bytes : List ℕ) (e : ReadError) : Type 0 where
  pub two : Bool
  pub version : IsOfVersion two bytes
  pub refused : IsNoInputText two bytes e

-- the code's parts of what is made
pub record HasInputParts (two : Bool) (bytes : List ℕ) (parts : InputParts) : Type 0 where
  pub value : InputValue
  pub read : IsInputText two bytes value
  pub added : map (λ text. text.items) parts.added.keys ≡ value.0.added
  pub told : scripts_of parts.scripts ≡ value.1.1

-- Whatever was told before a tree is read: the command that puts it has a graph of at most a node for each token of the tree.
abbrev pub PutsAreSmall : Type 0
PutsAreSmall =
    (two : Bool) (m : FormMode) (tokens : List Lexeme) (events : List (Event FormSymbol Lexeme FormAction)) → Derives (forms two) m TREE.now tokens events →
    (v : Spellings) (told : Scripts) → told.tree.graph ≡ nothing_made → nodes_of_command (put_told (performs scripts_making (events_told v events) told)) ≤ length tokens
