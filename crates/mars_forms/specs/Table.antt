-- The grammar of inputs, trees and goals. The rows are those of the constant FORMS.
use Rattle.std.specs.Prelude.{ℕ, List, Bool, true, false, ◌==◌, ◌&&◌, not, slice_get}
use denote.Enum.Declared.{tag_of}
use Rattle.mars_grammar.specs.FormTable.{FormTable}
use Rattle.mars_grammar.specs.Rows.{FormEntry, constant_entries, rows_at, leaves_at, first_row}
use Rattle.mars_forms.specs.declared.lexeme.TokenKind.{TokenKind}
use Rattle.mars_forms.specs.declared.lexeme.TokenKind.TheVariants as kind
use Rattle.mars_forms.specs.declared.lexeme.Lexeme.{Lexeme}
use Rattle.mars_forms.specs.declared.symbol.FormSymbol.{FormSymbol}
use Rattle.mars_forms.specs.declared.symbol.FormSymbol.TheVariants as due
use Rattle.mars_forms.specs.declared.symbol.FormAction.{FormAction}
use Rattle.mars_forms.specs.declared.symbol.FormMode.{FormMode}
use Rattle.mars_forms.specs.declared.symbol.FormMode.TheVariants as mode
use Rattle.mars_forms.specs.declared.symbol.Trigger.{Trigger}
use Rattle.mars_forms.specs.declared.symbol.Trigger.TheVariants as trigger
use Rattle.mars_forms.specs.declared.table.TheConstants.{FORMS}
use Rattle.mars_forms.specs.contracts.symbol.FormSymbol as symbol_type
use Rattle.mars_forms.specs.contracts.lexeme.TokenKind as kind_type

-- the place of a symbol in the table, and of a kind of token in the list of kinds
abbrev pub symbol_place : FormSymbol → ℕ
symbol_place s = tag_of symbol_type.the_type s

abbrev pub kind_place : TokenKind → ℕ
kind_place k = tag_of kind_type.the_type k

-- an identifier that isn't reserved in the version
abbrev pub is_name : Bool → TokenKind → Bool
is_name two kind.Identifier = true
is_name two kind.PutWord = true
is_name two kind.AskWord = true
is_name two kind.KeepWord = true
is_name two kind.SameWord = true
is_name two kind.PinWord = true
is_name two kind.ShowWord = true
is_name two kind.DropWord = true
is_name two kind.SweepWord = true
is_name two kind.CountWord = true
is_name two kind.RulesTwo = not two
is_name two kind.Local = not two
is_name two kind.Begin = not two
is_name two _ = false

-- a row begins with a token of this kind
abbrev pub begins : Bool → Trigger → TokenKind → Bool
begins two (trigger.Is wanted) k = kind_place k == kind_place wanted
begins two (trigger.InOne wanted) k = not two && (kind_place k == kind_place wanted)
begins two (trigger.InTwo wanted) k = two && (kind_place k == kind_place wanted)
begins two trigger.Name k = is_name two k

-- the whole grammar, an entry a symbol, in the order of the symbols
abbrev pub entries : List (FormEntry FormSymbol Trigger FormAction)
entries = constant_entries FORMS

-- what has been read of the right side of a definition, after one more token
abbrev pub pass : TokenKind → FormMode → FormMode
pass kind.Equals m = mode.Fresh
pass kind.Open mode.Fresh = mode.Fresh
pass kind.Variable mode.Fresh = mode.Alone
pass kind.Placed mode.Fresh = mode.Alone
pass kind.Close mode.Alone = mode.Alone
pass _ _ = mode.Free

-- after a variable alone a definition must go on
abbrev pub stays : FormMode → FormSymbol → Bool
stays mode.Alone due.BracketTail = true
stays _ _ = false

-- the table of a version, over these entries
abbrev pub forms_with : List (FormEntry FormSymbol Trigger FormAction) → Bool → FormTable FormSymbol TokenKind Lexeme FormAction FormMode
forms_with es two = record {
  kind = λ t. t.kind;
  takes = λ s k. first_row (λ trigger. begins two trigger k) (rows_at (slice_get es (symbol_place s)));
  leaves = λ s. leaves_at (slice_get es (symbol_place s));
  free = mode.Free;
  pass = pass;
  stays = stays;
}

-- The grammar of version 2, or of version 1.
abbrev pub forms : Bool → FormTable FormSymbol TokenKind Lexeme FormAction FormMode
forms two = forms_with entries two
