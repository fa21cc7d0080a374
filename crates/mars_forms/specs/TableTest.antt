-- The grammar of each version is LL(1), and each beginning of a text can be ended.
use Rattle.std.specs.Prelude.{refl, ℕ, List, [], ◌∷◌, Bool, true, false, map}
use denote.Enum.Declared.{tag_of}
use Rattle.mars_grammar.specs.Testing.{Listing, Test, test_of, Passes}
use Rattle.mars_forms.specs.declared.lexeme.TokenKind.{TokenKind}
use Rattle.mars_forms.specs.declared.lexeme.TokenKind.TheVariants as kind
use Rattle.mars_forms.specs.declared.lexeme.Lexeme.{Lexeme}
use Rattle.mars_forms.specs.declared.symbol.FormSymbol.{FormSymbol}
use Rattle.mars_forms.specs.declared.symbol.FormSymbol.TheVariants as due
use Rattle.mars_forms.specs.declared.symbol.FormMode.{FormMode}
use Rattle.mars_forms.specs.declared.symbol.FormMode.TheVariants as mode
use Rattle.mars_forms.specs.contracts.symbol.FormMode as mode_type
use Rattle.mars_forms.specs.Table.{symbol_place, kind_place, entries, forms}

-- the place of a mode in the list of modes
abbrev pub mode_place : FormMode → ℕ
mode_place m = tag_of mode_type.the_type m

-- all kinds of tokens, in their order
abbrev pub all_kinds : List TokenKind
all_kinds = kind.Rules ∷ kind.Session ∷ kind.End ∷ kind.Where ∷ kind.RulesTwo ∷ kind.Local ∷ kind.Begin
    ∷ kind.PutWord ∷ kind.AskWord ∷ kind.KeepWord ∷ kind.SameWord ∷ kind.PinWord ∷ kind.ShowWord ∷ kind.DropWord ∷ kind.SweepWord ∷ kind.CountWord
    ∷ kind.Identifier ∷ kind.Variable ∷ kind.OddWord ∷ kind.Placed ∷ kind.Integer ∷ kind.Text
    ∷ kind.Arrow ∷ kind.Open ∷ kind.Close ∷ kind.Less ∷ kind.Greater ∷ kind.Comma ∷ kind.Dot ∷ kind.Semicolon ∷ kind.Slash ∷ kind.Equals ∷ kind.Hash
    ∷ kind.Refused ∷ []

-- a token of each kind
abbrev pub lexeme_of : TokenKind → Lexeme
lexeme_of k = record { kind = k; start = 0; end = 0 }

-- what the test is computed from
abbrev pub listing : Listing FormSymbol TokenKind Lexeme FormMode
listing = record {
  symbols = map (λ e. e.symbol) entries;
  symbol_place = symbol_place;
  kinds = all_kinds;
  kind_place = kind_place;
  modes = mode.Fresh ∷ mode.Alone ∷ mode.Free ∷ [];
  mode_place = mode_place;
  sample = lexeme_of;
  rounds = 8;
}

-- the computed test
abbrev pub forms_test : Bool → Test FormSymbol TokenKind Lexeme FormMode
forms_test two = test_of (forms two) listing

-- the test of both versions
pub passes : (two : Bool) → Passes (forms two) (forms_test two)
passes false = record {
  all_symbols = elim [ due.Input ↦ refl | _ ↦ refl ];
  all_kinds = elim [ kind.Rules ↦ refl | _ ↦ refl ];
  all_modes = elim [ mode.Fresh ↦ refl | _ ↦ refl ];
  forms = refl;
  barred = refl;
  ended = refl;
}
passes true = record {
  all_symbols = elim [ due.Input ↦ refl | _ ↦ refl ];
  all_kinds = elim [ kind.Rules ↦ refl | _ ↦ refl ];
  all_modes = elim [ mode.Fresh ↦ refl | _ ↦ refl ];
  forms = refl;
  barred = refl;
  ended = refl;
}
