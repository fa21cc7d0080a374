-- What a maker is told of the events of a text: each token with its meaning.
use Rattle.std.specs.Prelude.{List, [], ◌∷◌}
use Rattle.mars_grammar.specs.FormTable.{Event, Read, Say}
use Rattle.mars_grammar.specs.Building.{Build}
use Rattle.mars_forms.specs.declared.lexeme.Lexeme.{Lexeme}
use Rattle.mars_forms.specs.declared.symbol.FormSymbol.{FormSymbol}
use Rattle.mars_forms.specs.declared.symbol.FormAction.{FormAction}
use Rattle.mars_clauses.specs.declared.maker.ValuedToken.{ValuedToken}
use Rattle.mars_read.specs.Spellings.{Spellings, meaning_of, with_token}

-- an event is told with the token's meaning
abbrev pub spelled_event : {V L : Type 0} → Build (Event FormSymbol ValuedToken FormAction) V L → Event FormSymbol Lexeme FormAction → (Spellings × V) → (Spellings × V)
spelled_event B (Read s t) v = (with_token s t v.0, B.perform (Read s (meaning_of s t v.0)) v.1)
spelled_event B (Say a) v = (v.0, B.perform (Say a) v.1)

-- What is made of a text: its names and variables, and what a maker makes of its tokens' meanings.
abbrev pub spelled_out : {V L : Type 0} → Build (Event FormSymbol ValuedToken FormAction) V L → Build (Event FormSymbol Lexeme FormAction) (Spellings × V) L
spelled_out B = record { perform = spelled_event B; refuses = λ v. B.refuses v.1 }

-- the events of a text with the meanings of its tokens
abbrev pub events_told : Spellings → List (Event FormSymbol Lexeme FormAction) → List (Event FormSymbol ValuedToken FormAction)
events_told v [] = []
events_told v (Read s t ∷ es) = Read s (meaning_of s t v) ∷ events_told (with_token s t v) es
events_told v (Say a ∷ es) = Say a ∷ events_told v es

-- the spellings after these events
abbrev pub spellings_after : Spellings → List (Event FormSymbol Lexeme FormAction) → Spellings
spellings_after v [] = v
spellings_after v (Read s t ∷ es) = spellings_after (with_token s t v) es
spellings_after v (Say a ∷ es) = spellings_after v es
