-- What a maker is told of a text's events, and what becomes of the spellings.
use Rattle.std.proofs.Common.{◌≡◌, List, [], ◌∷◌, ◌++◌, refl, ap, ◌∙◌}
use Rattle.mars_grammar.specs.FormTable.{Event, Read, Say, said_events}
use Rattle.mars_grammar.specs.Building.{Build, performs}
use Rattle.mars_forms.specs.declared.lexeme.Lexeme.{Lexeme}
use Rattle.mars_forms.specs.declared.symbol.FormSymbol.{FormSymbol}
use Rattle.mars_forms.specs.declared.symbol.FormAction.{FormAction}
use Rattle.mars_clauses.specs.declared.maker.ValuedToken.{ValuedToken}
use Rattle.mars_read.specs.declared.spellings.TokenRole.{TokenRole}
use Rattle.mars_read.specs.declared.spellings.TokenRole.TheVariants as role
use Rattle.mars_read.specs.Spellings.{Spellings, all_names, with_texts, meaning_at, meaning_as, meaning_of, role_of, with_token, with_token_as}
use Rattle.mars_read.specs.Spelled.{spelled_out, events_told, spellings_after}
use Rattle.mars_tokens.specs.Tokens.{spelling_at}
use Rattle.mars_read.proofs.NameFacts.{new-with}

-- what is made is what is made of the meanings
pub told-performs : {V L : Type 0} (B : Build (Event FormSymbol ValuedToken FormAction) V L) (es : List (Event FormSymbol Lexeme FormAction)) (v : Spellings × V) →
    performs (spelled_out B) es v ≡ (spellings_after v.0 es, performs B (events_told v.0 es) v.1)
told-performs B [] v = refl
told-performs B (Read s t ∷ es) v = told-performs B es (with_token s t v.0, B.perform (Read s (meaning_of s t v.0)) v.1)
told-performs B (Say a ∷ es) v = told-performs B es (v.0, B.perform (Say a) v.1)

-- the names that were there stay
known-as : (r : TokenRole) (t : Lexeme) (v : Spellings) → (with_token_as r t v).known ≡ v.known
known-as role.Sign t v = refl
known-as role.Name t v = refl
known-as role.Variable t v = refl
known-as role.Integer t v = refl
known-as role.Text t v = refl

pub known-after : (es : List (Event FormSymbol Lexeme FormAction)) (v : Spellings) → (spellings_after v es).known ≡ v.known
known-after [] v = refl
known-after (Read s t ∷ es) v = known-after es (with_token s t v) ∙ known-as (role_of s t.kind) t v
known-after (Say a ∷ es) v = known-after es v

-- the names that are added are new
new-as : (r : TokenRole) (t : Lexeme) (v : Spellings) → with_texts v.known v.added ≡ all_names v → with_texts (with_token_as r t v).known (with_token_as r t v).added ≡ all_names (with_token_as r t v)
new-as role.Sign t v e = e
new-as role.Name t v e = new-with (spelling_at v.text t) v.known v.added e
new-as role.Variable t v e = e
new-as role.Integer t v e = e
new-as role.Text t v e = new-with (meaning_at t v) v.known v.added e

pub new-after : (es : List (Event FormSymbol Lexeme FormAction)) (v : Spellings) → with_texts v.known v.added ≡ all_names v → with_texts (spellings_after v es).known (spellings_after v es).added ≡ all_names (spellings_after v es)
new-after [] v e = e
new-after (Read s t ∷ es) v e = new-after es (with_token s t v) (new-as (role_of s t.kind) t v e)
new-after (Say a ∷ es) v e = new-after es v e

-- actions are told as they are
pub told-said : (as' : List FormAction) (es : List (Event FormSymbol Lexeme FormAction)) (v : Spellings) → events_told v (said_events as' ++ es) ≡ said_events as' ++ events_told v es
told-said [] es v = refl
told-said (a ∷ as') es v = ap (λ (l : List (Event FormSymbol ValuedToken FormAction)). Say a ∷ l) (told-said as' es v)

-- a token's kind stays
pub same-kind : (r : TokenRole) (t : Lexeme) (v : Spellings) → (meaning_as r t v).kind ≡ t.kind
same-kind role.Sign t v = refl
same-kind role.Name t v = refl
same-kind role.Variable t v = refl
same-kind role.Integer t v = refl
same-kind role.Text t v = refl
