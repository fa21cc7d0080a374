-- How many tokens, events and names a text has.
use Rattle.std.proofs.Common.{◌≡◌, ◌≢◌, ℕ, ◌+◌, ◌≤◌, ◌*◌, List, [], ◌∷◌, ◌++◌, length, refl, ap, sym, ◌∙◌, subst, Bool, true, false, ◌&&◌, Option, Some, None, arith, length-append, if◌then◌else◌}
use Rattle.std.specs.Prelude.{is_some, nat_le, slice_get}
use Rattle.std.proofs.lemmas.Bool.Decides.{nat_tests}
use Rattle.mars_tree.specs.Names.{place_of}
use Rattle.mars_grammar.specs.FormTable.{Event, Read, Say, said_events, leaves_in, Derives, nothing, taken, left_out}
use Rattle.mars_grammar.specs.Rows.{RowList, rows_at, first_row, form_if}
use Rattle.mars_forms.specs.declared.lexeme.TokenKind.{TokenKind}
use Rattle.mars_forms.specs.declared.lexeme.Lexeme.{Lexeme}
use Rattle.mars_forms.specs.declared.symbol.FormSymbol.{FormSymbol}
use Rattle.mars_forms.specs.declared.symbol.FormSymbol.TheVariants as due
use Rattle.mars_forms.specs.declared.symbol.FormAction.{FormAction}
use Rattle.mars_forms.specs.declared.symbol.FormAction.TheVariants as action
use Rattle.mars_forms.specs.declared.symbol.FormMode.{FormMode}
use Rattle.mars_forms.specs.declared.symbol.Trigger.{Trigger}
use Rattle.mars_forms.specs.Table.{forms, entries, symbol_place, begins}
use Rattle.mars_tokens.specs.declared.lexer.TokenRefusal.{TokenRefusal}
use Rattle.mars_tokens.specs.Tokens.{TokensFrom}
use Rattle.mars_tokens.specs.Tokens as tokens
use Rattle.mars_tokens.specs.declared.pieces.Piece.{Piece}
use Rattle.mars_tokens.specs.Pieces.{IsPiece, IsLongestPiece}
use Rattle.mars_tokens.specs.Refusals.{depth_after}
use Rattle.mars_tokens.proofs.Firsts.{IsFirst, first-is, first-told}
use Rattle.mars_clauses.specs.declared.maker.ValuedToken.{ValuedToken}
use Rattle.mars_graphs.specs.Steps.{TreeStep, Variable, Leaf, Open, Close, Equate, Define}
use Rattle.mars_graphs.specs.MakingLaws.{token_count}
use Rattle.mars_scripts.specs.Trees.{token_told, action_told, step_before, steps_told}
use Rattle.mars_scripts.specs.Sizes.{tokens_in}
use Rattle.mars_read.specs.declared.spellings.TokenRole.{TokenRole}
use Rattle.mars_read.specs.declared.spellings.TokenRole.TheVariants as role
use Rattle.mars_read.specs.Spellings.{Spellings, added_with, meaning_at, role_of, with_token, with_token_as}
use Rattle.mars_read.specs.Spelled.{events_told, spellings_after}
use Rattle.mars_tokens.specs.Tokens.{spelling_at}

-- actions are no tokens
said-tokens : {S T A : Type 0} (as' : List A) (es : List (Event S T A)) → tokens_in (said_events as' ++ es) ≡ tokens_in es
said-tokens [] es = refl
said-tokens (a ∷ as') es = said-tokens as' es

-- as many events are tokens as there are tokens
pub text-tokens : (two : Bool) (m : FormMode) (k : List FormSymbol) (ts : List Lexeme) (es : List (Event FormSymbol Lexeme FormAction)) → Derives (forms two) m k ts es → tokens_in es ≡ length ts
text-tokens two m _ _ _ nothing = refl
text-tokens two m _ _ _ (taken {s} {k} {form} {t} {ts} {es} e d) = omega (arith, text-tokens two ((forms two).pass t.kind m) (form ++ k) ts es d)
text-tokens two m _ _ _ (left_out {s} {k} {ts} {as'} {es} e d) = said-tokens as' es ∙ text-tokens two m k ts es d

-- how many actions are told where symbols are left out
abbrev pub says : FormSymbol → ℕ
says due.Apply = 1
says due.Pair = 1
says due.Head = 1
says due.Call = 1
says due.Define = 1
says _ = 0

abbrev pub all_say : List FormSymbol → ℕ
all_say [] = 0
all_say (s ∷ k) = says s + all_say k

all-say : (form k : List FormSymbol) → all_say (form ++ k) ≡ all_say form + all_say k
all-say [] k = omega arith
all-say (s ∷ form) k = omega (arith, all-say form k)

abbrev left_count : Option (List FormAction) → ℕ
left_count None = 0
left_count (Some as') = length as'

left-says : (two : Bool) (s : FormSymbol) → left_count ((forms two).leaves s) ≡ says s
left-says false = elim [ due.Input ↦ refl | _ ↦ refl ]
left-says true = elim [ due.Input ↦ refl | _ ↦ refl ]

pub left-free : (two : Bool) (m : FormMode) (s : FormSymbol) (as' : List FormAction) (b : Bool) → (forms two).stays m s ≡ b → leaves_in (forms two) m s ≡ Some as' → (forms two).leaves s ≡ Some as'
left-free two m s as' true is e = absurd (let none : None ≡ Some as' = rw is at e in cc)
left-free two m s as' false is e = rw is at e

-- a token brings at most one action
-- what holds of the form of each row holds of each form that is due
abbrev pub all_rows : {O S : Type 0} → (List S → Bool) → RowList O S → Bool
all_rows p [] = true
all_rows p (r ∷ rows) = p r.1 && all_rows p rows

and-first : (a b : Bool) → a && b ≡ true → a ≡ true
and-first true b e = refl
and-first false b e = cc

and-second : (a b : Bool) → a && b ≡ true → b ≡ true
and-second true b e = e
and-second false b e = cc

form-by : {S : Type 0} (p : List S → Bool) (b : Bool) (form other : List S) (later : Option (List S)) → p form ≡ true → (later ≡ Some other → p other ≡ true) → form_if b form later ≡ Some other → p other ≡ true
form-by p true form other later is more e = let same : form ≡ other = cc in subst (λ f. p f ≡ true) same is
form-by p false form other later is more e = more e

pub row-holds : {O S : Type 0} (p : List S → Bool) (fires : O → Bool) (rows : RowList O S) (form : List S) → all_rows p rows ≡ true → first_row fires rows ≡ Some form → p form ≡ true
row-holds p fires [] form is e = cc
row-holds p fires (r ∷ rows) form is e = form-by p (fires r.0) r.1 form (first_row fires rows) (and-first (p r.1) _ is) (λ f. row-holds p fires rows form (and-second (p r.1) _ is) f) e

abbrev pub rows_of : FormSymbol → RowList Trigger FormSymbol
rows_of s = rows_at (slice_get entries (symbol_place s))

abbrev few_say : List FormSymbol → Bool
few_say form = nat_le (all_say form) 1

rows-few : (s : FormSymbol) → all_rows few_say (rows_of s) ≡ true
rows-few = elim [ due.Input ↦ refl | _ ↦ refl ]

is-few : (n : ℕ) → nat_le n 1 ≡ true → n ≤ 1
is-few n e = grind (arith, nat_tests)

form-few : (two : Bool) (s : FormSymbol) (k : TokenKind) (form : List FormSymbol) → (forms two).takes s k ≡ Some form → all_say form ≤ 1
form-few two s k form e = is-few (all_say form) (row-holds few_say (λ tr. begins two tr k) (rows_of s) form (rows-few s) e)

said-length : {S T A : Type 0} (as' : List A) (es : List (Event S T A)) → length (said_events as' ++ es) ≡ length as' + length es
said-length [] es = omega arith
said-length (a ∷ as') es = omega (arith, said-length as' es)

-- at most two events a token, and one for each symbol that is told where it is left out
pub text-events : (two : Bool) (m : FormMode) (k : List FormSymbol) (ts : List Lexeme) (es : List (Event FormSymbol Lexeme FormAction)) → Derives (forms two) m k ts es → length es ≤ 2 * length ts + all_say k
text-events two m _ _ _ nothing = omega arith
text-events two m _ _ _ (taken {s} {k} {form} {t} {ts} {es} e d) =
    omega (arith, text-events two ((forms two).pass t.kind m) (form ++ k) ts es d, all-say form k, form-few two s t.kind form e)
text-events two m _ _ _ (left_out {s} {k} {ts} {as'} {es} e d) =
    omega (
      arith,
      text-events two m k ts es d,
      said-length {S = FormSymbol} {T = Lexeme} as' es,
      sym (ap left_count (left-free two m s as' ((forms two).stays m s) refl e)) ∙ left-says two s,
    )

-- each token has a byte
some-byte : (two : Bool) (text rest : List ℕ) (p : Piece) → IsPiece two text p → IsLongestPiece two text rest → 1 ≤ length text
some-byte two text rest p is longest = let first : IsFirst two (text ++ rest) p (length text) = first-is two (text ++ rest) p (length text) (first-told two text rest p is longest) in omega (arith, first.some)

some-bytes : (bytes : List ℕ) → bytes ≢ [] → 1 ≤ length bytes
some-bytes [] some = absurd (some refl)
some-bytes (b ∷ bytes) some = omega arith

pub tokens-within : (two : Bool) (at depth : ℕ) (bytes : List ℕ) (ts : List Lexeme) (o : Option TokenRefusal) → TokensFrom two at depth bytes ts o → length ts ≤ length bytes
tokens-within two _ _ _ _ _ (tokens.ended at depth) = omega arith
tokens-within two _ _ _ _ _ (tokens.skipped at depth text rest ts o p l t) = omega (arith, tokens-within two (at + length text) depth rest ts o t, length-append text rest)
tokens-within two _ _ _ _ _ (tokens.taken at depth text rest k ts o p l w t) =
    omega (arith, tokens-within two (at + length text) (depth_after depth k) rest ts o t, length-append text rest, some-byte two text rest _ p l)
tokens-within two _ _ _ _ _ (tokens.over at depth text rest k s p l w) = omega (arith, length-append text rest, some-byte two text rest _ p l)
tokens-within two _ _ _ _ _ (tokens.bad at depth bytes some none) = some-bytes bytes some

-- each token adds at most a name
with-one : (text : List ℕ) (known added : List (List ℕ)) → length (added_with text known added) ≤ length added + 1
with-one text known added = at (is_some (place_of text (known ++ added)))
  where
    at : (b : Bool) → length (if b then added else added ++ text ∷ []) ≤ length added + 1
    at true = omega arith
    at false = omega (arith, length-append added (text ∷ []))

role-adds : (r : TokenRole) (t : Lexeme) (v : Spellings) → length (with_token_as r t v).added ≤ length v.added + 1
role-adds role.Sign t v = omega arith
role-adds role.Name t v = with-one (spelling_at v.text t) v.known v.added
role-adds role.Variable t v = omega arith
role-adds role.Integer t v = omega arith
role-adds role.Text t v = with-one (meaning_at t v) v.known v.added

pub names-within : (es : List (Event FormSymbol Lexeme FormAction)) (v : Spellings) → length (spellings_after v es).added ≤ length v.added + tokens_in es
names-within [] v = omega arith
names-within (Read s t ∷ es) v = omega (arith, names-within es (with_token s t v), role-adds (role_of s t.kind) t v)
names-within (Say a ∷ es) v = names-within es v

-- a maker is told as many events
pub told-tokens : (es : List (Event FormSymbol Lexeme FormAction)) (v : Spellings) → tokens_in (events_told v es) ≡ tokens_in es
told-tokens [] v = refl
told-tokens (Read s t ∷ es) v = omega (arith, told-tokens es (with_token s t v))
told-tokens (Say a ∷ es) v = told-tokens es v

pub told-length : (es : List (Event FormSymbol Lexeme FormAction)) (v : Spellings) → length (events_told v es) ≡ length es
told-length [] v = refl
told-length (Read s t ∷ es) v = omega (arith, told-length es (with_token s t v))
told-length (Say a ∷ es) v = omega (arith, told-length es v)

-- each token tells at most a step of a tree
step-more : (step : TreeStep) (steps : List TreeStep) → token_count (step ∷ steps) ≤ token_count steps + 1
step-more (Variable x) steps = omega arith
step-more (Leaf l) steps = omega arith
step-more (Open h) steps = omega arith
step-more Close steps = omega arith
step-more (Equate x) steps = omega arith
step-more Define steps = omega arith

before-more : (o : Option TreeStep) (steps : List TreeStep) → token_count (step_before o steps) ≤ token_count steps + 1
before-more None steps = omega arith
before-more (Some step) steps = step-more step steps

action-more : (a : FormAction) (steps : List TreeStep) → token_count (step_before (action_told a) steps) ≡ token_count steps
action-more action.Apply steps = refl
action-more action.Pair steps = refl
action-more action.Define steps = refl
action-more action.Head steps = refl
action-more action.Call steps = refl

pub steps-within : (es : List (Event FormSymbol ValuedToken FormAction)) → token_count (steps_told es) ≤ tokens_in es
steps-within [] = omega arith
steps-within (Read s t ∷ es) = omega (arith, steps-within es, before-more (token_told s t) (steps_told es))
steps-within (Say a ∷ es) = omega (arith, steps-within es, action-more a (steps_told es))
