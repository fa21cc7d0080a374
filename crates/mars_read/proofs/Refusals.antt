-- A refusal of the machine is the text's, and a text that is read has no refusal of its tokens.
use Rattle.std.proofs.Common.{◌≡◌, ℕ, ◌+◌, List, ◌++◌, length, refl, ap, sym, ◌∙◌, subst, Bool, true, false, ◌||◌, Option, Some, None}
use Rattle.std.proofs.lemmas.Bool.{true≢false}
use Rattle.std.specs.List.{list_any}
use Rattle.mars_grammar.specs.declared.Refusal.{Refusal}
use Rattle.mars_grammar.specs.declared.Refusal.TheVariants as refusal
use Rattle.mars_grammar.specs.FormTable.{Event, Derives, nothing, taken, left_out}
use Rattle.mars_grammar.specs.Building.{Build, Syntax, Over}
use Rattle.mars_grammar.specs.Refusing.{IsRefused}
use Rattle.mars_forms.specs.declared.lexeme.TokenKind.{TokenKind}
use Rattle.mars_forms.specs.declared.lexeme.TokenKind.TheVariants as kind
use Rattle.mars_forms.specs.declared.lexeme.Lexeme.{Lexeme}
use Rattle.mars_forms.specs.declared.symbol.FormSymbol.{FormSymbol}
use Rattle.mars_forms.specs.declared.symbol.FormSymbol.TheVariants as due
use Rattle.mars_forms.specs.declared.symbol.FormAction.{FormAction}
use Rattle.mars_forms.specs.declared.symbol.FormMode.{FormMode}
use Rattle.mars_forms.specs.Table.{forms}
use Rattle.mars_tokens.specs.declared.lexer.TokenRefusal.{TokenRefusal}
use Rattle.mars_tokens.specs.Tokens.{IsTokenList, TokensFrom}
use Rattle.mars_tokens.specs.Tokens as tokens
use Rattle.mars_tokens.specs.Refusals.{depth_after}
use Rattle.mars_clauses.specs.declared.limits.OverLimit.{OverLimit}
use Rattle.mars_read.specs.declared.error.ReadError.{ReadError}
use Rattle.mars_read.specs.declared.error.ReadError.TheVariants as error
use Rattle.mars_read.specs.Refused.{is_too_long, text_error, RefusesBy, IsRefusedAs, IsLongRefusal}

module _ {V L : Type 0} (two : Bool) (start : List FormSymbol) (B : Build (Event FormSymbol Lexeme FormAction) V L) (v : V) (bytes : List ℕ) (over : L → OverLimit) where
  unless : (e : ReadError) → RefusesBy two start B v bytes (is_too_long bytes) over e → IsRefusedAs two start B v bytes over e
  unless (error.BadByte at) p = p
  unless (error.Syntax at) p = p
  unless (error.Limit what at) p = p
  unless (error.Builtin at) p = p
  unless (error.Twice at) p = p
  unless error.NoMemory p = tt

  pub long-refuses : (e : ReadError) → IsLongRefusal bytes e → IsRefusedAs two start B v bytes over e
  long-refuses (error.BadByte at) p = subst (λ (b : Bool). RefusesBy two start B v bytes b over (error.BadByte at)) (sym p.0) p.1
  long-refuses (error.Syntax at) p = subst (λ (b : Bool). RefusesBy two start B v bytes b over (error.Syntax at)) (sym p.0) p.1
  long-refuses (error.Limit what at) p = subst (λ (b : Bool). RefusesBy two start B v bytes b over (error.Limit what at)) (sym p.0) p.1
  long-refuses (error.Builtin at) p = subst (λ (b : Bool). RefusesBy two start B v bytes b over (error.Builtin at)) (sym p.0) p.1
  long-refuses (error.Twice at) p = subst (λ (b : Bool). RefusesBy two start B v bytes b over (error.Twice at)) (sym p.0) p.1
  long-refuses error.NoMemory p = tt

  pub machine-refuses : (lexemes : List Lexeme) (r : Option TokenRefusal) (x : Refusal L) (e : ReadError) → is_too_long bytes ≡ false → IsTokenList two bytes lexemes r → IsRefused (forms two) B start v lexemes x →
      e ≡ text_error over x lexemes r (length bytes) → IsRefusedAs two start B v bytes over e
  machine-refuses lexemes r (refusal.Syntax left) e short t first is =
      unless e (subst (λ (b : Bool). RefusesBy two start B v bytes b over e) (sym short) (record { lexemes = lexemes; refusal = r; tokens = t; fault = Syntax left; first = first; is = is }))
  machine-refuses lexemes r (refusal.Limit l left) e short t first is =
      unless e (subst (λ (b : Bool). RefusesBy two start B v bytes b over e) (sym short) (record { lexemes = lexemes; refusal = r; tokens = t; fault = Over l left; first = first; is = is }))
  machine-refuses lexemes r refusal.NoMemory e short t first is = subst (λ (x : ReadError). IsRefusedAs two start B v bytes over x) (sym is) tt

-- the token of a refusal
abbrev is_refused : TokenKind → Bool
is_refused kind.Refused = true
is_refused _ = false

-- no form takes it
none-takes : (two : Bool) (s : FormSymbol) → (forms two).takes s kind.Refused ≡ None
none-takes false = elim [ due.Input ↦ refl | _ ↦ refl ]
none-takes true = elim [ due.Input ↦ refl | _ ↦ refl ]

not-taken : (two : Bool) (s : FormSymbol) (form : List FormSymbol) → (forms two).takes s kind.Refused ≡ Some form → ⊥
not-taken two s form e = absurd (let none : None ≡ Some form = sym (none-takes two s) ∙ e in cc)

taken-kind : (two : Bool) (s : FormSymbol) (form : List FormSymbol) (k : TokenKind) → (forms two).takes s k ≡ Some form → is_refused k ≡ false
taken-kind two s form kind.Refused e = absurd (not-taken two s form e)
taken-kind two s form _ e = refl

pub none-refused : (two : Bool) (m : FormMode) (k : List FormSymbol) (ts : List Lexeme) (es : List (Event FormSymbol Lexeme FormAction)) → Derives (forms two) m k ts es → list_any (λ t. is_refused t.kind) ts ≡ false
none-refused two m _ _ _ nothing = refl
none-refused two m _ _ _ (taken {s} {k} {form} {t} {ts} {es} e d) =
    ap (λ b. b || list_any (λ t. is_refused t.kind) ts) (taken-kind two s form t.kind e) ∙ none-refused two ((forms two).pass t.kind m) (form ++ k) ts es d
none-refused two m _ _ _ (left_out {s} {k} {ts} {as'} {es} e d) = none-refused two m k ts es d

or-true : (b c : Bool) → c ≡ true → (b || c) ≡ true
or-true true c e = refl
or-true false c e = e

pub some-refused : (two : Bool) (at depth : ℕ) (bytes : List ℕ) (ts : List Lexeme) (o : Option TokenRefusal) (r : TokenRefusal) → TokensFrom two at depth bytes ts o → o ≡ Some r → list_any (λ t. is_refused t.kind) ts ≡ true
some-refused two _ _ _ _ _ r (tokens.ended at depth) e = absurd cc
some-refused two _ _ _ _ _ r (tokens.skipped at depth text rest ts o p l t) e = some-refused two (at + length text) depth rest ts o r t e
some-refused two _ _ _ _ _ r (tokens.taken at depth text rest k ts o p l w t) e =
    or-true (is_refused k) (list_any (λ t. is_refused t.kind) ts) (some-refused two (at + length text) (depth_after depth k) rest ts o r t e)
some-refused two _ _ _ _ _ r (tokens.over at depth text rest k s p l w) e = refl
some-refused two _ _ _ _ _ r (tokens.bad at depth bytes some none) e = refl

pub text-unrefused : (two : Bool) (m : FormMode) (k : List FormSymbol) (bytes : List ℕ) (ts : List Lexeme) (es : List (Event FormSymbol Lexeme FormAction)) (o : Option TokenRefusal) →
    Derives (forms two) m k ts es → IsTokenList two bytes ts o → o ≡ None
text-unrefused two m k bytes ts es None d t = refl
text-unrefused two m k bytes ts es (Some r) d t = absurd (true≢false (sym (some-refused two 0 0 bytes ts (Some r) r t refl) ∙ none-refused two m k ts es d))
