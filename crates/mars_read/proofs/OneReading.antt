-- A text is read in one way.
use Rattle.std.proofs.Common.{◌≡◌, ◌≢◌, ℕ, List, length, refl, ap, sym, ◌∙◌, subst, Bool, true, false, Option, None}
use Rattle.mars_grammar.specs.FormTable.{Event, IsText}
use Rattle.mars_grammar.specs.Building.{Build, performs, Fault}
use Rattle.mars_grammar.specs.Refusing.{HasFault, IsFirst}
use Rattle.mars_forms.specs.declared.lexeme.Lexeme.{Lexeme}
use Rattle.mars_forms.specs.declared.symbol.FormSymbol.{FormSymbol}
use Rattle.mars_forms.specs.declared.symbol.FormAction.{FormAction}
use Rattle.mars_forms.specs.Table.{forms}
use Rattle.mars_tokens.specs.declared.lexer.TokenRefusal.{TokenRefusal}
use Rattle.mars_tokens.specs.Tokens.{OneTokenListEach}
use Rattle.mars_clauses.specs.declared.limits.OverLimit.{OverLimit}
use Rattle.mars_read.specs.declared.error.ReadError.{ReadError}
use Rattle.mars_read.specs.declared.error.ReadError.TheVariants as error
use Rattle.mars_read.specs.Refused.{is_too_long, text_error, refusal_at, IsReadAs, HasFirstFault, RefusesBy, IsRefusedAs}

module _ {V L : Type 0} (two : Bool) (start : List FormSymbol) (B : Build (Event FormSymbol Lexeme FormAction) V L) (v : V) (bytes : List ℕ) (lists : OneTokenListEach) where
  pub read-same : ((tokens : List Lexeme) (es fs : List (Event FormSymbol Lexeme FormAction)) → IsText (forms two) start tokens es → IsText (forms two) start tokens fs → es ≡ fs) →
      (w x : V) → IsReadAs two start B v bytes w → IsReadAs two start B v bytes x → w ≡ x
  read-same one w x r s =
      let same = lists two bytes s.lexemes r.lexemes None None s.tokens r.tokens in
      let events = one r.lexemes r.events s.events r.text (subst (λ (ts : List Lexeme). IsText (forms two) start ts s.events) same.list s.text) in
      r.made ∙ ap (λ (es : List (Event FormSymbol Lexeme FormAction)). performs B es v) events ∙ sym s.made

  module _ (over : L → OverLimit) where
    -- a refusal other than out of memory is the text's
    refuses : (e : ReadError) → e ≢ error.NoMemory → IsRefusedAs two start B v bytes over e → RefusesBy two start B v bytes (is_too_long bytes) over e
    refuses (error.BadByte at) n p = p
    refuses (error.Syntax at) n p = p
    refuses (error.Limit what at) n p = p
    refuses (error.Builtin at) n p = p
    refuses (error.Twice at) n p = p
    refuses error.NoMemory n p = absurd (n refl)

    never : (e : ReadError) (w : V) (b : Bool) → is_too_long bytes ≡ b → b ≡ false → IsReadAs two start B v bytes w → RefusesBy two start B v bytes b over e → ⊥
    never e w true is short r p = absurd cc
    never e w false is short r p =
        let same = lists two bytes p.lexemes r.lexemes p.refusal None p.tokens r.tokens in
        r.within.none p.fault (subst (λ (ts : List Lexeme). HasFault (forms two) B start v ts p.fault) same.list p.first.has)

    pub either-way : (e : ReadError) (w : V) → IsReadAs two start B v bytes w → IsRefusedAs two start B v bytes over e → e ≡ error.NoMemory
    either-way error.NoMemory w r p = refl
    either-way (error.BadByte at) w r p = absurd (never (error.BadByte at) w (is_too_long bytes) refl r.short r p)
    either-way (error.Syntax at) w r p = absurd (never (error.Syntax at) w (is_too_long bytes) refl r.short r p)
    either-way (error.Limit what at) w r p = absurd (never (error.Limit what at) w (is_too_long bytes) refl r.short r p)
    either-way (error.Builtin at) w r p = absurd (never (error.Builtin at) w (is_too_long bytes) refl r.short r p)
    either-way (error.Twice at) w r p = absurd (never (error.Twice at) w (is_too_long bytes) refl r.short r p)

    first-same : ((tokens : List Lexeme) (a b : Fault L) → IsFirst (forms two) B start v tokens a → IsFirst (forms two) B start v tokens b → a ≡ b) → (e f : ReadError) →
        HasFirstFault two start B v bytes over e → HasFirstFault two start B v bytes over f → e ≡ f
    first-same one e f p q =
        let same = lists two bytes q.lexemes p.lexemes q.refusal p.refusal q.tokens p.tokens in
        let fault = one p.lexemes p.fault q.fault p.first (subst (λ (ts : List Lexeme). IsFirst (forms two) B start v ts q.fault) same.list q.first) in
        p.is ∙ ap (λ (x : Fault L). text_error over (refusal_at x) p.lexemes p.refusal (length bytes)) fault
        ∙ ap (λ (ts : List Lexeme). text_error over (refusal_at q.fault) ts p.refusal (length bytes)) (sym same.list)
        ∙ ap (λ (r : Option TokenRefusal). text_error over (refusal_at q.fault) q.lexemes r (length bytes)) (sym same.refused) ∙ sym q.is

    by-length : ((tokens : List Lexeme) (a b : Fault L) → IsFirst (forms two) B start v tokens a → IsFirst (forms two) B start v tokens b → a ≡ b) → (b : Bool) (e f : ReadError) →
        RefusesBy two start B v bytes b over e → RefusesBy two start B v bytes b over f → e ≡ f
    by-length one true e f p q = p ∙ sym q
    by-length one false e f p q = first-same one e f p q

    pub refusal-same : ((tokens : List Lexeme) (a b : Fault L) → IsFirst (forms two) B start v tokens a → IsFirst (forms two) B start v tokens b → a ≡ b) → (e f : ReadError) → e ≢ error.NoMemory → f ≢ error.NoMemory →
        IsRefusedAs two start B v bytes over e → IsRefusedAs two start B v bytes over f → e ≡ f
    refusal-same one e f n m p q = by-length one (is_too_long bytes) e f (refuses e n p) (refuses f m q)
