-- A text that is read, whatever the start and the maker: its names, what is made, and how much it is.
use Rattle.std.proofs.Common.{◌≡◌, ◌≤◌, ◌<◌, ◌^◌, ◌+◌, ◌*◌, ℕ, List, length, ap, sym, ◌∙◌, subst, arith, Bool, false, Option, append-nil}
use Rattle.std.proofs.lemmas.Bool.Decides.{nat_tests}
use Rattle.mars_grammar.specs.FormTable.{Event}
use Rattle.mars_grammar.specs.Building.{Build, performs}
use Rattle.mars_grammar.specs.Refusing.{IsMade, HasNoFault}
use Rattle.mars_forms.specs.declared.lexeme.Lexeme.{Lexeme}
use Rattle.mars_forms.specs.declared.symbol.FormSymbol.{FormSymbol}
use Rattle.mars_forms.specs.declared.symbol.FormAction.{FormAction}
use Rattle.mars_forms.specs.declared.symbol.FormMode.TheVariants as mode
use Rattle.mars_forms.specs.Table.{forms}
use Rattle.mars_tokens.specs.declared.lexer.TokenRefusal.{TokenRefusal}
use Rattle.mars_tokens.specs.Tokens.{IsTokenList}
use Rattle.mars_clauses.specs.declared.maker.ValuedToken.{ValuedToken}
use Rattle.mars_scripts.specs.Sizes.{tokens_in}
use Rattle.mars_read.specs.Spellings.{Spellings, spellings_from, all_names, with_texts}
use Rattle.mars_read.specs.Spelled.{spelled_out, events_told, spellings_after}
use Rattle.mars_read.specs.Refused.{is_too_long, IsReadAs}
use Rattle.mars_read.proofs.Told.{told-performs, known-after, new-after}
use Rattle.mars_read.proofs.Refusals.{text-unrefused}
use Rattle.mars_read.proofs.Counting.{all_say, text-tokens, text-events, tokens-within, names-within, told-tokens, told-length}

-- where the machine ends well, the text is read
pub machine-reads : {V L : Type 0} (two : Bool) (start : List FormSymbol) (B : Build (Event FormSymbol Lexeme FormAction) V L) (bytes : List ℕ) (lexemes : List Lexeme) (r : Option TokenRefusal) (v begins w : V) → v ≡ begins →
    is_too_long bytes ≡ false → IsTokenList two bytes lexemes r → IsMade (forms two) B start v lexemes w → HasNoFault (forms two) B start v lexemes → IsReadAs two start B begins bytes w
machine-reads {V} two start B bytes lexemes r v begins w is short t made within = record {
  short = short;
  lexemes = lexemes;
  tokens = subst (λ (o : Option TokenRefusal). IsTokenList two bytes lexemes o) (text-unrefused two mode.Free start bytes lexemes made.events r made.text t) t;
  events = made.events;
  text = made.text;
  within = subst (λ (x : V). HasNoFault (forms two) B start x lexemes) is within;
  made = made.made ∙ ap (λ x. performs B made.events x) is;
}

-- a text that isn't too long
pub short-text : (bytes : List ℕ) → is_too_long bytes ≡ false → length bytes < 2 ^ 31
short-text bytes e = let few : length bytes ≤ 1048576 = grind (arith, nat_tests) in omega (arith, few)

module _ {V L : Type 0} (two : Bool) (start : List FormSymbol) (B : Build (Event FormSymbol ValuedToken FormAction) V L) (bytes : List ℕ) (known : List (List ℕ)) (v : V) (w : Spellings × V)
    (r : IsReadAs two start (spelled_out B) (spellings_from bytes known, v) bytes w) where
  both-made : w ≡ (spellings_after (spellings_from bytes known) r.events, performs B (events_told (spellings_from bytes known) r.events) v)
  both-made = r.made ∙ told-performs B r.events (spellings_from bytes known, v)

  pub names-made : w.0 ≡ spellings_after (spellings_from bytes known) r.events
  names-made = ap (λ x. x.0) both-made

  pub value-made : w.1 ≡ performs B (events_told (spellings_from bytes known) r.events) v
  value-made = ap (λ x. x.1) both-made

  -- the names that are added come after those that were there
  pub names-read : with_texts known w.0.added ≡ all_names w.0
  names-read =
      subst (λ (s : Spellings). with_texts known s.added ≡ all_names s) (sym names-made)
      (ap (λ names. with_texts names (spellings_after (spellings_from bytes known) r.events).added) (sym (known-after r.events (spellings_from bytes known)))
      ∙ new-after r.events (spellings_from bytes known) (sym (append-nil known)))

  -- at most a token a byte, a name a token, and two events a token
  pub few-tokens : tokens_in r.events ≤ length bytes
  few-tokens = omega (arith, text-tokens two mode.Free start r.lexemes r.events r.text, tokens-within two 0 0 bytes r.lexemes _ r.tokens)

  pub few-names : length w.0.added ≤ length bytes
  few-names = omega (arith, few-tokens, names-within r.events (spellings_from bytes known), ap (λ (s : Spellings). length s.added) names-made)

  pub few-told : tokens_in (events_told (spellings_from bytes known) r.events) ≤ length bytes
  few-told = omega (arith, few-tokens, told-tokens r.events (spellings_from bytes known))

  pub few-events : length (events_told (spellings_from bytes known) r.events) ≤ 2 * length bytes + all_say start
  few-events = omega (arith, told-length r.events (spellings_from bytes known), text-events two mode.Free start r.lexemes r.events r.text, tokens-within two 0 0 bytes r.lexemes _ r.tokens)
