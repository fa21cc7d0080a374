-- A grammar as a table: which symbol takes which token, and what is due after it. And what the texts of a table are.
use Rattle.std.specs.Prelude.{◌≡◌, List, [], ◌∷◌, ◌++◌, Option, Some, None, Bool, true, false}

-- symbols, kinds, tokens, actions, modes
pub record FormTable (S K T A M : Type 0) : Type 0 where
  pub kind : T → K
  -- a symbol is a token of this kind, and then these
  pub takes : S → K → Option (List S)
  -- a symbol is nothing, and a builder is told this
  pub leaves : S → Option (List A)
  -- in some modes a symbol that can be left out stays
  pub free : M
  pub pass : K → M → M
  pub stays : M → S → Bool

-- what a builder is told: a token was taken by a symbol, or an action
pub data Event (S T A : Type 0) : Type 0 where
  Read : S → T → Event S T A
  Say : A → Event S T A

-- actions as events
abbrev pub said_events : {S T A : Type 0} → List A → List (Event S T A)
said_events [] = []
said_events (a ∷ as') = Say a ∷ said_events as'

-- a value, unless it is barred
abbrev pub if_not : {A : Type 0} → Bool → Option A → Option A
if_not true o = None
if_not false o = o

-- what is told where a symbol is left out in this mode, if it can be
abbrev pub leaves_in : {S K T A M : Type 0} → FormTable S K T A M → M → S → Option (List A)
leaves_in G m s = if_not (G.stays m s) (G.leaves s)

-- symbols are tokens, and tell events
pub data Derives {S K T A M : Type 0} (G : FormTable S K T A M) : M → List S → List T → List (Event S T A) → Type 0 where
  nothing : {m : M} → Derives G m [] [] []
  taken : {m : M} {s : S} {k form : List S} {t : T} {ts : List T} {es : List (Event S T A)} →
      G.takes s (G.kind t) ≡ Some form → Derives G (G.pass (G.kind t) m) (form ++ k) ts es → Derives G m (s ∷ k) (t ∷ ts) (Read s t ∷ es)
  left_out : {m : M} {s : S} {k : List S} {ts : List T} {as' : List A} {es : List (Event S T A)} →
      leaves_in G m s ≡ Some as' → Derives G m k ts es → Derives G m (s ∷ k) ts (said_events as' ++ es)

-- A whole text.
abbrev pub IsText : {S K T A M : Type 0} → FormTable S K T A M → List S → List T → List (Event S T A) → Type 0
IsText G start tokens events = Derives G G.free start tokens events

-- Some text's tokens begin with these.
pub record BeginsText {S K T A M : Type 0} (G : FormTable S K T A M) (start : List S) (tokens : List T) : Type 0 where
  pub more : List T
  pub events : List (Event S T A)
  pub text : IsText G start (tokens ++ more) events
