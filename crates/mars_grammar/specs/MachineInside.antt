-- The machine that goes over the tokens once: what is due, and what a builder has made of what it was told.
use Rattle.std.specs.Prelude.{◌≡◌, ℕ, List, [], ◌∷◌, ◌++◌, length, Option, Some, None, Result, Ok, Err, Bool, true, false}
use Rattle.mars_grammar.specs.FormTable.{FormTable, Event, Read, said_events, leaves_in}
use Rattle.mars_grammar.specs.Building.{Build, performs, Fault, Syntax, Over}

-- what is due, the next first, and what has been made
pub record State (S M V : Type 0) : Type 0 where
  pub mode : M
  pub stack : List S
  pub built : V

abbrev pub state : {S M V : Type 0} → M → List S → V → State S M V
state m k v = record { mode = m; stack = k; built = v }

-- the first of two that is there
abbrev pub either : {A B C : Type 0} → Option A → Option B → (A → C) → (B → Option C) → Option C
either (Some a) b f g = Some (f a)
either None (Some b) f g = g b
either None None f g = None

-- a token is taken by the first symbol that takes it, if those before it can be left out
unfoldable pub token_step : {S K T A M V L : Type 0} → FormTable S K T A M → Build (Event S T A) V L → T → M → List S → V → Option (State S M V)
token_step G B t m [] v = None
token_step G B t m (s ∷ k) v = either (G.takes s (G.kind t)) (leaves_in G m s)
    (λ form. state (G.pass (G.kind t) m) (form ++ k) (B.perform (Read s t) v)) (λ as'. token_step G B t m k (performs B (said_events as') v))

abbrev pub if_some : {A C : Type 0} → Option A → (A → Option C) → Option C
if_some (Some a) f = f a
if_some None f = None

-- all that is due is left out
unfoldable pub closed : {S K T A M V L : Type 0} → FormTable S K T A M → Build (Event S T A) V L → M → List S → V → Option V
closed G B m [] v = Some v
closed G B m (s ∷ k) v = if_some (leaves_in G m s) (λ as'. closed G B m k (performs B (said_events as') v))

-- one token is taken within the limits, or is the first fault
abbrev pub judged : {S M V L : Type 0} → State S M V → Option L → ℕ → Result (State S M V) (Fault L)
judged next None left = Ok next
judged next (Some l) left = Err (Over l left)

abbrev pub taking : {S M V E L : Type 0} → Build E V L → Option (State S M V) → ℕ → Result (State S M V) (Fault L)
taking B None left = Err (Syntax left)
taking B (Some next) left = judged next (B.refuses next.built) left

abbrev pub bind : {A B L : Type 0} → Result A (Fault L) → (A → Result B (Fault L)) → Result B (Fault L)
bind (Ok x) f = f x
bind (Err fault) f = Err fault

abbrev pub ending : {V L : Type 0} → Option V → Result V (Fault L)
ending (Some v) = Ok v
ending None = Err (Syntax 0)

-- what is made of a text that is read to its end, or its first fault
unfoldable pub token_run : {S K T A M V L : Type 0} → FormTable S K T A M → Build (Event S T A) V L → List T → State S M V → Result V (Fault L)
token_run G B [] s = ending (closed G B s.mode s.stack s.built)
token_run G B (t ∷ rest) s = bind (taking B (token_step G B t s.mode s.stack s.built) (length (t ∷ rest))) (λ next. token_run G B rest next)

-- a token_step was made, or couldn't be
abbrev pub Steps : {S M V : Type 0} → Bool → Option (State S M V) → M → List S → V → Type 0
Steps true token_step m k v = token_step ≡ Some (state m k v)
Steps false token_step m k v = token_step ≡ None

abbrev pub Closes : {V : Type 0} → Bool → Option V → V → Type 0
Closes true closed v = closed ≡ Some v
Closes false closed v = closed ≡ None
