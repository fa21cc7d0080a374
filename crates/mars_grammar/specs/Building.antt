-- What is made of the events of a text: builders and their limits, two builders side by side, and the faults of a text.
use Rattle.std.specs.Prelude.{ℕ, List, [], ◌∷◌, Option, Some, None}
use Rattle.mars_grammar.specs.declared.Which.{Which}
use Rattle.mars_grammar.specs.declared.Which.TheVariants.{First, Second}

-- a builder: what an event does to its value, and which values are over a limit
pub record Build (E V L : Type 0) : Type 0 where
  pub perform : E → V → V
  pub refuses : V → Option L

-- what a value becomes by events, one after the other
abbrev pub performs : {E V L : Type 0} → Build E V L → List E → V → V
performs B [] v = v
performs B (e ∷ es) v = performs B es (B.perform e v)

-- why a text is refused, and how many tokens are left there
pub data Fault (L : Type 0) : Type 0 where
  Syntax : ℕ → Fault L
  Over : L → ℕ → Fault L

-- two builders side by side; the first one's limit counts where both are over one
abbrev pub which : {L R : Type 0} → Option L → Option R → Option (Which L R)
which (Some l) r = Some (First l)
which None (Some r) = Some (Second r)
which None None = None

-- both are told each event
abbrev pub both : {E V W L R : Type 0} → Build E V L → Build E W R → Build E (V × W) (Which L R)
both B D = record { perform = λ e v. (B.perform e v.0, D.perform e v.1); refuses = λ v. which (B.refuses v.0) (D.refuses v.1) }

-- the builder that makes nothing
abbrev pub no_value : {E : Type 0} → Build E (Unit {0}) (Unit {0})
no_value = record { perform = λ e v. v; refuses = λ v. None }
