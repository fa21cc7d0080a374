-- How what is due in the code goes along with the machine's stack.
use Rattle.std.proofs.Common.{◌≡◌, List, [], ◌∷◌, ◌++◌, ap, sym, ◌∙◌, Option, Some, None, Bool, true, false, length, arith}
use Rattle.std.specs.Prelude.{Err}
use Rattle.mars_grammar.specs.FormTable.{FormTable, Event, Read, said_events, leaves_in}
use Rattle.mars_grammar.specs.Building.{Build, performs, Syntax, Over}
use Rattle.mars_grammar.specs.MachineInside.{State, state, either, token_step, judged, taking, bind, ending, if_some, closed, token_run, Steps, Closes}

module _ {S K T A M V L : Type 0} (G : FormTable S K T A M) (B : Build (Event S T A) V L) where
  module _ (t : T) (m : M) (s : S) (old new : List S) (v : V) (first : old ≡ s ∷ new) where
    abbrev Rest : Option (List S) → Option (List A) → Option (State S M V)
    Rest o l = either o l (λ form. state (G.pass (G.kind t) m) (form ++ new) (B.perform (Read s t) v)) (λ as'. token_step G B t m new (performs B (said_events as') v))

    token_step-top : token_step G B t m old v ≡ Rest (G.takes s (G.kind t)) (leaves_in G m s)
    unfolding token_step
    token_step-top = ap (λ k. token_step G B t m k v) first

    pub token_step-taken : (form stack : List S) (w : V) → G.takes s (G.kind t) ≡ Some form → stack ≡ form ++ new → w ≡ B.perform (Read s t) v →
        token_step G B t m old v ≡ Some (state (G.pass (G.kind t) m) stack w)
    token_step-taken form stack w e f g = token_step-top ∙ ap (λ o. Rest o (leaves_in G m s)) e
        ∙ ap (λ k. Some (state (G.pass (G.kind t) m) k (B.perform (Read s t) v))) (sym f) ∙ ap (λ w. Some (state (G.pass (G.kind t) m) stack w)) (sym g)

    pub token_step-left : (as' : List A) (w : V) → G.takes s (G.kind t) ≡ None → leaves_in G m s ≡ Some as' → w ≡ performs B (said_events as') v → token_step G B t m old v ≡ token_step G B t m new w
    token_step-left as' w e f g = token_step-top ∙ ap (λ o. Rest o (leaves_in G m s)) e ∙ ap (λ l. Rest None l) f ∙ ap (λ w. token_step G B t m new w) (sym g)

    pub token_step-none : G.takes s (G.kind t) ≡ None → leaves_in G m s ≡ None → token_step G B t m old v ≡ None
    token_step-none e f = token_step-top ∙ ap (λ o. Rest o (leaves_in G m s)) e ∙ ap (λ l. Rest None l) f

  pub token_step-empty : (t : T) (m : M) (stack : List S) (v : V) → stack ≡ [] → token_step G B t m stack v ≡ None
  unfolding token_step
  token_step-empty t m stack v e = ap (λ k. token_step G B t m k v) e

  module _ (m : M) (s : S) (old new : List S) (v : V) (first : old ≡ s ∷ new) where
    closed-top : closed G B m old v ≡ if_some (leaves_in G m s) (λ as'. closed G B m new (performs B (said_events as') v))
    unfolding closed
    closed-top = ap (λ k. closed G B m k v) first

    pub closed-left : (as' : List A) (w : V) → leaves_in G m s ≡ Some as' → w ≡ performs B (said_events as') v → closed G B m old v ≡ closed G B m new w
    closed-left as' w f g = closed-top ∙ ap (λ l. if_some l (λ as'. closed G B m new (performs B (said_events as') v))) f ∙ ap (λ w. closed G B m new w) (sym g)

    pub closed-none : leaves_in G m s ≡ None → closed G B m old v ≡ None
    closed-none f = closed-top ∙ ap (λ l. if_some l (λ as'. closed G B m new (performs B (said_events as') v))) f

  pub closed-empty : (m : M) (stack : List S) (v : V) → stack ≡ [] → closed G B m stack v ≡ Some v
  unfolding closed
  closed-empty m stack v e = ap (λ k. closed G B m k v) e

  module _ (t : T) (tokens rest : List T) (s : State S M V) (whole : tokens ≡ t ∷ rest) where
    token_run-top : (o : Option (State S M V)) → token_step G B t s.mode s.stack s.built ≡ o → token_run G B tokens s ≡ bind (taking B o (length (t ∷ rest))) (λ next. token_run G B rest next)
    unfolding token_run
    token_run-top o e = ap (λ l. token_run G B l s) whole ∙ ap (λ o. bind (taking B o (length (t ∷ rest))) (λ next. token_run G B rest next)) e

    pub token_run-on : (next : State S M V) → token_step G B t s.mode s.stack s.built ≡ Some next → B.refuses next.built ≡ None → token_run G B tokens s ≡ token_run G B rest next
    token_run-on next e f = token_run-top (Some next) e ∙ ap (λ r. bind (judged next r (length (t ∷ rest))) (λ next. token_run G B rest next)) f

    pub token_run-over : (next : State S M V) (l : L) → token_step G B t s.mode s.stack s.built ≡ Some next → B.refuses next.built ≡ Some l → token_run G B tokens s ≡ Err (Over l (length tokens))
    token_run-over next l e f = token_run-top (Some next) e ∙ ap (λ r. bind (judged next r (length (t ∷ rest))) (λ next. token_run G B rest next)) f ∙ ap (λ ts. Err (Over l (length ts))) (sym whole)

    pub token_run-none : token_step G B t s.mode s.stack s.built ≡ None → token_run G B tokens s ≡ Err (Syntax (length tokens))
    token_run-none e = token_run-top None e ∙ ap (λ ts. Err (Syntax (length ts))) (sym whole)

  pub token_run-closed : (tokens : List T) (s : State S M V) (o : Option V) → length tokens ≡ 0 → closed G B s.mode s.stack s.built ≡ o → token_run G B tokens s ≡ ending o
  unfolding token_run
  token_run-closed [] s o none e = ap (λ o. ending o) e
  token_run-closed (t ∷ rest) s o none e = absurd (omega arith)

-- the answers of the code's steps
pub steps-yes : {S M V : Type 0} (b : Bool) (o : Option (State S M V)) (m : M) (k : List S) (v : V) → b ≡ true → Steps b o m k v → o ≡ Some (state m k v)
steps-yes true o m k v e steps = steps
steps-yes false o m k v e steps = cc

pub steps-no : {S M V : Type 0} (b : Bool) (o : Option (State S M V)) (m : M) (k : List S) (v : V) → b ≡ false → Steps b o m k v → o ≡ None
steps-no true o m k v e steps = cc
steps-no false o m k v e steps = steps

pub closes-yes : {V : Type 0} (b : Bool) (o : Option V) (v : V) → b ≡ true → Closes b o v → o ≡ Some v
closes-yes true o v e closes = closes
closes-yes false o v e closes = cc

pub closes-no : {V : Type 0} (b : Bool) (o : Option V) (v : V) → b ≡ false → Closes b o v → o ≡ None
closes-no true o v e closes = cc
closes-no false o v e closes = closes

-- a function of the kind that the code found
pub takes-as : {K X : Type 0} (f : K → X) {a b : K} {x : X} → a ≡ b → f a ≡ x → f b ≡ x
takes-as f e g = ap f (sym e) ∙ g
