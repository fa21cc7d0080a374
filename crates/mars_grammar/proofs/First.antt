-- What the machine answers is what the text tells, or its first fault.
use Rattle.std.proofs.Common.{◌≡◌, ℕ, zero, suc, ◌<◌, ◌≤◌, List, [], ◌∷◌, ◌++◌, length, refl, ap, sym, ◌∙◌, subst, Option, Some, None, true, arith, length-append, append-nil}
use Rattle.std.specs.Prelude.{Result, Ok, Err}
use Rattle.mars_grammar.specs.FormTable.{FormTable, Event, IsText, BeginsText}
use Rattle.mars_grammar.specs.Testing.{Test, Passes, starts}
use Rattle.mars_grammar.specs.Building.{Build, performs, Fault, Syntax, Over}
use Rattle.mars_grammar.specs.MachineInside.{State, state, token_step, judged, taking, bind, ending, if_some, closed, token_run}
use Rattle.mars_grammar.specs.Refusing.{upto, IsOver, IsDead, IsPassed, IsAt, tokens_left, HasFault, IsFirst, HasNoFault, IsMade}
use Rattle.mars_grammar.proofs.Tables.{apart-start}
use Rattle.mars_grammar.proofs.Sound.{walk, walked, closing, ends, performs-append}
use Rattle.mars_grammar.proofs.Complete.{Goes, goes, closes}

-- the machine goes over one part, and then over another
module _ {S K T A M V L : Type 0} (G : FormTable S K T A M) (B : Build (Event S T A) V L) where
  walk-on : (a b : List T) → ((s : State S M V) → walk G B (a ++ b) s ≡ if_some (walk G B a s) (λ next. walk G B b next)) → (o : Option (State S M V)) →
      if_some o (λ next. walk G B (a ++ b) next) ≡ if_some (if_some o (λ next. walk G B a next)) (λ next. walk G B b next)
  walk-on a b ih None = refl
  walk-on a b ih (Some s) = ih s

  walk-append : (a b : List T) (s : State S M V) → walk G B (a ++ b) s ≡ if_some (walk G B a s) (λ next. walk G B b next)
  unfolding walk
  walk-append [] b s = refl
  walk-append (t ∷ a) b s = walk-on a b (λ s. walk-append a b s) (token_step G B t s.mode s.stack s.built)

  walk-one : (front : List T) (t : T) (from s : State S M V) → walk G B front from ≡ Some s → walk G B (front ++ (t ∷ [])) from ≡ if_some (token_step G B t s.mode s.stack s.built) (λ n. Some n)
  unfolding walk
  walk-one front t from s e = walk-append front (t ∷ []) from ∙ ap (λ o. if_some o (λ n. walk G B (t ∷ []) n)) e

  -- how many tokens are left where the machine stopped
  abbrev pub stop_of : Result V (Fault L) → ℕ
  stop_of (Ok value) = 0
  stop_of (Err fault) = tokens_left fault

  -- a token that the machine took
  record Took (front : List T) (t : T) (from : State S M V) : Type 0 where
    pub state : State S M V
    pub next : State S M V
    pub walked : walk G B front from ≡ Some state
    pub steps : token_step G B t state.mode state.stack state.built ≡ Some next
    pub within : B.refuses next.built ≡ None

  module _ (t : T) (b : List T) (s : State S M V) where
    took-fits : (n : State S M V) (r : Option L) → token_step G B t s.mode s.stack s.built ≡ Some n → B.refuses n.built ≡ r →
        stop_of (bind (judged n r (length (t ∷ b))) (λ n. token_run G B b n)) < length (t ∷ b) → Took [] t s
    unfolding walk
    took-fits n (Some l) e f less = absurd (omega arith)
    took-fits n None e f less = record { state = s; next = n; walked = refl; steps = e; within = f }

    took-here : (o : Option (State S M V)) → token_step G B t s.mode s.stack s.built ≡ o → stop_of (bind (taking B o (length (t ∷ b))) (λ n. token_run G B b n)) < length (t ∷ b) → Took [] t s
    took-here None e less = absurd (omega arith)
    took-here (Some n) e less = took-fits n (B.refuses n.built) e refl less

  module _ (t x : T) (a b : List T) (s : State S M V) (ih : (n : State S M V) → stop_of (token_run G B (a ++ (t ∷ b)) n) < length (t ∷ b) → Took a t n) where
    took-later : (n : State S M V) (r : Option L) → token_step G B x s.mode s.stack s.built ≡ Some n →
        stop_of (bind (judged n r (length (x ∷ (a ++ (t ∷ b))))) (λ n. token_run G B (a ++ (t ∷ b)) n)) < length (t ∷ b) → Took (x ∷ a) t s
    unfolding walk
    took-later n (Some l) e less = absurd (omega (arith, length-append a (t ∷ b)))
    took-later n None e less = let took = ih n less in
        record { state = took.state; next = took.next; walked = ap (λ o. if_some o (λ y. walk G B a y)) e ∙ took.walked; steps = took.steps; within = took.within }

    took-there : (o : Option (State S M V)) → token_step G B x s.mode s.stack s.built ≡ o →
        stop_of (bind (taking B o (length (x ∷ (a ++ (t ∷ b))))) (λ n. token_run G B (a ++ (t ∷ b)) n)) < length (t ∷ b) → Took (x ∷ a) t s
    took-there None e less = absurd (omega (arith, length-append a (t ∷ b)))
    took-there (Some n) e less = took-later n (B.refuses n.built) e less

  took : (a : List T) (t : T) (b : List T) (s : State S M V) → stop_of (token_run G B (a ++ (t ∷ b)) s) < length (t ∷ b) → Took a t s
  unfolding token_run
  took [] t b s less = took-here t b s (token_step G B t s.mode s.stack s.built) refl less
  took (x ∷ a) t b s less = took-there t x a b s (λ n. took a t b n) (token_step G B x s.mode s.stack s.built) refl less

  -- no way on, or a way that is over a limit
  abbrev IsStuck : Fault L → State S M V → List T → Type 0
  IsStuck (Syntax left) s [] = closed G B s.mode s.stack s.built ≡ None
  IsStuck (Syntax left) s (t ∷ rest) = token_step G B t s.mode s.stack s.built ≡ None
  IsStuck (Over l left) s [] = ⊥
  IsStuck (Over l left) s (t ∷ rest) = (n : State S M V) × (token_step G B t s.mode s.stack s.built ≡ Some n) × (B.refuses n.built ≡ Some l)

  -- where the machine stopped
  record Stuck (tokens : List T) (from : State S M V) (fault : Fault L) : Type 0 where
    pub front : List T
    pub rest : List T
    pub state : State S M V
    pub whole : tokens ≡ front ++ rest
    pub left : length rest ≡ tokens_left fault
    pub walked : walk G B front from ≡ Some state
    pub here : IsStuck fault state rest

  module _ (t : T) (rest : List T) (s : State S M V) (fault : Fault L) (ih : (n : State S M V) → token_run G B rest n ≡ Err fault → Stuck rest n fault) where
    stuck-judged : (n : State S M V) (r : Option L) → token_step G B t s.mode s.stack s.built ≡ Some n → B.refuses n.built ≡ r →
        bind (judged n r (length (t ∷ rest))) (λ n. token_run G B rest n) ≡ Err fault → Stuck (t ∷ rest) s fault
    unfolding walk
    stuck-judged n (Some l) e f is = let same : Over l (length (t ∷ rest)) ≡ fault = cc in
        subst (λ x. Stuck (t ∷ rest) s x) same (record { front = []; rest = t ∷ rest; state = s; whole = refl; left = refl; walked = refl; here = (n, e, f) })
    stuck-judged n None e f is = let more = ih n is in record {
      front = t ∷ more.front;
      rest = more.rest;
      state = more.state;
      whole = ap (λ l. t ∷ l) more.whole;
      left = more.left;
      walked = ap (λ o. if_some o (λ y. walk G B more.front y)) e ∙ more.walked;
      here = more.here;
    }

    stuck-at : (o : Option (State S M V)) → token_step G B t s.mode s.stack s.built ≡ o → bind (taking B o (length (t ∷ rest))) (λ n. token_run G B rest n) ≡ Err fault → Stuck (t ∷ rest) s fault
    unfolding walk
    stuck-at None e is = let same : Syntax (length (t ∷ rest)) ≡ fault = cc in
        subst (λ x. Stuck (t ∷ rest) s x) same (record { front = []; rest = t ∷ rest; state = s; whole = refl; left = refl; walked = refl; here = e })
    stuck-at (Some n) e is = stuck-judged n (B.refuses n.built) e refl is

  stuck-nil : (s : State S M V) (fault : Fault L) (o : Option V) → closed G B s.mode s.stack s.built ≡ o → ending o ≡ Err fault → Stuck [] s fault
  unfolding walk
  stuck-nil s fault (Some w) e is = cc
  stuck-nil s fault None e is = let same : Syntax 0 ≡ fault = cc in
      subst (λ x. Stuck [] s x) same (record { front = []; rest = []; state = s; whole = refl; left = refl; walked = refl; here = e })

  stuck : (tokens : List T) (s : State S M V) (fault : Fault L) → token_run G B tokens s ≡ Err fault → Stuck tokens s fault
  unfolding token_run
  stuck [] s fault e = stuck-nil s fault (closed G B s.mode s.stack s.built) refl e
  stuck (t ∷ rest) s fault e = stuck-at t rest s fault (λ n. stuck rest n fault) (token_step G B t s.mode s.stack s.built) refl e

  -- where the machine ended
  record Ended (tokens : List T) (from : State S M V) (w : V) : Type 0 where
    pub state : State S M V
    pub walked : walk G B tokens from ≡ Some state
    pub closes : closed G B state.mode state.stack state.built ≡ Some w

  module _ (t : T) (rest : List T) (s : State S M V) (w : V) (ih : (n : State S M V) → token_run G B rest n ≡ Ok w → Ended rest n w) where
    ended-judged : (n : State S M V) (r : Option L) → token_step G B t s.mode s.stack s.built ≡ Some n → bind (judged n r (length (t ∷ rest))) (λ n. token_run G B rest n) ≡ Ok w → Ended (t ∷ rest) s w
    unfolding walk
    ended-judged n (Some l) e is = cc
    ended-judged n None e is = let more = ih n is in record { state = more.state; walked = ap (λ o. if_some o (λ y. walk G B rest y)) e ∙ more.walked; closes = more.closes }

    ended-at : (o : Option (State S M V)) → token_step G B t s.mode s.stack s.built ≡ o → bind (taking B o (length (t ∷ rest))) (λ n. token_run G B rest n) ≡ Ok w → Ended (t ∷ rest) s w
    ended-at None e is = cc
    ended-at (Some n) e is = ended-judged n (B.refuses n.built) e is

  ended-nil : (s : State S M V) (w : V) (o : Option V) → closed G B s.mode s.stack s.built ≡ o → ending {L = L} o ≡ Ok w → Ended [] s w
  unfolding walk
  ended-nil s w None e is = cc
  ended-nil s w (Some x) e is = record { state = s; walked = refl; closes = e ∙ cc }

  ended : (tokens : List T) (s : State S M V) (w : V) → token_run G B tokens s ≡ Ok w → Ended tokens s w
  unfolding token_run
  ended [] s w e = ended-nil s w (closed G B s.mode s.stack s.built) refl e
  ended (t ∷ rest) s w e = ended-at t rest s w (λ n. ended rest n w) (token_step G B t s.mode s.stack s.built) refl e

module _ {S K T A M V L : Type 0} (G : FormTable S K T A M) (C : Test S K T M) (P : Passes G C) (B : Build (Event S T A) V L) (start : List S) (v : V) (can : starts G C start ≡ true) where
  abbrev begin : State S M V
  begin = state G.free start v

  -- what the machine has gone over begins a text
  walk-begins : (front : List T) (next : State S M V) → walk G B front begin ≡ Some next → BeginsText G start front
  walk-begins front next e = let end = ends G C P next.stack next.mode in let all = walked G B front begin next e in
      record { more = end.ts; events = all.fs ++ end.es; text = all.derives end.ts end.es end.derives }

  walk-over : (front : List T) (next : State S M V) (l : L) → walk G B front begin ≡ Some next → B.refuses next.built ≡ Some l → IsOver G B start v l front
  walk-over front next l e f = let end = ends G C P next.stack next.mode in let all = walked G B front begin next e in record {
    more = end.ts;
    events = all.fs ++ end.es;
    text = all.derives end.ts end.es end.derives;
    refuses = ap (λ es. B.refuses (performs B es v)) (all.cut end.es) ∙ ap (λ w. B.refuses w) (sym all.built) ∙ f;
  }

  text-goes : (front more : List T) (es : List (Event S T A)) → IsText G start (front ++ more) es → Goes G C P B front more G.free start es
  text-goes front more es text = goes G C P B front more G.free start es text (apart-start G C P start can)

  -- a text's beginning is gone over
  begins-walks : (front : List T) → BeginsText G start front → walk G B front begin ≡ None → ⊥
  begins-walks front begins none = let all = text-goes front begins.more begins.events begins.text in let some = all.walks v in absurd cc

  over-walks : (front : List T) (next : State S M V) (l : L) → walk G B front begin ≡ Some next → IsOver G B start v l front → B.refuses next.built ≡ Some l
  over-walks front next l e over = let all = text-goes front over.more over.events over.text in
      let same : state all.mode all.stack (performs B (upto front over.events) v) ≡ next = cc-some _ _ (sym (all.walks v) ∙ e) in
      ap (λ n. B.refuses n.built) (sym same) ∙ over.refuses
    where
      cc-some : (a b : State S M V) → ◌≡◌ {A = Option (State S M V)} (Some a) (Some b) → a ≡ b
      cc-some a b e = cc

  -- where a token was taken there is no fault
  took-no-fault : (front : List T) (t : T) (rest : List T) (fault : Fault L) → Took G B front t begin → IsAt G B start v fault front (t ∷ rest) → ⊥
  took-no-fault front t rest (Syntax left) took dead =
      dead (walk-begins (front ++ (t ∷ [])) took.next (walk-one G B front t begin took.state took.walked ∙ ap (λ o. if_some o (λ n. Some n)) took.steps))
  took-no-fault front t rest (Over l left) took over =
      let no = over-walks (front ++ (t ∷ [])) took.next l (walk-one G B front t begin took.state took.walked ∙ ap (λ o. if_some o (λ n. Some n)) took.steps) over in
      let within = took.within in absurd cc

  -- no fault before the place where the machine stopped
  no-fault-before : (tokens : List T) (other : Fault L) → HasFault G B start v tokens other → stop_of G B (token_run G B tokens begin) < tokens_left other → ⊥
  no-fault-before tokens other has less = go has.front has.rest has.whole has.left has.here less
    where
      go : (front rest : List T) → tokens ≡ front ++ rest → length rest ≡ tokens_left other → IsAt G B start v other front rest → stop_of G B (token_run G B tokens begin) < tokens_left other → ⊥
      go front [] whole left here less = omega arith
      go front (t ∷ rest) whole left here less = took-no-fault front t rest other
          (took G B front t rest begin (subst (λ n. stop_of G B (token_run G B (front ++ (t ∷ rest)) begin) < n) (sym left) (subst (λ l. stop_of G B (token_run G B l begin) < tokens_left other) whole less))) here

  -- a place where the machine stopped has the fault
  stuck-fault : (tokens : List T) (fault : Fault L) → Stuck G B tokens begin fault → HasFault G B start v tokens fault
  stuck-fault tokens fault at = record { front = at.front; rest = at.rest; whole = at.whole; left = at.left; here = here fault at.front at.rest at.state at.walked at.here }
    where
      one-state : (a b : State S M V) → ◌≡◌ {A = Option (State S M V)} (Some a) (Some b) → a ≡ b
      one-state a b e = cc

      none-some : (w : V) → None ≡ Some w → ⊥
      none-some w e = cc

      here : (fault : Fault L) (front rest : List T) (s : State S M V) → walk G B front begin ≡ Some s → IsStuck G B fault s rest → IsAt G B start v fault front rest
      here (Syntax left) front [] s walked barred = λ events text.
          let all = text-goes front [] events (subst (λ l. IsText G start l events) (sym (append-nil front)) text) in
          let same = one-state (state all.mode all.stack (performs B (upto front events) v)) s (sym (all.walks v) ∙ walked) in
          let ends = closes G C P B all.mode all.stack all.later all.derives (performs B (upto front events) v) in
          none-some _ (sym barred ∙ ap (λ n. closed G B n.mode n.stack n.built) (sym same) ∙ ends)
      here (Syntax left) front (t ∷ rest) s walked barred = λ begins. begins-walks (front ++ (t ∷ [])) begins (walk-one G B front t begin s walked ∙ ap (λ o. if_some o (λ n. Some n)) barred)
      here (Over l left) front [] s walked barred = barred
      here (Over l left) front (t ∷ rest) s walked over =
          walk-over (front ++ (t ∷ [])) over.0 l (walk-one G B front t begin s walked ∙ ap (λ o. if_some o (λ n. Some n)) over.1) over.2

  pub first-law : (tokens : List T) (fault : Fault L) → token_run G B tokens begin ≡ Err fault → IsFirst G B start v tokens fault
  first-law tokens fault e = record {
    has = stuck-fault tokens fault (stuck G B tokens begin fault e);
    least = λ other has. least other has (λ less. no-fault-before tokens other has (subst (λ r. stop_of G B r < tokens_left other) (sym e) less));
  }
    where
      least : (other : Fault L) → HasFault G B start v tokens other → (tokens_left fault < tokens_left other → ⊥) → tokens_left other ≤ tokens_left fault
      least other has above = omega (arith, above)

  pub made-law : (tokens : List T) (w : V) → token_run G B tokens begin ≡ Ok w → IsMade G B start v tokens w
  made-law tokens w e =
      let end = ended G B tokens begin w e in
      let all = walked G B tokens begin end.state end.walked in
      let last = closing G B end.state.mode end.state.stack end.state.built w end.closes in record {
        events = all.fs ++ last.fs;
        text = subst (λ ts. IsText G start ts (all.fs ++ last.fs)) (append-nil tokens) (all.derives [] last.fs last.derives);
        made = last.built ∙ ap (λ x. performs B last.fs x) all.built ∙ sym (performs-append G B all.fs last.fs v);
      }

  no-fault : (tokens : List T) (w : V) → token_run G B tokens begin ≡ Ok w → (fault : Fault L) → HasFault G B start v tokens fault → ⊥
  no-fault tokens w e (Syntax zero) has = dead-none has.rest has.left has.front has.whole has.here
    where
      dead-none : (rest : List T) → length rest ≡ 0 → (front : List T) → tokens ≡ front ++ rest → IsDead G B start v front rest → ⊥
      dead-none [] left front same dead = let made = made-law tokens w e in dead made.events (subst (λ l. IsText G start l made.events) (same ∙ append-nil front) made.text)
      dead-none (t ∷ rest) left front same dead = absurd (omega arith)
  no-fault tokens w e (Syntax (suc n)) has = no-fault-before tokens (Syntax (suc n)) has (subst (λ r. stop_of G B r < suc n) (sym e) (omega arith))
  no-fault tokens w e (Over l zero) has = over-none has.rest has.left has.here
    where
      over-none : (rest : List T) → length rest ≡ 0 → IsPassed G B start v l has.front rest → ⊥
      over-none [] left here = here
      over-none (t ∷ rest) left here = absurd (omega arith)
  no-fault tokens w e (Over l (suc n)) has = no-fault-before tokens (Over l (suc n)) has (subst (λ r. stop_of G B r < suc n) (sym e) (omega arith))

  pub within-law : (tokens : List T) (w : V) → token_run G B tokens begin ≡ Ok w → HasNoFault G B start v tokens
  within-law tokens w e = record { none = no-fault tokens w e }
