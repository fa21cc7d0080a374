-- Whatever the machine has gone over begins a text.
use Rattle.std.proofs.Common.{◌≡◌, ℕ, zero, suc, ◌<◌, List, [], ◌∷◌, ◌++◌, refl, ap, sym, ◌∙◌, subst, Option, Some, None, true, append_assoc, arith, rules}
use Rattle.std.specs.Prelude.{is_some, nat_lt}
use Rattle.mars_grammar.specs.FormTable.{FormTable, Event, Read, Say, said_events, leaves_in, Derives, nothing, taken, left_out}
use Rattle.mars_grammar.specs.Testing.{Test, Passes, all_of, lesser_if, ends_by}
use Rattle.mars_grammar.specs.Building.{Build, performs}
use Rattle.mars_grammar.specs.MachineInside.{State, state, either, token_step, if_some, closed}
use Rattle.mars_grammar.specs.Refusing.{upto}
use Rattle.mars_grammar.proofs.Tables.{and-left, and-right, holds-in, each-symbol}

module _ {S K T A M V L : Type 0} (G : FormTable S K T A M) (B : Build (Event S T A) V L) where
  pub performs-append : (es fs : List (Event S T A)) (v : V) → performs B (es ++ fs) v ≡ performs B fs (performs B es v)
  performs-append [] fs v = refl
  performs-append (e ∷ es) fs v = performs-append es fs (B.perform e v)

  pub upto-said_events : (t : T) (ts : List T) (as' : List A) (es : List (Event S T A)) → upto (t ∷ ts) (said_events as' ++ es) ≡ said_events as' ++ upto (t ∷ ts) es
  upto-said_events t ts [] es = refl
  upto-said_events t ts (a ∷ as') es = ap (λ l. Say a ∷ l) (upto-said_events t ts as' es)

  -- a token_step: what is told, and that it goes before whatever is due
  pub record Stepped (t : T) (m : M) (k : List S) (v : V) (next : State S M V) : Type 0 where
    pub fs : List (Event S T A)
    pub built : next.built ≡ performs B fs v
    pub derives : (ts : List T) (es : List (Event S T A)) → Derives G next.mode next.stack ts es → Derives G m k (t ∷ ts) (fs ++ es)
    pub cut : (ts : List T) (es : List (Event S T A)) → upto (t ∷ ts) (fs ++ es) ≡ fs ++ upto ts es

  module _ (t : T) (m : M) (s : S) (k : List S) (v : V) (next : State S M V) where
    stepped-taken : (form : List S) → G.takes s (G.kind t) ≡ Some form → state (G.pass (G.kind t) m) (form ++ k) (B.perform (Read s t) v) ≡ next → Stepped t m (s ∷ k) v next
    stepped-taken form e same = record {
      fs = Read s t ∷ [];
      built = ap (λ n. n.built) (sym same);
      derives = λ ts es d. taken e (subst (λ n. Derives G n.mode n.stack ts es) (sym same) d);
      cut = λ ts es. refl;
    }

    stepped-left : (as' : List A) → leaves_in G m s ≡ Some as' → Stepped t m k (performs B (said_events as') v) next → Stepped t m (s ∷ k) v next
    stepped-left as' e more = record {
      fs = said_events as' ++ more.fs;
      built = more.built ∙ sym (performs-append (said_events as') more.fs v);
      derives = λ ts es d. subst (λ l. Derives G m (s ∷ k) (t ∷ ts) l) (sym (append_assoc (said_events as') more.fs es)) (left_out e (more.derives ts es d));
      cut = λ ts es. ap (λ l. upto (t ∷ ts) l) (append_assoc (said_events as') more.fs es) ∙ upto-said_events t ts as' (more.fs ++ es) ∙ ap (λ l. said_events as' ++ l) (more.cut ts es) ∙ sym (append_assoc (said_events as') more.fs (upto ts es));
    }

    stepped-at : (o : Option (List S)) (l : Option (List A)) → G.takes s (G.kind t) ≡ o → leaves_in G m s ≡ l →
        ((as' : List A) → token_step G B t m k (performs B (said_events as') v) ≡ Some next → Stepped t m k (performs B (said_events as') v) next) →
        either o l (λ form. state (G.pass (G.kind t) m) (form ++ k) (B.perform (Read s t) v)) (λ as'. token_step G B t m k (performs B (said_events as') v)) ≡ Some next → Stepped t m (s ∷ k) v next
    stepped-at (Some form) l e f ih g = stepped-taken form e (cc)
    stepped-at None (Some as') e f ih g = stepped-left as' f (ih as' g)
    stepped-at None None e f ih g = cc

  pub stepped : (t : T) (m : M) (k : List S) (v : V) (next : State S M V) → token_step G B t m k v ≡ Some next → Stepped t m k v next
  unfolding token_step
  stepped t m [] v next e = cc
  stepped t m (s ∷ k) v next e = stepped-at t m s k v next (G.takes s (G.kind t)) (leaves_in G m s) refl refl (λ as'. stepped t m k (performs B (said_events as') v) next) e

  -- the machine without limits
  unfoldable pub walk : List T → State S M V → Option (State S M V)
  walk [] s = Some s
  walk (t ∷ rest) s = if_some (token_step G B t s.mode s.stack s.built) (λ next. walk rest next)

  pub record Walked (front : List T) (s next : State S M V) : Type 0 where
    pub fs : List (Event S T A)
    pub built : next.built ≡ performs B fs s.built
    pub derives : (ts : List T) (es : List (Event S T A)) → Derives G next.mode next.stack ts es → Derives G s.mode s.stack (front ++ ts) (fs ++ es)
    pub cut : (es : List (Event S T A)) → upto front (fs ++ es) ≡ fs

  module _ (t : T) (rest : List T) (s next : State S M V) where
    walked-both : (n : State S M V) → Stepped t s.mode s.stack s.built n → Walked rest n next → Walked (t ∷ rest) s next
    walked-both n one more = record {
      fs = one.fs ++ more.fs;
      built = more.built ∙ ap (λ v. performs B more.fs v) one.built ∙ sym (performs-append one.fs more.fs s.built);
      derives = λ ts es d. subst (λ l. Derives G s.mode s.stack (t ∷ (rest ++ ts)) l) (sym (append_assoc one.fs more.fs es)) (one.derives (rest ++ ts) (more.fs ++ es) (more.derives ts es d));
      cut = λ es. ap (λ l. upto (t ∷ rest) l) (append_assoc one.fs more.fs es) ∙ one.cut rest (more.fs ++ es) ∙ ap (λ l. one.fs ++ l) (more.cut es);
    }

    walked-at : (o : Option (State S M V)) → token_step G B t s.mode s.stack s.built ≡ o → ((n : State S M V) → walk rest n ≡ Some next → Walked rest n next) → if_some o (λ n. walk rest n) ≡ Some next → Walked (t ∷ rest) s next
    walked-at None e ih f = cc
    walked-at (Some n) e ih f = walked-both n (stepped t s.mode s.stack s.built n e) (ih n f)

  walked-nil : (s next : State S M V) → s ≡ next → Walked [] s next
  walked-nil s next same = subst (λ n. Walked [] s n) same (record { fs = []; built = refl; derives = λ ts es d. d; cut = λ es. refl })

  pub walked : (front : List T) (s next : State S M V) → walk front s ≡ Some next → Walked front s next
  unfolding walk
  walked [] s next e = walked-nil s next (cc)
  walked (t ∷ rest) s next e = walked-at t rest s next (token_step G B t s.mode s.stack s.built) refl (λ n. walked rest n next) e

  -- all that is due is left out
  pub record Closing (m : M) (k : List S) (v w : V) : Type 0 where
    pub fs : List (Event S T A)
    pub built : w ≡ performs B fs v
    pub derives : Derives G m k [] fs

  module _ (m : M) (s : S) (k : List S) (v w : V) where
    closing-at : (l : Option (List A)) → leaves_in G m s ≡ l → ((as' : List A) → closed G B m k (performs B (said_events as') v) ≡ Some w → Closing m k (performs B (said_events as') v) w) →
        if_some l (λ as'. closed G B m k (performs B (said_events as') v)) ≡ Some w → Closing m (s ∷ k) v w
    closing-at (Some as') e ih f = let more = ih as' f in record { fs = said_events as' ++ more.fs; built = more.built ∙ sym (performs-append (said_events as') more.fs v); derives = left_out e more.derives }
    closing-at None e ih f = cc

  pub closing : (m : M) (k : List S) (v w : V) → closed G B m k v ≡ Some w → Closing m k v w
  unfolding closed
  closing m [] v w e = record { fs = []; built = cc; derives = nothing }
  closing m (s ∷ k) v w e = closing-at m s k v w (leaves_in G m s) refl (λ as'. closing m k (performs B (said_events as') v) w) e

-- a way to end what is due
pub record Ends {S K T A M : Type 0} (G : FormTable S K T A M) (m : M) (k : List S) : Type 0 where
  pub ts : List T
  pub es : List (Event S T A)
  pub derives : Derives G m k ts es

is-less : (a b : ℕ) → nat_lt a b ≡ true → a < b
is-less a b e = search (e, rules)

less-trans : (a b n : ℕ) → a < b → b < suc n → a < n
less-trans a b n h i = omega (arith, h, i)

module _ {S K T A M : Type 0} (G : FormTable S K T A M) (C : Test S K T M) (P : Passes G C) where
  abbrev EndsOne : ℕ → Type 0
  EndsOne n = (s : S) → C.rank s < n → (m : M) (k : List S) → ((m : M) → Ends G m k) → Ends G m (s ∷ k)

  ends-form : (n r : ℕ) → r < suc n → EndsOne n → (form : List S) → all_of (λ s. nat_lt (C.rank s) r) form ≡ true → (k : List S) → ((m : M) → Ends G m k) → (m : M) → Ends G m (form ++ k)
  ends-form n r less ih [] e k cont m = cont m
  ends-form n r less ih (x ∷ form) e k cont m =
      ih x (less-trans (C.rank x) r n (is-less (C.rank x) r (and-left (nat_lt (C.rank x) r) _ e)) less) m (form ++ k) (λ m. ends-form n r less ih form (and-right (nat_lt (C.rank x) r) _ e) k cont m)

  ends-left : (m : M) (s : S) (k : List S) → Ends G m k → (l : Option (List A)) → leaves_in G m s ≡ l → is_some l ≡ true → Ends G m (s ∷ k)
  ends-left m s k more None e f = cc
  ends-left m s k more (Some as') e f = record { ts = more.ts; es = said_events as' ++ more.es; derives = left_out e more.derives }

  ends-taken : (n : ℕ) → EndsOne n → (m : M) (s : S) (k : List S) → C.rank s < suc n → ((m : M) → Ends G m k) → (t : T) (o : Option (List S)) → G.takes s (G.kind t) ≡ o → lesser_if C (C.rank s) o ≡ true → Ends G m (s ∷ k)
  ends-taken n ih m s k less cont t None e f = cc
  ends-taken n ih m s k less cont t (Some form) e f = let more = ends-form n (C.rank s) less ih form f k cont (G.pass (G.kind t) m) in
      record { ts = t ∷ more.ts; es = Read s t ∷ more.es; derives = taken e more.derives }

  ends-at : (n : ℕ) → EndsOne n → (m : M) (s : S) (k : List S) → C.rank s < suc n → ((m : M) → Ends G m k) → (w : Option T) → ends_by G C s w ≡ true → Ends G m (s ∷ k)
  ends-at n ih m s k less cont None e = ends-left m s k (cont m) (leaves_in G m s) refl (holds-in (λ m. is_some (leaves_in G m s)) C.modes e (C.mode_place m) m (P.all_modes m))
  ends-at n ih m s k less cont (Some t) e = ends-taken n ih m s k less cont t (G.takes s (G.kind t)) refl e

  ends-one : (n : ℕ) → EndsOne n
  ends-one zero s less m k cont = absurd (omega (arith, less))
  ends-one (suc n) s less m k cont = ends-at n (ends-one n) m s k less cont (C.way s) (each-symbol G C P (λ s. ends_by G C s (C.way s)) P.ended s)

  pub ends : (k : List S) (m : M) → Ends G m k
  ends [] m = record { ts = []; es = []; derives = nothing }
  ends (s ∷ k) m = ends-one (suc (C.rank s)) s (omega arith) m k (λ m. ends k m)
