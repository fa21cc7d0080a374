-- Whatever is a text, the machine goes over it.
use Rattle.std.proofs.Common.{◌≡◌, List, [], ◌∷◌, ◌++◌, refl, ap, sym, ◌∙◌, Option, Some, None, Bool, true, false, ◌&&◌, ◌||◌, append_assoc}
use Rattle.std.specs.Prelude.{is_some}
use Rattle.mars_grammar.specs.FormTable.{FormTable, Event, Read, said_events, leaves_in, Derives, nothing, taken, left_out}
use Rattle.mars_grammar.specs.Testing.{Test, Passes, may}
use Rattle.mars_grammar.specs.Building.{Build, performs}
use Rattle.mars_grammar.specs.MachineInside.{State, state, either, token_step, if_some, closed}
use Rattle.mars_grammar.specs.Refusing.{upto}
use Rattle.mars_grammar.proofs.Tables.{valid, bars-taken, leaves-free, IsApart, apart-form}
use Rattle.mars_grammar.proofs.Sound.{performs-append, upto-said_events, walk}

or-later : (a b : Bool) → b ≡ true → a || b ≡ true
or-later true b e = refl
or-later false b e = e

module _ {S K T A M V L : Type 0} (G : FormTable S K T A M) (C : Test S K T M) (P : Passes G C) (B : Build (Event S T A) V L) where
  -- the first token is one that can come first
  first-may : (m : M) (k : List S) (t : T) (ts : List T) (es : List (Event S T A)) → Derives G m k (t ∷ ts) es → may G (G.kind t) k ≡ true
  first-may m _ t ts _ (taken {s} {k} {form} e d) = ap (λ o. is_some o || (is_some (G.leaves s) && may G (G.kind t) k)) e
  first-may m _ t ts _ (left_out {s} {k} {as'} {es} e d) =
      or-later (is_some (G.takes s (G.kind t))) (is_some (G.leaves s) && may G (G.kind t) k) (ap (λ l. is_some l && may G (G.kind t) k) (leaves-free G C P m s as' e) ∙ first-may m k t ts es d)

  -- a symbol that can be left out doesn't take the first token after it
  not-taken : (m : M) (s : S) (k : List S) (t : T) (as' : List A) → leaves_in G m s ≡ Some as' → ((u : K) → C.bars s u ≡ true → may G u k ≡ false) → may G (G.kind t) k ≡ true →
      (o : Option (List S)) → G.takes s (G.kind t) ≡ o → G.takes s (G.kind t) ≡ None
  not-taken m s k t as' e apart comes None f = f
  not-taken m s k t as' e apart comes (Some form) f = absurd (let none = apart (G.kind t) (bars-taken G C P s (G.kind t) as' form (leaves-free G C P m s as' e) f) in cc)

  -- the machine takes the first token as the text does
  record Takes (m : M) (k : List S) (t : T) (ts : List T) (es : List (Event S T A)) : Type 0 where
    pub stack : List S
    pub fs : List (Event S T A)
    pub later : List (Event S T A)
    pub whole : es ≡ fs ++ later
    pub derives : Derives G (G.pass (G.kind t) m) stack ts later
    pub apart : IsApart G C P stack
    pub steps : (v : V) → token_step G B t m k v ≡ Some (state (G.pass (G.kind t) m) stack (performs B fs v))
    pub cut : (ts : List T) (es : List (Event S T A)) → upto (t ∷ ts) (fs ++ es) ≡ fs ++ upto ts es

  abbrev Rest : (m : M) (s : S) (k : List S) (t : T) (v : V) → Option (List S) → Option (List A) → Option (State S M V)
  Rest m s k t v o l = either o l (λ form. state (G.pass (G.kind t) m) (form ++ k) (B.perform (Read s t) v)) (λ as'. token_step G B t m k (performs B (said_events as') v))

  token_step-taken : (m : M) (s : S) (k form : List S) (t : T) (v : V) → G.takes s (G.kind t) ≡ Some form → token_step G B t m (s ∷ k) v ≡ Some (state (G.pass (G.kind t) m) (form ++ k) (B.perform (Read s t) v))
  unfolding token_step
  token_step-taken m s k form t v e = ap (λ o. Rest m s k t v o (leaves_in G m s)) e

  token_step-left : (m : M) (s : S) (k : List S) (t : T) (v : V) (as' : List A) → leaves_in G m s ≡ Some as' → G.takes s (G.kind t) ≡ None → token_step G B t m (s ∷ k) v ≡ token_step G B t m k (performs B (said_events as') v)
  unfolding token_step
  token_step-left m s k t v as' e f = ap (λ o. Rest m s k t v o (leaves_in G m s)) f ∙ ap (λ l. Rest m s k t v None l) e

  takes-left : (m : M) (s : S) (k : List S) (t : T) (ts : List T) (as' : List A) (es : List (Event S T A)) → leaves_in G m s ≡ Some as' → G.takes s (G.kind t) ≡ None → Takes m k t ts es → Takes m (s ∷ k) t ts (said_events as' ++ es)
  takes-left m s k t ts as' es e f more = record {
    stack = more.stack;
    fs = said_events as' ++ more.fs;
    later = more.later;
    whole = ap (λ l. said_events as' ++ l) more.whole ∙ sym (append_assoc (said_events as') more.fs more.later);
    derives = more.derives;
    apart = more.apart;
    steps = λ v. token_step-left m s k t v as' e f ∙ more.steps (performs B (said_events as') v) ∙ ap (λ w. Some (state (G.pass (G.kind t) m) more.stack w)) (sym (performs-append G B (said_events as') more.fs v));
    cut = λ ts es. ap (λ l. upto (t ∷ ts) l) (append_assoc (said_events as') more.fs es) ∙ upto-said_events G B t ts as' (more.fs ++ es) ∙ ap (λ l. said_events as' ++ l) (more.cut ts es) ∙ sym (append_assoc (said_events as') more.fs (upto ts es));
  }

  takes : (m : M) (k : List S) (t : T) (ts : List T) (es : List (Event S T A)) → Derives G m k (t ∷ ts) es → IsApart G C P k → Takes m k t ts es
  takes m _ t ts _ (taken {s} {k} {form} {es} e d) apart = record {
    stack = form ++ k;
    fs = Read s t ∷ [];
    later = es;
    whole = refl;
    derives = d;
    apart = apart-form G C P s form k (valid G C P s (G.kind t) form e) apart.0 apart.1;
    steps = λ v. token_step-taken m s k form t v e;
    cut = λ ts es. refl;
  }
  takes m _ t ts _ (left_out {s} {k} {as'} {es} e d) apart =
      takes-left m s k t ts as' es e (not-taken m s k t as' e apart.0 (first-may m k t ts es d) (G.takes s (G.kind t)) refl) (takes m k t ts es d apart.1)

  -- the machine goes over a beginning as the text does
  pub record Goes (front ts : List T) (m : M) (k : List S) (es : List (Event S T A)) : Type 0 where
    pub mode : M
    pub stack : List S
    pub later : List (Event S T A)
    pub whole : es ≡ upto front es ++ later
    pub derives : Derives G mode stack ts later
    pub walks : (v : V) → walk G B front (state m k v) ≡ Some (state mode stack (performs B (upto front es) v))

  module _ (t : T) (front ts : List T) (m : M) (k : List S) (es : List (Event S T A)) (one : Takes m k t (front ++ ts) es) (more : Goes front ts (G.pass (G.kind t) m) one.stack one.later) where
    both-upto : upto (t ∷ front) es ≡ one.fs ++ upto front one.later
    both-upto = ap (λ l. upto (t ∷ front) l) one.whole ∙ one.cut front one.later

    both-whole : es ≡ upto (t ∷ front) es ++ more.later
    both-whole = one.whole ∙ ap (λ l. one.fs ++ l) more.whole ∙ sym (append_assoc one.fs (upto front one.later) more.later) ∙ ap (λ l. l ++ more.later) (sym both-upto)

    both-walks : (v : V) → walk G B (t ∷ front) (state m k v) ≡ Some (state more.mode more.stack (performs B (upto (t ∷ front) es) v))
    unfolding walk
    both-walks v = ap (λ o. if_some o (λ n. walk G B front n)) (one.steps v) ∙ more.walks (performs B one.fs v)
        ∙ ap (λ w. Some (state more.mode more.stack w)) (sym (performs-append G B one.fs (upto front one.later) v) ∙ ap (λ l. performs B l v) (sym both-upto))

    both : Goes (t ∷ front) ts m k es
    both = record { mode = more.mode; stack = more.stack; later = more.later; whole = both-whole; derives = more.derives; walks = both-walks }

  walk-nil : (s : State S M V) → walk G B [] s ≡ Some s
  unfolding walk
  walk-nil s = refl

  pub goes : (front ts : List T) (m : M) (k : List S) (es : List (Event S T A)) → Derives G m k (front ++ ts) es → IsApart G C P k → Goes front ts m k es
  goes [] ts m k es d apart = record { mode = m; stack = k; later = es; whole = refl; derives = d; walks = λ v. walk-nil (state m k v) }
  goes (t ∷ front) ts m k es d apart = let one = takes m k t (front ++ ts) es d apart in both t front ts m k es one (goes front ts (G.pass (G.kind t) m) one.stack one.later one.derives one.apart)

  -- and to its end
  pub closes : (m : M) (k : List S) (es : List (Event S T A)) → Derives G m k [] es → (v : V) → closed G B m k v ≡ Some (performs B es v)
  unfolding closed
  closes m _ _ nothing v = refl
  closes m _ _ (left_out {s} {k} {as'} {es} e d) v = ap (λ l. if_some l (λ as'. closed G B m k (performs B (said_events as') v))) e ∙ closes m k es d (performs B (said_events as') v)
      ∙ ap (λ w. Some w) (sym (performs-append G B (said_events as') es v))
