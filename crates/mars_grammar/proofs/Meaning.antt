-- What symbols mean, told by what their forms mean: which tokens, and what they make of a value.
use Rattle.std.proofs.Common.{◌≡◌, List, [], ◌∷◌, ◌++◌, refl, ap, sym, ◌∙◌, subst, Some, append_assoc}
use Rattle.mars_grammar.specs.FormTable.{FormTable, Event, Read, said_events, Derives, nothing, taken, left_out}
use Rattle.mars_grammar.specs.Building.{Build, performs, both}
use Rattle.mars_grammar.proofs.Sound.{performs-append}
use Rattle.mars_grammar.proofs.Tables.{leaves-at}

-- symbols one after the other
pub data Each {S T V : Type 0} (R : S → List T → V → V → Type 0) : List S → List T → V → V → Type 0 where
  done : {v : V} → Each R [] [] v v
  then : {s : S} {k : List S} {us ts : List T} {v x w : V} → R s us v x → Each R k ts x w → Each R (s ∷ k) (us ++ ts) v w

pub record Split {S T V : Type 0} (R : S → List T → V → V → Type 0) (form k : List S) (ts : List T) (v w : V) : Type 0 where
  pub us : List T
  pub vs : List T
  pub mid : V
  pub whole : us ++ vs ≡ ts
  pub form_each : Each R form us v mid
  pub rest_each : Each R k vs mid w

split-then : {S T V : Type 0} (R : S → List T → V → V → Type 0) (s : S) (form k : List S) (us ts : List T) (v x w : V) → R s us v x → Split R form k ts x w → Split R (s ∷ form) k (us ++ ts) v w
split-then R s form k us ts v x w r more = record {
  us = us ++ more.us;
  vs = more.vs;
  mid = more.mid;
  whole = append_assoc us more.us more.vs ∙ ap (λ l. us ++ l) more.whole;
  form_each = then r more.form_each;
  rest_each = more.rest_each;
}

pub split : {S T V : Type 0} (R : S → List T → V → V → Type 0) (form k : List S) (ts : List T) (v w : V) → Each R (form ++ k) ts v w → Split R form k ts v w
split R [] k ts v w each = record { us = []; vs = ts; mid = v; whole = refl; form_each = done; rest_each = each }
split R (s ∷ form) k _ v w (then {us = us} {ts = ts} {x = x} r each) = split-then R s form k us ts v x w r (split R form k ts x w each)

module _ {S K T A M V L : Type 0} (G : FormTable S K T A M) (B : Build (Event S T A) V L) (R : S → List T → V → V → Type 0)
    (takes : (s : S) (t : T) (form : List S) (ts : List T) (v w : V) → G.takes s (G.kind t) ≡ Some form → Each R form ts (B.perform (Read s t) v) w → R s (t ∷ ts) v w)
    (leaves : (s : S) (as' : List A) (v : V) → G.leaves s ≡ Some as' → R s [] v (performs B (said_events as') v)) where
  means-taken : (s : S) (k : List S) (t : T) (form : List S) (ts : List T) (v w : V) → G.takes s (G.kind t) ≡ Some form → Split R form k ts (B.perform (Read s t) v) w → Each R (s ∷ k) (t ∷ ts) v w
  means-taken s k t form ts v w e parts = subst (λ l. Each R (s ∷ k) (t ∷ l) v w) parts.whole (then (takes s t form parts.us v parts.mid e parts.form_each) parts.rest_each)

  -- what a text makes is what its symbols mean
  pub means : (m : M) (k : List S) (ts : List T) (es : List (Event S T A)) → Derives G m k ts es → (v : V) → Each R k ts v (performs B es v)
  means m _ _ _ nothing v = done
  means m _ _ _ (taken {s} {k} {form} {t} {ts} {es} e d) v =
      means-taken s k t form ts v (performs B es (B.perform (Read s t) v)) e (split R form k ts (B.perform (Read s t) v) (performs B es (B.perform (Read s t) v)) (means (G.pass (G.kind t) m) (form ++ k) ts es d (B.perform (Read s t) v)))
  means m _ _ _ (left_out {s} {k} {ts} {as'} {es} e d) v =
      subst (λ w. Each R (s ∷ k) ts v w) (sym (performs-append G B (said_events as') es v))
      (then (leaves s as' v (leaves-at G s (G.stays m s) as' e)) (means m k ts es d (performs B (said_events as') v)))

-- two builders side by side do what each does
pub both-first : {E V W L R : Type 0} (B : Build E V L) (D : Build E W R) (es : List E) (v : V × W) → (performs (both B D) es v).0 ≡ performs B es v.0
both-first B D [] v = refl
both-first B D (e ∷ es) v = both-first B D es (B.perform e v.0, D.perform e v.1)

pub both-second : {E V W L R : Type 0} (B : Build E V L) (D : Build E W R) (es : List E) (v : V × W) → (performs (both B D) es v).1 ≡ performs D es v.1
both-second B D [] v = refl
both-second B D (e ∷ es) v = both-second B D es (B.perform e v.0, D.perform e v.1)
