-- A text tells one thing, and is refused in one way.
use Rattle.std.proofs.Common.{◌≡◌, ◌≤◌, List, [], ◌∷◌, ◌++◌, length, refl, ap, sym, ◌∙◌, subst, Option, Some, None, true, arith, append-nil, append_assoc, length-append}
use Rattle.mars_grammar.specs.FormTable.{FormTable, Event, IsText, BeginsText}
use Rattle.mars_grammar.specs.Testing.{Test, Passes, starts}
use Rattle.mars_grammar.specs.Building.{Build, performs, Fault, Syntax, Over}
use Rattle.mars_grammar.specs.MachineInside.{State, state, closed}
use Rattle.mars_grammar.specs.Refusing.{upto, IsOver, IsAt, tokens_left, IsFirst}
use Rattle.mars_grammar.proofs.Tables.{apart-start}
use Rattle.mars_grammar.proofs.Complete.{goes, closes}

-- the builder that keeps all it is told
abbrev telling : (E : Type 0) → Build E (List E) (Unit {0})
telling E = record { perform = λ e v. v ++ (e ∷ []); refuses = λ v. None }

told-all : {E : Type 0} (es v : List E) → performs (telling E) es v ≡ v ++ es
told-all [] v = sym (append-nil v)
told-all {E} (e ∷ es) v = told-all es (v ++ (e ∷ [])) ∙ append_assoc v (e ∷ []) es

one-built : {S M V : Type 0} (a b : State S M V) → ◌≡◌ {A = Option (State S M V)} (Some a) (Some b) → a ≡ b
one-built a b e = cc

one-list : {A : Type 0} (a b : A) → ◌≡◌ {A = Option A} (Some a) (Some b) → a ≡ b
one-list a b e = cc

module _ {S K T A M : Type 0} (G : FormTable S K T A M) (C : Test S K T M) (P : Passes G C) (start : List S) (tokens : List T) (can : starts G C start ≡ true) where
  pub one-value : (es fs : List (Event S T A)) → IsText G start tokens es → IsText G start tokens fs → es ≡ fs
  one-value es fs a b =
      let B = telling (Event S T A) in
      let text-a : IsText G start (tokens ++ []) es = subst (λ ts. IsText G start ts es) (sym (append-nil tokens)) a in
      let text-b : IsText G start (tokens ++ []) fs = subst (λ ts. IsText G start ts fs) (sym (append-nil tokens)) b in
      let x = goes G C P B tokens [] G.free start es text-a (apart-start G C P start can) in
      let y = goes G C P B tokens [] G.free start fs text-b (apart-start G C P start can) in
      let same = one-built (state x.mode x.stack (performs B (upto tokens es) [])) (state y.mode y.stack (performs B (upto tokens fs) [])) (sym (x.walks []) ∙ y.walks []) in
      let ends-x = closes G C P B x.mode x.stack x.later x.derives [] in
      let ends-y = closes G C P B y.mode y.stack y.later y.derives [] in
      let later = one-list _ _ (sym ends-x ∙ ap (λ n. closed G B n.mode n.stack []) same ∙ ends-y) in
      x.whole ∙ ap (λ l. l ++ x.later) (sym (told-all (upto tokens es) []) ∙ ap (λ n. n.built) same ∙ told-all (upto tokens fs) [])
      ∙ ap (λ l. upto tokens fs ++ l) (sym (told-all x.later []) ∙ later ∙ told-all y.later []) ∙ sym y.whole

module _ {S K T A M : Type 0} (G : FormTable S K T A M) (C : Test S K T M) (P : Passes G C) (start : List S) (front more rest : List T) (can : starts G C start ≡ true) where
  pub same-beginning : (es fs : List (Event S T A)) → IsText G start (front ++ more) es → IsText G start (front ++ rest) fs → upto front es ≡ upto front fs
  same-beginning es fs a b =
      let B = telling (Event S T A) in
      let x = goes G C P B front more G.free start es a (apart-start G C P start can) in
      let y = goes G C P B front rest G.free start fs b (apart-start G C P start can) in
      let same = one-built (state x.mode x.stack (performs B (upto front es) [])) (state y.mode y.stack (performs B (upto front fs) [])) (sym (x.walks []) ∙ y.walks []) in
      sym (told-all (upto front es) []) ∙ ap (λ n. n.built) same ∙ told-all (upto front fs) []

same-split : {T : Type 0} (a b c d : List T) → a ++ b ≡ c ++ d → length b ≡ length d → (a ≡ c) × (b ≡ d)
same-split [] b [] d e f = (refl, e)
same-split [] b (y ∷ c) d e f = absurd (let g = ap (λ l. length l) e in omega (arith, length-append (y ∷ c) d, length-append c d))
same-split (x ∷ a) b [] d e f = absurd (let g = ap (λ l. length l) e in omega (arith, length-append (x ∷ a) b, length-append a b))
same-split {T} (x ∷ a) b (y ∷ c) d e f = let both = same-split a b c d (tail-same x y (a ++ b) (c ++ d) e) f in (cons-same x y (a ++ b) (c ++ d) e both.0, both.1)
  where
    tail-same : (x y : T) (xs ys : List T) → ◌≡◌ {A = List T} (x ∷ xs) (y ∷ ys) → xs ≡ ys
    tail-same x y xs ys e = cc

    cons-same : (x y : T) (xs ys : List T) → ◌≡◌ {A = List T} (x ∷ xs) (y ∷ ys) → {us vs : List T} → us ≡ vs → ◌≡◌ {A = List T} (x ∷ us) (y ∷ vs)
    cons-same x y xs ys e f = cc

module _ {S K T A M V L : Type 0} (G : FormTable S K T A M) (C : Test S K T M) (P : Passes G C) (B : Build (Event S T A) V L) (start : List S) (v : V) (can : starts G C start ≡ true) where
  -- what is made up to some tokens is the same in each text
  over-same : (front : List T) (l r : L) → IsOver G B start v l front → IsOver G B start v r front → l ≡ r
  over-same front l r a b =
      let x = goes G C P B front a.more G.free start a.events a.text (apart-start G C P start can) in
      let y = goes G C P B front b.more G.free start b.events b.text (apart-start G C P start can) in
      let same = one-built _ _ (sym (x.walks v) ∙ y.walks v) in
      one-list l r (sym a.refuses ∙ ap (λ n. B.refuses n.built) same ∙ b.refuses)

  over-begins : (front : List T) (l : L) → IsOver G B start v l front → BeginsText G start front
  over-begins front l over = record { more = over.more; events = over.events; text = over.text }

  one-at : (a b : Fault L) (front rest : List T) → length rest ≡ tokens_left a → length rest ≡ tokens_left b → IsAt G B start v a front rest → IsAt G B start v b front rest → a ≡ b
  one-at (Syntax m) (Syntax n) front rest e f x y = ap (λ i. Syntax i) (sym e ∙ f)
  one-at (Syntax m) (Over l n) front [] e f x y = absurd y
  one-at (Syntax m) (Over l n) front (t ∷ rest) e f x y = absurd (x (over-begins (front ++ (t ∷ [])) l y))
  one-at (Over l m) (Syntax n) front [] e f x y = absurd x
  one-at (Over l m) (Syntax n) front (t ∷ rest) e f x y = absurd (y (over-begins (front ++ (t ∷ [])) l x))
  one-at (Over l m) (Over r n) front [] e f x y = absurd x
  one-at (Over l m) (Over r n) front (t ∷ rest) e f x y = ap (λ i. Over l i) (sym e ∙ f) ∙ ap (λ l. Over l n) (over-same (front ++ (t ∷ [])) l r x y)

  pub one-refusal : (tokens : List T) (a b : Fault L) → IsFirst G B start v tokens a → IsFirst G B start v tokens b → a ≡ b
  one-refusal tokens a b x y =
      let m : tokens_left a ≤ tokens_left b = y.least a x.has in
      let n : tokens_left b ≤ tokens_left a = x.least b y.has in
      let same : tokens_left a ≡ tokens_left b = omega (arith, m, n) in
      let split = same-split x.has.front x.has.rest y.has.front y.has.rest (sym x.has.whole ∙ y.has.whole) (x.has.left ∙ same ∙ sym y.has.left) in
      one-at a b y.has.front y.has.rest (y.has.left ∙ sym same) y.has.left (subst (λ r. IsAt G B start v a y.has.front r) split.1 (subst (λ f. IsAt G B start v a f x.has.rest) split.0 x.has.here)) y.has.here
