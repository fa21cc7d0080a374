-- The names of a session and its pins: what a session asks of the table it may ask.
use Rattle.std.proofs.Common.{◌≡◌, ℕ, zero, suc, ◌+◌, ◌<◌, ◌≤◌, List, [], ◌∷◌, ◌++◌, length, map, refl, ap, sym, ◌∙◌, subst, arith, append-nil, inl, inr}
use Rattle.std.specs.Prelude.{◌⊎◌, ⊤, Option, Some, None, slice_get, Bool, true, false, not, nat_eq, nat_lt, if◌then◌else◌, find, position, remove, unwrap_or, option_and_then, Contains}
use Rattle.std.specs.List.{position_or_len}
use Rattle.std.specs.Option.{option_map}
use Rattle.std.proofs.Math.Numerals.{one-add}
use Rattle.std.proofs.lemmas.List.{map-append, take_all, drop_all}
use Rattle.std.proofs.lemmas.List.Folds.{find_at}
use Rattle.std.proofs.lemmas.Option.{slice_get_past}
use Rattle.std.proofs.lemmas.Bool.{lt-ltb, eqb-true, eq-eqb, cases_lt}
use Rattle.mars_tree.specs.declared.label.NameId.{NameId}
use Rattle.mars_tree.specs.Graph.{Node}
use Rattle.mars_canon.specs.Canon.{Rooted}
use Rattle.mars_canon.specs.Tree.{IsTree}
use Rattle.mars_script.specs.declared.script.Command.{Command}
use Rattle.mars_script.specs.declared.script.Command.TheVariants as command
use Rattle.mars_table.specs.declared.entry.Call.{Call}
use Rattle.mars_table.specs.declared.entry.Reply.{Reply}
use Rattle.mars_table.specs.declared.entry.Reply.TheVariants.{Kept, Full, Pinned, Shown, Dropped, Swept, Counted}
use Rattle.mars_table.specs.declared.entry.Entry.{Entry}
use Rattle.mars_table.specs.History.{call_entry, held, held_from, held_after, without_number, OwnsFor}
use Rattle.mars_session.specs.declared.named.Named.{Named}
use Rattle.mars_session.specs.declared.named.TreeForm.{TreeForm}
use Rattle.mars_session.specs.declared.named.TreeForm.TheVariants.{Free, Large, Small}
use Rattle.mars_session.specs.SessionPoints.{SessionPart, SessionPoint, LatestAsk, session_start, under_name, without_name, named_trees, held_numbers}
use Rattle.mars_session.specs.CommandActs.{CommandAct, Writes, Uses, Asks, TableUse, Keeps, Pins, Shows, Drops, Sweeps, Counts, ActsAt, AnswersCall, call_of, names_after, IsTreeForm, form_act, KeepsTree, PutActs, KeepsRoot, KeepsVariable, KeepsLatest, KeepActs, variable_place, SameActs, ask_act, show_act, pin_act, drop_act}
use Rattle.mars_session.specs.AskEvents.{AskEvent}
use Rattle.mars_session.specs.SessionEvents.{stepped_by, DoesAct, AreEvents}
use Rattle.mars_session.specs.SessionLaws.{CallsAreAllowed}

one_if : Bool → ℕ
one_if true = 1
one_if false = 0

-- how often x is in the list
occurs : ℕ → List ℕ → ℕ
occurs x [] = 0
occurs x (y ∷ ys) = one_if (nat_eq y x) + occurs x ys

told : (b : Bool) → (b ≡ true) ⊎ (b ≡ false)
told true = inl refl
told false = inr refl

positive : (n : ℕ) → 0 < 0 + n → 0 < n
positive n h = omega (arith, h)

occurs_snoc : (x y : ℕ) (ys : List ℕ) → occurs x (ys ++ y ∷ []) ≡ occurs x ys + one_if (nat_eq y x)
unfolding occurs
occurs_snoc x y [] = omega arith
occurs_snoc x y (z ∷ ys) = omega (arith, occurs_snoc x y ys)

occurs_first : (h x : ℕ) (ys : List ℕ) → 0 < occurs h ys → occurs x ys ≡ occurs x (without_number h ys) + one_if (nat_eq h x)
unfolding occurs one_if
occurs_first h x [] some = absurd (omega (arith, some))
occurs_first h x (y ∷ ys) some = elim (told (nat_eq y h)) [
  | inl same ↦ let one : y ≡ h = eqb-true y h same in rw (same, one) (omega arith)
  | inr other ↦ let less : 0 < occurs h ys = positive (occurs h ys) (rw other at some) in rw other (omega (arith, occurs_first h x ys less))
]

occurs_contains : (h : ℕ) (ys : List ℕ) → 0 < occurs h ys → Contains ys h
unfolding occurs one_if
occurs_contains h [] some = absurd (omega (arith, some))
occurs_contains h (y ∷ ys) some = elim (told (nat_eq y h)) [
  | inl same ↦ (zero, (omega arith), eqb-true y h same)
  | inr other ↦ let less : 0 < occurs h ys = positive (occurs h ys) (rw other at some) in let c = occurs_contains h ys less in (suc c.0, (omega (arith, c.1)), c.2)
]

module _ (test : Named → Bool) where
  out : List Named → List Named
  out [] = []
  out (n ∷ names) = if test n then names else n ∷ out names

  out_by : (b : Bool) (n : Named) (names less : List Named) (k : ℕ) → less ≡ remove names k → (if b then names else n ∷ less) ≡ remove (n ∷ names) (if not b then 1 + k else 0)
  out_by true n names less k e = refl
  out_by false n names less k e = rw (one-add k) (ap (λ (l : List Named). n ∷ l) e)

  out_at : (names : List Named) → out names ≡ remove names (position_or_len test names)
  unfolding out
  out_at [] = refl
  out_at (n ∷ names) = out_by (test n) n names (out names) (position_or_len test names) (out_at names)

  found : (b : Bool) (k : ℕ) (names : List Named) → (b ≡ false → length names ≤ k) → option_and_then (λ i. slice_get names i) (if b then Some k else None) ≡ slice_get names k
  found true k names past = refl
  found false k names past = sym (slice_get_past names k (past refl))

  removed : (b : Bool) (k : ℕ) (names : List Named) → (b ≡ false → length names ≤ k) → unwrap_or (option_map (remove names) (if b then Some k else None)) names ≡ remove names k
  removed true k names past = refl
  removed false k names past = sym (rw (take_all k names (past refl), drop_all (suc k) names (let le = past refl in omega (arith, le))) (append-nil names))

  at_past : (k m : ℕ) → nat_lt k m ≡ false → m ≤ k
  at_past k m e = elim (cases_lt k m) [ inl lt ↦ absurd (cc (e, lt-ltb k m lt)) | inr le ↦ le ]

  found_is : (names : List Named) → option_and_then (λ i. slice_get names i) (position test names) ≡ find test names
  found_is names = found (nat_lt (position_or_len test names) (length names)) (position_or_len test names) names (at_past (position_or_len test names) (length names)) ∙ sym (find_at test names)

  out_is : (names : List Named) → unwrap_or (option_map (remove names) (position test names)) names ≡ out names
  out_is names = removed (nat_lt (position_or_len test names) (length names)) (position_or_len test names) names (at_past (position_or_len test names) (length names)) ∙ sym (out_at names)

  occurs_out : (names : List Named) (n : Named) (x : ℕ) → find test names ≡ Some n → occurs x (held_numbers names) ≡ occurs x (held_numbers (out names)) + one_if (nat_eq n.handle.0 x)
  unfolding occurs out
  occurs_out [] n x e = absurd (cc e)
  occurs_out (m ∷ names) n x e = elim (told (test m)) [
    | inl hit ↦ let same : m ≡ n = (let f = (rw hit at e) in cc f) in rw (hit, same) (omega arith)
    | inr miss ↦ let f : find test names ≡ Some n = rw miss at e in rw miss (omega (arith, occurs_out names n x f))
  ]

  occurs_found : (names : List Named) (n : Named) → find test names ≡ Some n → 0 < occurs n.handle.0 (held_numbers names)
  unfolding occurs one_if
  occurs_found [] n e = absurd (cc e)
  occurs_found (m ∷ names) n e = elim (told (test m)) [
    | inl hit ↦ let same : m ≡ n = (let f = (rw hit at e) in cc f) in rw (same, eq-eqb n.handle.0 n.handle.0 refl) (omega arith)
    | inr miss ↦ let f : find test names ≡ Some n = rw miss at e in let more = occurs_found names n f in omega (arith, more)
  ]

held_snoc : (pins : List ℕ) (mine : List Entry) (e : Entry) → held_from pins (mine ++ e ∷ []) ≡ held_after (held_from pins mine) e.call e.reply
held_snoc pins [] e = refl
held_snoc pins (m ∷ mine) e = held_snoc (held_after pins m.call m.reply) mine e

-- each name has a pin of its own
Match : List Named → List ℕ → Type 0
Match names pins = (x : ℕ) → occurs x (held_numbers names) ≡ occurs x pins

one_more : (names : List Named) (pins : List ℕ) (n : Named) → Match names pins → Match (names ++ n ∷ []) (pins ++ n.handle.0 ∷ [])
unfolding Match
one_more names pins n m x = rw (map-append (λ (n : Named). n.handle.0) names (n ∷ [])) (occurs_snoc x n.handle.0 (map (λ (n : Named). n.handle.0) names) ∙ ap (λ (k : ℕ). k + one_if (nat_eq n.handle.0 x)) (m x) ∙ sym (occurs_snoc x n.handle.0 pins))

-- the test for a name
is_of : NameId → Named → Bool
is_of name n = nat_eq n.name.0 name.0

found_held : (names : List Named) (pins : List ℕ) (name : NameId) (n : Named) → under_name names name ≡ Some n → Match names pins → 0 < occurs n.handle.0 pins
unfolding Match is_of
found_held names pins name n is m =
    let test : Named → Bool = is_of name in
    subst (λ (k : ℕ). 0 < k) (m n.handle.0) (occurs_found test names n (sym (found_is test names) ∙ is))

one_less : (names : List Named) (pins : List ℕ) (name : NameId) (n : Named) → under_name names name ≡ Some n → Match names pins → Match (without_name name names) (without_number n.handle.0 pins)
unfolding Match is_of
one_less names pins name n is m x =
    let test : Named → Bool = is_of name in
    let f : find test names ≡ Some n = sym (found_is test names) ∙ is in
    let some : 0 < occurs n.handle.0 pins = found_held names pins name n is m in
    ap (λ (l : List Named). occurs x (held_numbers l)) (out_is test names) ∙ equal_less (occurs x (held_numbers (out test names))) (occurs x (without_number n.handle.0 pins)) (one_if (nat_eq n.handle.0 x)) (sym (occurs_out test names n x f) ∙ m x ∙ occurs_first n.handle.0 x pins some)
  where
    equal_less : (a b k : ℕ) → a + k ≡ b + k → a ≡ b
    equal_less a b k e = omega (arith, e)

-- What is wanted of the table comes from the session's own names.
abbrev UseHolds : List Named → TableUse → Type 0
UseHolds names (Keeps name tree) = IsTree tree
UseHolds names (Pins new n) = (name : NameId) × (under_name names name ≡ Some n)
UseHolds names (Shows name n) = under_name names name ≡ Some n
UseHolds names (Drops name n) = under_name names name ≡ Some n
UseHolds names Sweeps = ⊤
UseHolds names Counts = ⊤

module _ (names : List Named) (wish : TableUse) where
  form_holds : (name : NameId) (g : List Node) (n : ℕ) (form : TreeForm) → IsTreeForm g n form → Uses wish ≡ form_act name form → UseHolds names wish
  form_holds name g n Free is e = absurd (cc e)
  form_holds name g n (Large count) is e = absurd (cc e)
  form_holds name g n (Small tree) is e = let same : Keeps name tree ≡ wish = cc e in subst (UseHolds names) same is.2

  keeps_holds : (name : NameId) (g : List Node) (n : ℕ) → KeepsTree name g n (Uses wish) → UseHolds names wish
  keeps_holds name g n k = form_holds name g n k.0 k.1 k.2

  put_holds : (o : Option Named) (name : NameId) (g : List Node) (n : ℕ) → PutActs o name g n (Uses wish) → UseHolds names wish
  put_holds (Some taken) name g n e = absurd (cc e)
  put_holds None name g n k = keeps_holds name g n k

  root_holds : (name : NameId) (c : Rooted) (o : Option ℕ) → KeepsRoot name c o (Uses wish) → UseHolds names wish
  root_holds name c None e = absurd (cc e)
  root_holds name c (Some place) k = keeps_holds name c.nodes _ k

  variable_holds : (name var : NameId) (vars : List NameId) (o : Option Rooted) → KeepsVariable name var vars o (Uses wish) → UseHolds names wish
  variable_holds name var vars None e = absurd (cc e)
  variable_holds name var vars (Some c) k = root_holds name c (variable_place vars var) k

  latest_holds : (name var : NameId) (o : Option LatestAsk) → KeepsLatest name var o (Uses wish) → UseHolds names wish
  latest_holds name var None e = absurd (cc e)
  latest_holds name var (Some latest) k = variable_holds name var latest.vars latest.answer k

  keep_holds : (o : Option Named) (name var : NameId) (latest : Option LatestAsk) → KeepActs o name var latest (Uses wish) → UseHolds names wish
  keep_holds (Some taken) name var latest e = absurd (cc e)
  keep_holds None name var latest k = latest_holds name var latest k

  ask_holds : (o : Option (List (List Node))) (ask : _) → Uses wish ≡ ask_act ask o → UseHolds names wish
  ask_holds None ask e = absurd (cc e)
  ask_holds (Some kept) ask e = absurd (cc e)

  same_holds : (o q : Option Named) → SameActs o q (Uses wish) → UseHolds names wish
  same_holds None right e = absurd (cc e)
  same_holds (Some left) None e = absurd (cc e)
  same_holds (Some left) (Some right) (inl h) = absurd (cc h.1)
  same_holds (Some left) (Some right) (inr h) = absurd (cc h.1)

  show_holds : (name : NameId) (o : Option Named) → under_name names name ≡ o → Uses wish ≡ show_act name o → UseHolds names wish
  show_holds name None is e = absurd (cc e)
  show_holds name (Some n) is e = let same : Shows name n ≡ wish = cc e in subst (UseHolds names) same is

  drop_holds : (name : NameId) (o : Option Named) → under_name names name ≡ o → Uses wish ≡ drop_act name o → UseHolds names wish
  drop_holds name None is e = absurd (cc e)
  drop_holds name (Some n) is e = let same : Drops name n ≡ wish = cc e in subst (UseHolds names) same is

  pin_holds : (new old : NameId) (o q : Option Named) → under_name names old ≡ o → Uses wish ≡ pin_act new o q → UseHolds names wish
  pin_holds new old None q is e = absurd (cc e)
  pin_holds new old (Some n) (Some taken) is e = absurd (cc e)
  pin_holds new old (Some n) None is e = let same : Pins new n ≡ wish = cc e in subst (UseHolds names) same (old, is)

use_holds : (p : SessionPoint) (command : Command) (wish : TableUse) → ActsAt p command (Uses wish) → UseHolds p.names wish
unfolding ActsAt
use_holds p (command.Put name graph root) wish h = put_holds p.names wish (under_name p.names name) name graph root h
use_holds p (command.Ask ask) wish h = ask_holds p.names wish (named_trees p.names ask.kept) ask h
use_holds p (command.Keep name var) wish h = keep_holds p.names wish (under_name p.names name) name var p.latest h
use_holds p (command.Same left right) wish h = same_holds p.names wish (under_name p.names left) (under_name p.names right) h
use_holds p (command.Show name) wish h = show_holds p.names wish name (under_name p.names name) refl h
use_holds p (command.Pin new old) wish h = pin_holds p.names wish new old (under_name p.names old) (under_name p.names new) refl h
use_holds p (command.Drop name) wish h = drop_holds p.names wish name (under_name p.names name) refl h
use_holds p command.Sweep wish h = let same : Sweeps ≡ wish = cc h in subst (UseHolds p.names) same tt
use_holds p command.Count wish h = let same : Counts ≡ wish = cc h in subst (UseHolds p.names) same tt

use_matches : (names : List Named) (pins : List ℕ) (wish : TableUse) (reply : Reply) → AnswersCall (call_of wish) reply → UseHolds names wish → Match names pins → Match (names_after names wish reply) (held_after pins (call_of wish) reply)
use_matches names pins (Keeps name tree) (Kept h) fits holds m = one_more names pins (record { name = name; tree = tree; handle = h }) m
use_matches names pins (Keeps name tree) (Full rows fresh cap) fits holds m = m
use_matches names pins (Keeps name tree) Pinned fits holds m = absurd fits
use_matches names pins (Keeps name tree) (Shown other) fits holds m = absurd fits
use_matches names pins (Keeps name tree) Dropped fits holds m = absurd fits
use_matches names pins (Keeps name tree) (Swept gone) fits holds m = absurd fits
use_matches names pins (Keeps name tree) (Counted rows count) fits holds m = absurd fits
use_matches names pins (Pins new n) (Kept h) fits holds m = absurd fits
use_matches names pins (Pins new n) (Full rows fresh cap) fits holds m = absurd fits
use_matches names pins (Pins new n) Pinned fits holds m = one_more names pins (record { name = new; tree = n.tree; handle = n.handle }) m
use_matches names pins (Pins new n) (Shown other) fits holds m = absurd fits
use_matches names pins (Pins new n) Dropped fits holds m = absurd fits
use_matches names pins (Pins new n) (Swept gone) fits holds m = absurd fits
use_matches names pins (Pins new n) (Counted rows count) fits holds m = absurd fits
use_matches names pins (Shows name n) reply fits holds m = m
use_matches names pins (Drops name n) (Kept h) fits holds m = absurd fits
use_matches names pins (Drops name n) (Full rows fresh cap) fits holds m = absurd fits
use_matches names pins (Drops name n) Pinned fits holds m = absurd fits
use_matches names pins (Drops name n) (Shown other) fits holds m = absurd fits
use_matches names pins (Drops name n) Dropped fits holds m = one_less names pins name n holds m
use_matches names pins (Drops name n) (Swept gone) fits holds m = absurd fits
use_matches names pins (Drops name n) (Counted rows count) fits holds m = absurd fits
use_matches names pins Sweeps reply fits holds m = m
use_matches names pins Counts reply fits holds m = m

does_matches : (part : SessionPart) (command : Command) (act : CommandAct) (p q : SessionPoint) → ActsAt p command act → DoesAct part act p q → Match p.names (held p.mine) → Match q.names (held q.mine)
does_matches part command (Writes line) p q is d m = subst (λ (x : SessionPoint). Match x.names (held x.mine)) (sym d) m
does_matches part command (Uses wish) p q is d m = subst (λ (x : SessionPoint). Match x.names (held x.mine)) (sym d.2)
    (subst (λ (l : List ℕ). Match (names_after p.names wish d.0) l) (sym (held_snoc [] p.mine (call_entry part.who (call_of wish) d.0))) (use_matches p.names (held p.mine) wish d.0 d.1 (use_holds p command wish is) m))
does_matches part command (Asks ask kept) p q is d m = by_end d.0.ends d.0 d.2
  where
    by_end : (b : Bool) (event : AskEvent) → q ≡ stepped_by b ask.vars event p → Match q.names (held q.mine)
    by_end true event e = subst (λ (x : SessionPoint). Match x.names (held x.mine)) (sym e) m
    by_end false event e = subst (λ (x : SessionPoint). Match x.names (held x.mine)) (sym e) m

after_matches : (part : SessionPart) (n : ℕ) (p q : SessionPoint) → AreEvents part n p q → Match p.names (held p.mine) → Match q.names (held q.mine)
after_matches part zero p q a m = subst (λ (x : SessionPoint). Match x.names (held x.mine)) (sym a) m
after_matches part (suc n) p q a m = after_matches part n a.0 q a.2 (does_matches part a.1.command a.1.act p a.0 a.1.acts a.1.does m)

allowed : (names : List Named) (mine : List Entry) (wish : TableUse) → UseHolds names wish → Match names (held mine) → OwnsFor mine (call_of wish)
allowed names mine (Keeps name tree) holds m = holds
allowed names mine (Pins new n) holds m = occurs_contains n.handle.0 (held mine) (found_held names (held mine) holds.0 n holds.1 m)
allowed names mine (Shows name n) holds m = occurs_contains n.handle.0 (held mine) (found_held names (held mine) name n holds m)
allowed names mine (Drops name n) holds m = occurs_contains n.handle.0 (held mine) (found_held names (held mine) name n holds m)
allowed names mine Sweeps holds m = tt
allowed names mine Counts holds m = tt

pub calls_are_allowed : CallsAreAllowed
unfolding Match
calls_are_allowed part p call r w = subst (λ (c : Call). OwnsFor p.mine c) (sym w.call_is) (allowed p.names p.mine w.wish (use_holds p w.command w.wish w.acts) (after_matches part r.0 (session_start part) p r.1 (λ x. refl)))
