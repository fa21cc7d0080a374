-- The pins of one caller, and what its own entries tell of them.
use Rattle.std.proofs.Common.{◌≡◌, ◌↔◌, ◌⊎◌, ℕ, ◌<◌, ◌&&◌, Bool, true, false, cond, nat_eq, List, [], ◌∷◌, ◌++◌, map, filter, zero, suc, slice_index_or, refl, sym, subst, ap, ◌∙◌, arith, inl, inr, Contains, eq-eqb}
use Rattle.std.proofs.lemmas.Bool.{false≢true}
use Rattle.std.proofs.lemmas.Bool.Decides.{nat_tests}
use Rattle.std.proofs.lemmas.List.{map-append, append-nil}
use Rattle.std.proofs.lemmas.List.Elements.{Contains-append_left, Contains-append_right, Contains-append_cases, Contains-push, filter-append}
use Rattle.mars_rows.specs.Object.{TableObject, empty_table, row_number}
use Rattle.mars_rows.specs.RowsObject.{table_for, without_first}
use Rattle.mars_table.specs.declared.entry.Call.{Call}
use Rattle.mars_table.specs.declared.entry.Call.TheVariants.{Intern, Pin, Show, Drop, Sweep, Count}
use Rattle.mars_table.specs.declared.entry.Reply.{Reply}
use Rattle.mars_table.specs.declared.entry.Entry.{Entry}
use Rattle.mars_table.specs.Calls.{MayCall, after_call, IsReply}
use Rattle.mars_table.specs.History.{AreReplies, after_all, after_history, of, pins_of, held_after, held_from, held, without_number, OwnsFor}
use Rattle.mars_table.specs.HistoryLaws.{PinsAreOwn, CallsAreOwn}
use Rattle.mars_table.proofs.CallLemmas.{intern_cases, for_pins}

-- nothing is in an empty list
pub nowhere : {A : Type 0} (x : A) → Contains [] x → ⊥
nowhere x c = omega (arith, c.1)

-- the one element of a list
pub only : {A : Type 0} (x y : A) → Contains (x ∷ []) y → x ≡ y
only x y (k, lt, e) = go k lt e
  where
    go : (k : ℕ) → k < 1 → slice_index_or (x ∷ []) k y ≡ y → x ≡ y
    go zero lt e = e
    go (suc k) lt e = absurd (omega (arith, lt))

-- a pin is one of its caller's
pub own_pin : (who h : ℕ) (pins : List (ℕ × ℕ)) → Contains pins (who, h) → Contains (pins_of who pins) h
own_pin who h [] c = absurd (nowhere (who, h) c)
own_pin who h (pin ∷ pins) c = either (nat_eq pin.0 who) refl (Contains-append_cases (pin ∷ []) pins (who, h) c) (own_pin who h pins)
  where
    either : (b : Bool) → nat_eq pin.0 who ≡ b → Contains (pin ∷ []) (who, h) ⊎ Contains pins (who, h) → (Contains pins (who, h) → Contains (pins_of who pins) h) →
        Contains (map (λ pin. pin.1) (cond b (pin ∷ filter (λ pin. nat_eq pin.0 who) pins) (filter (λ pin. nat_eq pin.0 who) pins))) h
    either true e (inl here) later =
        subst (λ (x : ℕ). Contains (x ∷ pins_of who pins) h) (sym (ap (λ (p : ℕ × ℕ). p.1) (only pin (who, h) here))) (Contains-append_left (h ∷ []) (pins_of who pins) h (Contains-push [] h))
    either true e (inr there) later = Contains-append_right (pin.1 ∷ []) (pins_of who pins) h (later there)
    either false e (inl here) later = absurd (false≢true (sym e ∙ eq-eqb pin.0 who (ap (λ (p : ℕ × ℕ). p.0) (only pin (who, h) here))))
    either false e (inr there) later = later there

-- what one of a caller's pins is on is pinned by it
pub pin_of : (who h : ℕ) (pins : List (ℕ × ℕ)) → Contains (pins_of who pins) h → Contains pins (who, h)
pin_of who h [] c = absurd (nowhere h c)
pin_of who h (pin ∷ pins) c = either (nat_eq pin.0 who) refl c (pin_of who h pins)
  where
    either : (b : Bool) → nat_eq pin.0 who ≡ b → Contains (map (λ pin. pin.1) (cond b (pin ∷ filter (λ pin. nat_eq pin.0 who) pins) (filter (λ pin. nat_eq pin.0 who) pins))) h →
        (Contains (pins_of who pins) h → Contains pins (who, h)) → Contains (pin ∷ pins) (who, h)
    either true e c later = elim (Contains-append_cases (pin.1 ∷ []) (pins_of who pins) h c) [
      | inl here ↦
          let first : pin.0 ≡ who = grind (arith, nat_tests, e) in
          let same : pin ≡ (who, h) = ap (λ (x : ℕ). (x, pin.1)) first ∙ ap (λ (y : ℕ). (who, y)) (only pin.1 h here) in
          subst (λ (p : ℕ × ℕ). Contains (p ∷ pins) (who, h)) (sym same) (Contains-append_left ((who, h) ∷ []) pins (who, h) (Contains-push [] (who, h)))
      | inr there ↦ Contains-append_right (pin ∷ []) pins (who, h) (later there)
    ]
    either false e c later = Contains-append_right (pin ∷ []) pins (who, h) (later c)

-- one more pin of the caller
pub own_push : (who h : ℕ) (pins : List (ℕ × ℕ)) → pins_of who (pins ++ (who, h) ∷ []) ≡ pins_of who pins ++ h ∷ []
own_push who h pins =
    ap (map (λ (pin : ℕ × ℕ). pin.1)) (filter-append (λ (pin : ℕ × ℕ). nat_eq pin.0 who) pins ((who, h) ∷ []))
    ∙ ap (λ b. map (λ (pin : ℕ × ℕ). pin.1) (filter (λ (pin : ℕ × ℕ). nat_eq pin.0 who) pins ++ cond b ((who, h) ∷ []) [])) (eq-eqb who who refl)
    ∙ map-append (λ (pin : ℕ × ℕ). pin.1) (filter (λ (pin : ℕ × ℕ). nat_eq pin.0 who) pins) ((who, h) ∷ [])

-- one more pin of another caller
pub other_push : (who other h : ℕ) (pins : List (ℕ × ℕ)) → nat_eq other who ≡ false → pins_of who (pins ++ (other, h) ∷ []) ≡ pins_of who pins
other_push who other h pins e =
    ap (map (λ (pin : ℕ × ℕ). pin.1)) (filter-append (λ (pin : ℕ × ℕ). nat_eq pin.0 who) pins ((other, h) ∷ []))
    ∙ ap (λ b. map (λ (pin : ℕ × ℕ). pin.1) (filter (λ (pin : ℕ × ℕ). nat_eq pin.0 who) pins ++ cond b ((other, h) ∷ []) [])) e
    ∙ map-append (λ (pin : ℕ × ℕ). pin.1) (filter (λ (pin : ℕ × ℕ). nat_eq pin.0 who) pins) []
    ∙ append-nil (pins_of who pins)

-- the first pin of a list, where it is the caller's, and the rest
pub first_pin : (who : ℕ) (pin : ℕ × ℕ) (pins : List (ℕ × ℕ)) → pins_of who (pin ∷ pins) ≡ cond (nat_eq pin.0 who) (pin.1 ∷ pins_of who pins) (pins_of who pins)
first_pin who pin pins = either (nat_eq pin.0 who)
  where
    either : (b : Bool) → map (λ (p : ℕ × ℕ). p.1) (cond b (pin ∷ filter (λ p. nat_eq p.0 who) pins) (filter (λ p. nat_eq p.0 who) pins)) ≡ cond b (pin.1 ∷ pins_of who pins) (pins_of who pins)
    either true = refl
    either false = refl

own_first : (who : ℕ) (pin : ℕ × ℕ) (pins : List (ℕ × ℕ)) (b : Bool) → nat_eq pin.0 who ≡ b → pins_of who (pin ∷ pins) ≡ cond b (pin.1 ∷ pins_of who pins) (pins_of who pins)
own_first who pin pins b e = first_pin who pin pins ∙ ap (λ b. cond b (pin.1 ∷ pins_of who pins) (pins_of who pins)) e

-- one pin of the caller less
pub own_without : (who h : ℕ) (pins : List (ℕ × ℕ)) → pins_of who (without_first who h pins) ≡ without_number h (pins_of who pins)
own_without who h [] = refl
own_without who h (pin ∷ pins) = either (nat_eq pin.0 who) (nat_eq pin.1 h) refl refl (own_without who h pins)
  where
    either : (b c : Bool) → nat_eq pin.0 who ≡ b → nat_eq pin.1 h ≡ c → pins_of who (without_first who h pins) ≡ without_number h (pins_of who pins) →
        pins_of who (cond (b && c) pins (pin ∷ without_first who h pins)) ≡ without_number h (pins_of who (pin ∷ pins))
    either true true e f rest =
        sym (ap (without_number h) (own_first who pin pins true e) ∙ ap (λ c. cond c (pins_of who pins) (pin.1 ∷ without_number h (pins_of who pins))) f)
    either true false e f rest =
        own_first who pin (without_first who h pins) true e ∙ ap (λ xs. pin.1 ∷ xs) rest
        ∙ sym (ap (without_number h) (own_first who pin pins true e) ∙ ap (λ c. cond c (pins_of who pins) (pin.1 ∷ without_number h (pins_of who pins))) f)
    either false c e f rest = own_first who pin (without_first who h pins) false e ∙ rest ∙ sym (ap (without_number h) (own_first who pin pins false e))

-- one pin of another caller less
pub other_without : (who other h : ℕ) (pins : List (ℕ × ℕ)) → nat_eq other who ≡ false → pins_of who (without_first other h pins) ≡ pins_of who pins
other_without who other h [] apart = refl
other_without who other h (pin ∷ pins) apart = either (nat_eq pin.0 other && nat_eq pin.1 h) refl (other_without who other h pins apart)
  where
    either : (b : Bool) → (nat_eq pin.0 other && nat_eq pin.1 h) ≡ b → pins_of who (without_first other h pins) ≡ pins_of who pins →
        pins_of who (cond b pins (pin ∷ without_first other h pins)) ≡ pins_of who (pin ∷ pins)
    either true e rest =
        let first : pin.0 ≡ other = grind (arith, nat_tests, e) in
        sym (own_first who pin pins false (ap (λ x. nat_eq x who) first ∙ apart))
    either false e rest =
        first_pin who pin (without_first other h pins) ∙ ap (λ xs. cond (nat_eq pin.0 who) (pin.1 ∷ xs) xs) rest ∙ sym (first_pin who pin pins)

-- a caller's own call
pub own_call : (t : TableObject) (who : ℕ) (call : Call) (reply : Reply) → IsReply t call reply → pins_of who (after_call t who call).pins ≡ held_after (pins_of who t.pins) call reply
own_call t who (Intern g) reply is =
    subst (λ (r : Reply). pins_of who (after_call t who (Intern g)).pins ≡ held_after (pins_of who t.pins) (Intern g) r) (sym is)
    (intern_cases t who g (λ new r. pins_of who new.pins ≡ held_after (pins_of who t.pins) (Intern g) r) (λ rows fresh. refl)
    (λ e. own_push who (row_number (table_for t g).rows (table_for t g).next g 0) (table_for t g).pins
    ∙ ap (λ pins. pins_of who pins ++ row_number (table_for t g).rows (table_for t g).next g 0 ∷ []) (for_pins t who g)))
own_call t who (Pin h) reply is = subst (λ (r : Reply). pins_of who (t.pins ++ (who, h.0) ∷ []) ≡ held_after (pins_of who t.pins) (Pin h) r) (sym is) (own_push who h.0 t.pins)
own_call t who (Show h) reply is = refl
own_call t who (Drop h) reply is = subst (λ (r : Reply). pins_of who (without_first who h.0 t.pins) ≡ held_after (pins_of who t.pins) (Drop h) r) (sym is) (own_without who h.0 t.pins)
own_call t who Sweep reply is = refl
own_call t who Count reply is = refl

-- a call of another caller
pub other_call : (t : TableObject) (who other : ℕ) (call : Call) → nat_eq other who ≡ false → pins_of who (after_call t other call).pins ≡ pins_of who t.pins
other_call t who other (Intern g) apart =
    intern_cases t other g (λ new r. pins_of who new.pins ≡ pins_of who t.pins) (λ rows fresh. refl)
    (λ e. other_push who other (row_number (table_for t g).rows (table_for t g).next g 0) (table_for t g).pins apart ∙ ap (pins_of who) (for_pins t other g))
other_call t who other (Pin h) apart = other_push who other h.0 t.pins apart
other_call t who other (Show h) apart = refl
other_call t who other (Drop h) apart = other_without who other h.0 t.pins apart
other_call t who other Sweep apart = refl
other_call t who other Count apart = refl

pub pins_from : (who : ℕ) (t : TableObject) (es : List Entry) → AreReplies t es → pins_of who (after_all t es).pins ≡ held_from (pins_of who t.pins) (of es who)
pins_from who t [] are = refl
pins_from who t (e ∷ es) are = either (nat_eq e.who who) refl (pins_from who (after_call t e.who e.call) es are.2)
  where
    either : (b : Bool) → nat_eq e.who who ≡ b → pins_of who (after_all (after_call t e.who e.call) es).pins ≡ held_from (pins_of who (after_call t e.who e.call).pins) (of es who) →
        pins_of who (after_all (after_call t e.who e.call) es).pins ≡ held_from (pins_of who t.pins) (cond b (e ∷ of es who) (of es who))
    either true own rest =
        let same : e.who ≡ who = grind (arith, nat_tests, own) in
        rest ∙ ap (λ pins. held_from pins (of es who)) (ap (λ i. pins_of who (after_call t i e.call).pins) same ∙ own_call t who e.call e.reply are.1)
    either false other rest = rest ∙ ap (λ pins. held_from pins (of es who)) (other_call t who e.who e.call other)

pub pins_are_own : PinsAreOwn
pins_are_own cap history who legal = pins_from who (empty_table cap) history legal

pub calls_are_own : CallsAreOwn
calls_are_own cap history who call legal = by call
  where
    own : pins_of who (after_history cap history).pins ≡ held (of history who)
    own = pins_are_own cap history who legal

    of_pin : (h : ℕ) → Contains (after_history cap history).pins (who, h) ↔ Contains (held (of history who)) h
    of_pin h = (
      λ c. subst (λ (pins : List ℕ). Contains pins h) own (own_pin who h (after_history cap history).pins c),
      λ c. pin_of who h (after_history cap history).pins (subst (λ (pins : List ℕ). Contains pins h) (sym own) c),
    )

    by : (call : Call) → MayCall (after_history cap history) who call ↔ OwnsFor (of history who) call
    by (Intern g) = (λ is. is, λ is. is)
    by (Pin h) = of_pin h.0
    by (Show h) = of_pin h.0
    by (Drop h) = of_pin h.0
    by Sweep = (λ x. x, λ x. x)
    by Count = (λ x. x, λ x. x)
