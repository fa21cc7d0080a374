-- What a call makes of the pins that a pass's own entries leave it.
use Rattle.std.proofs.Common.{◌≡◌, ℕ, List, [], ◌∷◌, ◌++◌, refl, sym, subst, ap, ◌∙◌, arith, eq-eqb, Contains}
use Rattle.mars_table.specs.declared.entry.Call.{Call}
use Rattle.mars_table.specs.declared.entry.Entry.{Entry}
use Rattle.mars_table.specs.declared.entry.Reply.{Reply}
use Rattle.mars_table.specs.History.{held, held_from, held_after, without_number, call_entry}
use Rattle.mars_book.specs.PassSeen.{PassSeen}
use Rattle.mars_book.specs.BookCalls.{Called}

held_push : (pins : List ℕ) (es : List Entry) (e : Entry) → held_from pins (es ++ e ∷ []) ≡ held_after (held_from pins es) e.call e.reply
held_push pins [] e = refl
held_push pins (x ∷ es) e = held_push (held_after pins x.call x.reply) es e

-- the pins after a call
pub held_called : (old new : PassSeen) (call : Call) (reply : Reply) → Called old call reply new → held new.view.mine ≡ held_after (held old.view.mine) call reply
held_called old new call reply called = ap (λ (p : PassSeen). held p.view.mine) called.is_new ∙ held_push [] old.view.mine (call_entry old.view.number call reply)

-- a pass has a pin on a number that it has a first pin on
pub has_first : (pins : List ℕ) (h : ℕ) (rest : List ℕ) → pins ≡ h ∷ rest → Contains pins h
has_first pins h rest is = subst (λ (xs : List ℕ). Contains xs h) (sym is) (0, omega arith, refl)

-- the first pin goes
pub first_gone : (pins : List ℕ) (h : ℕ) (rest : List ℕ) → pins ≡ h ∷ rest → without_number h pins ≡ rest
first_gone pins h rest is = ap (without_number h) is ∙ rw (eq-eqb h h refl) refl
