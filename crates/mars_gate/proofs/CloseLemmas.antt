-- What the close of a book tells of a pass that made the closing calls.
use Rattle.std.proofs.Common.{◌≡◌, ℕ, List, [], ◌∷◌, ◌++◌, refl, ap, ◌∙◌, subst}
use mathlib.Core.List.{IsPrefix}
use Rattle.mars_turn.specs.Items.{AllMade}
use Rattle.mars_turn.specs.Views.{OnlyOf}
use Rattle.mars_table.specs.declared.entry.Call.TheVariants.{Sweep, Count}
use Rattle.mars_table.specs.declared.entry.Reply.TheVariants.{Swept, Counted}
use Rattle.mars_table.specs.declared.entry.Entry.{Entry}
use Rattle.mars_table.specs.History.{of, call_entry}
use Rattle.mars_book.specs.BookCalls.{Called, with_call}
use Rattle.mars_book.specs.PassSeen.{PassSeen}
use Rattle.mars_gate.specs.declared.closing.ClosingReplies.{ClosingReplies}
use Rattle.mars_gate.specs.ClosingInside.{IsClosedBy}
use Rattle.mars_gate.proofs.PassLemmas.{prefix_on}

pub entry_by : Entry → ℕ
entry_by e = e.who

-- what was seen before two calls begins what was seen after them
begins_two : (s b c : List Entry) (e f : Entry) → IsPrefix s ((((s ++ b) ++ e ∷ []) ++ c) ++ f ∷ [])
begins_two s b c e f = prefix_on s (s ++ b) ((((s ++ b) ++ e ∷ []) ++ c) ++ f ∷ []) (b, refl)
    (prefix_on (s ++ b) (((s ++ b) ++ e ∷ []) ++ c) ((((s ++ b) ++ e ∷ []) ++ c) ++ f ∷ [])
    (prefix_on (s ++ b) ((s ++ b) ++ e ∷ []) (((s ++ b) ++ e ∷ []) ++ c) (e ∷ [], refl) (c, refl))
    (f ∷ [], refl))

module _ (p q r : PassSeen) (told : ClosingReplies) (history : List Entry) (none : p.view.mine ≡ []) (first : Called p Sweep (Swept told.swept) q) (next : Called q Count (Counted told.rows told.pins) r) where
  second : Called (with_call p first.between (call_entry p.view.number Sweep (Swept told.swept))) Count (Counted told.rows told.pins) r
  second = subst (λ (x : PassSeen). Called x Count (Counted told.rows told.pins) r) first.is_new next

  abbrev after : PassSeen
  after = with_call (with_call p first.between (call_entry p.view.number Sweep (Swept told.swept))) second.between (call_entry p.view.number Count (Counted told.rows told.pins))

  pub closed_by : IsPrefix r.view.seen history → of history r.view.number ≡ r.view.mine → AllMade (λ e. e.who) history r.view.ended → OnlyOf (λ e. e.who) r.view history → IsClosedBy p.view told history
  closed_by seen own ended others =
      let e = call_entry p.view.number Sweep (Swept told.swept) in
      let f = call_entry p.view.number Count (Counted told.rows told.pins) in
      let is : r ≡ after = second.is_new in
      let all = subst (λ (x : PassSeen). OnlyOf (λ (y : Entry). y.who) x.view history) is others in
      record {
        seen = prefix_on p.view.seen after.view.seen history (begins_two p.view.seen first.between second.between e f) (subst (λ (x : PassSeen). IsPrefix x.view.seen history) is seen);
        own = subst (λ (x : PassSeen). of history x.view.number ≡ x.view.mine) is own ∙ ap (λ (l : List Entry). (l ++ e ∷ []) ++ f ∷ []) none;
        ended = subst (λ (x : PassSeen). AllMade (λ (y : Entry). y.who) history x.view.ended) is ended;
        others = record { no_others = all.no_others; numbers = all.numbers };
      }
