-- After the last pass has met the program's and the book is closed.
use Rattle.std.proofs.Common.{◌≡◌, ℕ, ◌<◌, List, [], ◌∷◌, length, map, Some, slice_get, sym, ◌∙◌, subst, arith}
use Rattle.std.specs.Prelude.{All, reverse}
use Rattle.std.proofs.lemmas.Option.{slice_get-get_or, slice_get_within}
use Rattle.std.specs.List.{slice_index_or}
use Rattle.mars_base.proofs.ListFacts.{All-get, All-from_gets}
use Rattle.mars_turn.specs.Items.{times}
use Rattle.mars_turn.specs.Views.{number_of_ended}
use Rattle.mars_table.specs.declared.entry.Entry.{Entry}
use Rattle.mars_table.specs.History.{of}
use Rattle.mars_book.specs.declared.book.Book.{Book}
use Rattle.mars_book.specs.PassSeen.{PassSeen, KnowsHistory}
use Rattle.mars_gate.specs.declared.closing.ClosingReplies.{ClosingReplies}
use Rattle.mars_gate.specs.Closing.{ClosingIsLast, closing_entries}
use Rattle.mars_gate.specs.ClosingInside.{IsClosedBy}
use Rattle.mars_gate.specs.PassesInside.{AreHired, IsHired, HasMetPass, ended_pass}
use Rattle.mars_gate.proofs.ClosingLemmas.{closes_with, between_same, each_ended, none_past}

-- what each hired pass is
pub hired_of : (book : Book) (count : ℕ) (passes : List PassSeen) → AreHired book count passes → All (λ p. (k : ℕ) × IsHired book count k p) passes
hired_of book count passes h = All-from_gets (λ (p : PassSeen). (k : ℕ) × IsHired book count k p) passes (λ k p e. (k, h k p e))

module _ (passes : List PassSeen) (q : PassSeen) (told : ClosingReplies) (history : List Entry)
    (numbers : (k : ℕ) (p : PassSeen) → slice_get passes k ≡ Some p → p.view.number ≡ k)
    (knows : KnowsHistory q.view) (number : q.view.number ≡ length passes) (none : q.view.mine ≡ [])
    (ended : q.view.ended ≡ map ended_pass (reverse passes)) (met : All (λ p. HasMetPass p q) passes) (closed : IsClosedBy q.view told history) where
  pub own_all : All (λ p. of history p.view.number ≡ p.view.mine) passes
  own_all = each_ended (λ (e : ℕ × List Entry). of history e.0 ≡ e.1) passes (subst (λ (l : List (ℕ × List Entry)). All (λ (e : ℕ × List Entry). of history e.0 ≡ e.1) l) ended closed.ended)

  complete_at : (i : ℕ) (p : PassSeen) → slice_get passes i ≡ Some p → of q.view.seen i ≡ of history i
  complete_at i p at =
      let m : HasMetPass p q = All-get (λ (x : PassSeen). HasMetPass x q) passes i p met at in
      let same : of history p.view.number ≡ of p.view.seen p.view.number =
      All-get (λ (x : PassSeen). of history x.view.number ≡ x.view.mine) passes i p own_all at ∙ sym m.knows.own in
      between_same p.view.seen q.view.seen history i m.begins closed.seen (subst (λ (k : ℕ). of history k ≡ of p.view.seen k) (numbers i p at) same)

  complete : (i : ℕ) → i < length passes → of q.view.seen i ≡ of history i
  complete i lt = complete_at i (slice_index_or passes i q) (slice_get-get_or passes i q lt)

  no_others : (i : ℕ) → length passes < i → of history i ≡ []
  no_others i past =
      let below : All (λ (p : PassSeen). p.view.number < length passes) passes =
      All-from_gets (λ (p : PassSeen). p.view.number < length passes) passes (λ k p at. omega (arith, numbers k p at, slice_get_within passes k p at)) in
      closed.others.no_others i (subst (λ (m : ℕ). times i (m ∷ map number_of_ended q.view.ended) ≡ 0) (sym number)
      (subst (λ (l : List (ℕ × List Entry)). times i (length passes ∷ map number_of_ended l) ≡ 0) (sym ended) (none_past i (length passes) passes past below)))

  pub closes_all : ClosingIsLast (length passes) (closing_entries (length passes) told) history
  closes_all =
      closes_with (length passes) q.view.seen (closing_entries (length passes) told) history closed.seen complete
      (subst (λ (k : ℕ). of q.view.seen k ≡ []) number (knows.own ∙ none))
      (subst (λ (k : ℕ). of history k ≡ closing_entries k told) number closed.own)
      no_others
