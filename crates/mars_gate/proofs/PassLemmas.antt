-- Passes that meet one after the other.
use Rattle.std.proofs.Common.{◌≡◌, ℕ, suc, ◌+◌, List, [], ◌∷◌, ◌++◌, length, map, Some, None, slice_get, refl, sym, ap, ◌∙◌, subst, arith, append_assoc, length-append}
use Rattle.std.proofs.lemmas.List.{map-append, reverse-append}
use Rattle.std.specs.Prelude.{All, reverse, Option}
use Rattle.std.proofs.lemmas.List.Elements.{All-cons, All-weaker}
use mathlib.Core.List.{IsPrefix}
use Rattle.mars_base.proofs.ListFacts.{All-get}
use Rattle.mars_turn.specs.Steps.{joined_view, settled_view, either_known}
use Rattle.mars_table.specs.declared.entry.Entry.{Entry}
use Rattle.mars_book.specs.declared.book.Book.{Book}
use Rattle.mars_book.specs.Books.{IsPassOf}
use Rattle.mars_book.specs.PassSeen.{PassSeen, KnowsHistory, knowing}
use Rattle.mars_gate.specs.PassesInside.{made_at, AreMadeAt, HasMetPass, ended_pass, Meeting}

pub prefix_on : {X : Type 0} (xs ys zs : List X) → IsPrefix xs ys → IsPrefix ys zs → IsPrefix xs zs
prefix_on xs ys zs a b = (a.0 ++ b.0, sym (append_assoc xs a.0 b.0) ∙ ap (λ l. l ++ b.0) a.1 ∙ b.1)

-- the last one that is left
pub last_left : (rest gone : List PassSeen) (x : PassSeen) → slice_get (rest ++ x ∷ gone) (length rest) ≡ Some x
last_left [] gone x = refl
last_left (y ∷ rest) gone x = last_left rest gone x

either_none : (a b : Option ℕ) → a ≡ None → either_known a b ≡ b
either_none a b e = ap (λ o. either_known o b) e

pub meets_one : (book : Book) (first : PassSeen) (all rest : List PassSeen) (from p q : PassSeen) → AreMadeAt (length all + 1) all → All (λ x. x.view.ended ≡ []) all
    → Meeting book first all (rest ++ from ∷ []) p → KnowsHistory from.view → IsPassOf book q → KnowsHistory q.view → q ≡ knowing p (settled_view (joined_view p.view from.view))
    → IsPrefix p.view.seen q.view.seen × IsPrefix from.view.seen q.view.seen → Meeting book first all rest q
meets_one book first all rest from p q known none m knows of knows' is seen =
    let parts : all ≡ rest ++ from ∷ m.gone = m.parts ∙ append_assoc rest (from ∷ []) m.gone in
    let here : slice_get all (length rest) ≡ Some from = ap (λ l. slice_get l (length rest)) parts ∙ last_left rest m.gone from in
    let made : p.view.made ≡ None = m.made ∙ ap (made_at (length all + 1)) (let e : length (rest ++ from ∷ []) ≡ suc (length rest) = omega (arith, length-append rest (from ∷ [])) in e) in
    record {
      gone = from ∷ m.gone;
      parts = parts;
      of = of;
      knows = knows';
      number = ap (λ (x : PassSeen). x.view.number) is ∙ m.number;
      mine = ap (λ (x : PassSeen). x.view.mine) is ∙ m.mine;
      ended = ap (λ (x : PassSeen). x.view.ended) is
          ∙ ap (λ (l : List (ℕ × List Entry)). p.view.ended ++ ended_pass from ∷ l) (All-get (λ (x : PassSeen). x.view.ended ≡ []) all (length rest) from none here)
          ∙ ap (λ (l : List (ℕ × List Entry)). l ++ ended_pass from ∷ []) m.ended
          ∙ sym (map-append ended_pass (reverse m.gone) (from ∷ []))
          ∙ ap (map ended_pass) (sym (reverse-append (from ∷ []) m.gone));
      made = ap (λ (x : PassSeen). x.view.made) is ∙ either_none p.view.made from.view.made made ∙ known (length rest) from here;
      met = All-cons (λ (x : PassSeen). HasMetPass x q) from m.gone
          (record { knows = knows; begins = seen.1 })
          (All-weaker (λ (x : PassSeen). HasMetPass x p) (λ (x : PassSeen). HasMetPass x q) (λ x h. record { knows = h.knows; begins = prefix_on x.view.seen p.view.seen q.view.seen h.begins seen.0 }) m.gone m.met);
    }

-- none is left
pub all_met : (book : Book) (first : PassSeen) (all rest : List PassSeen) (p : PassSeen) → Meeting book first all rest p → length rest ≡ 0 → All (λ x. HasMetPass x p) all
all_met book first all [] p m e = subst (λ (l : List PassSeen). All (λ (x : PassSeen). HasMetPass x p) l) (sym m.parts) m.met
all_met book first all (x ∷ rest) p m e = absurd (omega arith)
