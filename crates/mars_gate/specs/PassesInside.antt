-- The passes of jobs before their first events, and after their last ones.
use Rattle.std.specs.Prelude.{◌≡◌, ℕ, zero, suc, ◌+◌, List, [], ◌++◌, All, length, map, reverse, Option, Some, None, true, slice_get}
use mathlib.Core.List.{IsPrefix}
use Rattle.mars_turn.specs.declared.pass_view.PassView.{PassView}
use Rattle.mars_table.specs.declared.entry.Entry.{Entry}
use Rattle.mars_book.specs.declared.book.Book.{Book}
use Rattle.mars_book.specs.Books.{IsPassOf}
use Rattle.mars_book.specs.PassSeen.{PassSeen, KnowsHistory}

-- the opening pass knows how many passes there are, and no other does
abbrev pub made_at : ℕ → ℕ → Option ℕ
made_at count zero = Some count
made_at count (suc k) = None

-- pass k of so many, which has made and seen nothing
abbrev pub pass_at : ℕ → ℕ → ℕ → PassView Entry
pass_at cap count k = record { live = true; number = k; fixed = cap; mine = []; seen = []; shorter = []; ended = []; made = made_at count k; entered = None }

-- each pass knows how many there are where it is the opening one
abbrev pub AreMadeAt : ℕ → List PassSeen → Type 0
AreMadeAt count passes = (k : ℕ) (p : PassSeen) → slice_get passes k ≡ Some p → p.view.made ≡ made_at count k

-- a pass as it is kept by one in which it ended
abbrev pub ended_pass : PassSeen → ℕ × List Entry
ended_pass p = (p.view.number, p.view.mine)

-- the pass knows a history, which begins the one that the other has seen
pub record HasMetPass (p all : PassSeen) : Type 0 where
  pub knows : KnowsHistory p.view
  pub begins : IsPrefix p.view.seen all.view.seen

-- Of all passes those up to `rest` are left, and the others have met `p`, the last one first. It was `first` before.
pub record Meeting (book : Book) (first : PassSeen) (all rest : List PassSeen) (p : PassSeen) : Type 0 where
  pub gone : List PassSeen
  pub parts : all ≡ rest ++ gone
  pub of : IsPassOf book p
  pub knows : KnowsHistory p.view
  pub number : p.view.number ≡ first.view.number
  pub mine : p.view.mine ≡ first.view.mine
  pub ended : p.view.ended ≡ map ended_pass (reverse gone)
  pub made : p.view.made ≡ made_at (length all + 1) (length rest)
  pub met : All (λ x. HasMetPass x p) gone

-- pass k of so many, before and after the events of its job: none ended in it
pub record IsHired (book : Book) (count k : ℕ) (p : PassSeen) : Type 0 where
  pub of : IsPassOf book p
  pub number : p.view.number ≡ k
  pub ended : p.view.ended ≡ []
  pub made : p.view.made ≡ made_at count k

-- each pass at its place
abbrev pub AreHired : Book → ℕ → List PassSeen → Type 0
AreHired book count passes = (k : ℕ) (p : PassSeen) → slice_get passes k ≡ Some p → IsHired book count k p
