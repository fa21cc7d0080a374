-- What of a pass stays the same while it makes calls.
use Rattle.std.specs.Prelude.{◌≡◌}
use Rattle.std.proofs.Common.{refl, ◌∙◌}
use Rattle.mars_book.specs.PassSeen.{PassSeen}

-- all but its entries and what it has seen
pub record SamePass (old new : PassSeen) : Type 0 where
  pub turn : new.turn ≡ old.turn
  pub number : new.view.number ≡ old.view.number
  pub fixed : new.view.fixed ≡ old.view.fixed
  pub ended : new.view.ended ≡ old.view.ended
  pub made : new.view.made ≡ old.view.made

pub same_pass : (p : PassSeen) → SamePass p p
same_pass p = record { turn = refl; number = refl; fixed = refl; ended = refl; made = refl }

pub same_on : (p q r : PassSeen) → SamePass p q → SamePass q r → SamePass p r
same_on p q r a b = record { turn = b.turn ∙ a.turn; number = b.number ∙ a.number; fixed = b.fixed ∙ a.fixed; ended = b.ended ∙ a.ended; made = b.made ∙ a.made }
