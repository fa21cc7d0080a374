-- What the code knows of a use of the table.
use Rattle.std.specs.Prelude.{◌≡◌, ℕ, List, [], ◌∷◌, ◌++◌, Some}
use Rattle.mars_session.specs.declared.named.Named.{Named}
use Rattle.mars_session.specs.declared.wishes.Wish.{Wish}
use Rattle.mars_session.specs.declared.wishes.Wish.TheVariants as wish
use Rattle.mars_session.specs.declared.wishes.Change.{Change}
use Rattle.mars_session.specs.declared.wishes.Change.TheVariants.{Adds, Removes, Nothing}
use Rattle.mars_session.specs.declared.wishes.Outcome.{Outcome}
use Rattle.mars_table.specs.declared.entry.Reply.{Reply}
use Rattle.mars_session.specs.SessionPoints.{under_name, without_name}
use Rattle.mars_session.specs.CommandActs.{TableUse, Keeps, Pins, Shows, Drops, Sweeps, Counts, call_of, use_line, names_after}

-- a wish stands for a use: it names what the session has under a name
abbrev pub IsWish : List Named → Wish → TableUse → Type 0
IsWish names (wish.Keeps name tree) wanted = wanted ≡ Keeps name tree
IsWish names (wish.Pins new old) wanted = (n : Named) × (under_name names old ≡ Some n) × (wanted ≡ Pins new n)
IsWish names (wish.Shows name) wanted = (n : Named) × (under_name names name ≡ Some n) × (wanted ≡ Shows name n)
IsWish names (wish.Drops name) wanted = (n : Named) × (under_name names name ≡ Some n) × (wanted ≡ Drops name n)
IsWish names wish.Sweeps wanted = wanted ≡ Sweeps
IsWish names wish.Counts wanted = wanted ≡ Counts

-- the names with a change
abbrev pub changed : List Named → Change → List Named
changed names (Adds named) = names ++ named ∷ []
changed names (Removes name) = without_name name names
changed names Nothing = names

-- what a reply to a use's call comes to
pub record IsOutcome (names : List (List ℕ)) (map : List Named) (wanted : TableUse) (reply : Reply) (o : Outcome) : Type 0 where
  pub call : o.call ≡ call_of wanted
  pub line : o.line.items ≡ use_line names wanted reply
  pub names_are : names_after map wanted reply ≡ changed map o.change
