-- What the fields of `Names` hold.
use Rattle.std.specs.Prelude.{ℕ, ◌<◌, ◌^◌, List, ◌++◌, length, map}
use Rattle.mars_tree.specs.declared.names.Names.TheInside.{Inside}
use Rattle.mars_tree.specs.Names.{built_in_names, AreDistinct}

-- the built-in names, and after them those that were added
abbrev pub names_of : Inside → List (List ℕ)
names_of n = built_in_names ++ map (λ text. text.items) n.added.keys

-- no two are the same, and each place fits a name's number
pub record AreNames (n : Inside) : Type 0 where
  pub distinct : AreDistinct (names_of n)
  pub bound : length (names_of n) < 2 ^ 32
