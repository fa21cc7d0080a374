-- What a door shows its caller: a legal history that grows.
use Rattle.std.specs.Prelude.{◌≡◌, Bool, true, List, [], ◌∷◌, ◌++◌}
use Rattle.mars_table.specs.declared.entry.Entry.{Entry}

-- what was seen grows to a history that ends with the entry; where nobody else calls, by the entry alone
pub record SeesMore (lone : Bool) (old new : List Entry) (e : Entry) : Type 0 where
  pub between : List Entry
  pub ends : new ≡ (old ++ between) ++ e ∷ []
  pub alone : lone ≡ true → between ≡ []
